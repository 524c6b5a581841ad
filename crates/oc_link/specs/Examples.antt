-- Worked examples of stories.
use Rattle.std.specs.Prelude.{◌≡◌, ℕ, Bool, true, false, Some, List, [], ◌∷◌, ◌++◌, refl}
use Rattle.oc_link.specs.declared.call.Call.{Call}
use Rattle.oc_link.specs.declared.call.Call.TheVariants as acts
use Rattle.oc_link.specs.declared.event.Coming.TheVariants as comings
use Rattle.oc_link.specs.declared.event.LinkEvent.{LinkEvent}
use Rattle.oc_link.specs.declared.event.LinkEvent.TheVariants as events
use Rattle.oc_link.specs.declared.event.Loss.TheVariants as losses
use Rattle.oc_link.specs.declared.phase.Phase.TheVariants as phases
use Rattle.oc_link.specs.Dials.{address_of, dial_of, is_dialling}
use Rattle.oc_link.specs.Stands.{may, standing_of}
use Rattle.oc_link.specs.Traffic.{asked, given, held}

-- a further part of the request with this number on connection 7, which was permitted to send a body or not
abbrev asks : ℕ → Bool → LinkEvent
asks number permitted = events.Request (record { connection = 7; number = number; permitted = permitted; coming = comings.Open })

-- A request of two bytes comes in two parts, and its reply is given in two pieces. The link listens at an address of one byte.
abbrev pub two_cuts : List Call
two_cuts =
    acts.Listen (58 ∷ [])
    ∷ acts.Next (asks 1 false) (97 ∷ [])
    ∷ acts.Next (asks 1 false) (98 ∷ [])
    ∷ acts.Take 7 2
    ∷ acts.Give 7 (120 ∷ [])
    ∷ acts.Next (events.Room 7) []
    ∷ acts.Give 7 (121 ∷ [])
    ∷ acts.Finish 7 (record { keeps = false; watched = true })
    ∷ []

pub two_cuts-listens : address_of two_cuts ≡ Some (58 ∷ [])
two_cuts-listens = refl

pub two_cuts-asked : asked 7 two_cuts ≡ 97 ∷ 98 ∷ []
two_cuts-asked = refl

pub two_cuts-given : given 7 two_cuts ≡ 120 ∷ 121 ∷ []
two_cuts-given = refl

pub two_cuts-phase : (standing_of 7 two_cuts).phase ≡ phases.Whole
two_cuts-phase = refl

-- the reply may still be lost, and there is no room for more
pub two_cuts-lost : may (events.Gone 7 losses.Failed) two_cuts ≡ true
two_cuts-lost = refl

pub two_cuts-full : may (events.Room 7) two_cuts ≡ false
two_cuts-full = refl

-- Another connection had no part in these calls.
pub two_cuts-other : given 8 two_cuts ≡ []
two_cuts-other = refl

-- Two requests of one byte each come at once. The connection stays open after the first reply.
abbrev pub two_at_once : List Call
two_at_once =
    acts.Next (asks 1 false) (97 ∷ 98 ∷ [])
    ∷ acts.Take 7 1
    ∷ acts.Give 7 (120 ∷ [])
    ∷ acts.Finish 7 (record { keeps = true; watched = true })
    ∷ []

pub two_at_once-held : held 7 two_at_once ≡ 98 ∷ []
two_at_once-held = refl

pub two_at_once-next : may (asks 2 false) two_at_once ≡ true
two_at_once-next = refl

-- the second one came before the first reply was sent in full, which may still be lost
pub two_at_once-lost : may (events.Gone 7 losses.Failed) (two_at_once ++ acts.Next (asks 2 false) [] ∷ []) ≡ true
two_at_once-lost = refl

pub two_at_once-first : may (asks 1 false) two_at_once ≡ false
two_at_once-first = refl

-- A connection was permitted to send its body. Its request comes again, marked as permitted.
abbrev pub with_leave : List Call
with_leave = acts.Next (asks 1 false) (97 ∷ []) ∷ acts.Give 7 (120 ∷ []) ∷ []

pub with_leave-again : may (asks 1 true) with_leave ≡ true
with_leave-again = refl

pub with_leave-anew : may (asks 1 false) with_leave ≡ false
with_leave-anew = refl

-- A follower waits: its request was taken, and no bytes were given. It has no room event to come, and may be lost.
abbrev pub waiting : List Call
waiting = acts.Next (asks 1 false) (97 ∷ []) ∷ acts.Take 7 1 ∷ []

pub waiting-wants : may (events.Room 7) waiting ≡ false
waiting-wants = refl

pub waiting-goes : may (events.Gone 7 losses.GaveWay) waiting ≡ true
waiting-goes = refl

-- A dial, its reply, and the clock, read just before and after.
abbrev pub probed : List Call
probed =
    acts.Millis 100
    ∷ acts.Dial 3 (58 ∷ []) (97 ∷ [])
    ∷ acts.Next (events.Reply 3 comings.Ended) (120 ∷ [])
    ∷ acts.Millis 130
    ∷ []

pub probed-dial : dial_of 3 probed ≡ Some (record { address = 58 ∷ []; sent = 97 ∷ []; reply = Some (record { bytes = 120 ∷ []; coming = comings.Ended }) })
probed-dial = refl

pub probed-over : is_dialling 3 probed ≡ false
probed-over = refl
