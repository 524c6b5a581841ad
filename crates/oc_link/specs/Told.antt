-- The effect of each call on the story of a link, if the link tells its story.
use Rattle.std.specs.Prelude.{◌≡◌, ℕ, IsTrue, Option, None, Some, Result, Ok, Err, List, [], ◌∷◌, ◌++◌}
use Rattle.oc_io.specs.declared.fault.Failed.{Failed}
use Rattle.oc_link.specs.declared.call.Call.{Call}
use Rattle.oc_link.specs.declared.call.Call.TheVariants as acts
use Rattle.oc_link.specs.declared.event.LinkEvent.{LinkEvent}
use Rattle.oc_link.specs.declared.event.LinkEvent.TheVariants as events
use Rattle.oc_link.specs.Stands.{may}
use Rattle.oc_link.specs.Traffic.{held}

-- a link that still tells its story told it before, and the story went on in this way
abbrev pub Told : (List Call → List Call → Type 0) → Option (List Call) → Option (List Call) → Type 0
Told R old None = Unit {0}
Told R None (Some new) = ⊥
Told R (Some old) (Some new) = R old new

-- the story has this property, if the link tells it
abbrev pub IfTold : Option (List Call) → (List Call → Type 0) → Type 0
IfTold None P = Unit {0}
IfTold (Some calls) P = P calls

-- this call alone was added
abbrev pub IsMade : Call → List Call → List Call → Type 0
IsMade call old new = new ≡ old ++ call ∷ []

-- these calls were added, in this order
abbrev pub AreMade : List Call → List Call → List Call → Type 0
AreMade calls old new = new ≡ old ++ calls

abbrev pub Adds : Call → Option (List Call) → Option (List Call) → Type 0
Adds call = Told (IsMade call)

abbrev pub AddsAll : List Call → Option (List Call) → Option (List Call) → Type 0
AddsAll calls = Told (AreMade calls)

-- The bytes that an event lends: of a request all that came and were not taken yet, and of a reply all.
abbrev pub Lends : LinkEvent → List ℕ → List ℕ → List Call → Type 0
Lends (events.Request a) bytes lent calls = lent ≡ held a.connection calls
Lends (events.Reply d coming) bytes lent calls = lent ≡ bytes
Lends event bytes lent calls = Unit {0}

-- the event, which may come, came and lends these bytes
pub record GivesEvent (event : LinkEvent) (lent : List ℕ) (old new : List Call) : Type 0 where
  pub bytes : List ℕ
  pub could : IsTrue (may event old)
  pub made : IsMade (acts.Next event bytes) old new
  pub lends : Lends event bytes lent new

-- the answer of `next`, and the bytes that it lends
abbrev pub NextGives : Result LinkEvent Failed → List ℕ → Option (List Call) → Option (List Call) → Type 0
NextGives (Ok event) lent old new = Told (GivesEvent event lent) old new
NextGives (Err failed) lent old new = new ≡ old
