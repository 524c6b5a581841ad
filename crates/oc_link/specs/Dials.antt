-- The dials of a link and the address at which it listens, by its calls.
use Rattle.std.specs.Prelude.{ℕ, Bool, true, false, ◌==◌, if◌then◌else◌, Option, None, Some, List, [], ◌∷◌}
use Rattle.std.specs.Option.{option_map}
use Rattle.oc_link.specs.declared.call.Call.{Call}
use Rattle.oc_link.specs.declared.call.Call.TheVariants as acts
use Rattle.oc_link.specs.declared.event.Coming.{Coming}
use Rattle.oc_link.specs.declared.event.LinkEvent.TheVariants as events

-- the reply on a dial, and the end of its bytes
pub record Reply : Type 0 where
  pub bytes : List ℕ
  pub coming : Coming

-- a dial: its address, the bytes sent, and its reply, if it has come
pub record Dial : Type 0 where
  pub address : List ℕ
  pub sent : List ℕ
  pub reply : Option Reply

-- the dial after its reply came
abbrev pub replied : List ℕ → Coming → Dial → Dial
replied bytes coming dial = record dial { reply = Some (record { bytes = bytes; coming = coming }) }

-- the dial d after one more call
abbrev pub dials : ℕ → Call → Option Dial → Option Dial
dials d (acts.Dial e address bytes) dial = if e == d then Some (record { address = address; sent = bytes; reply = None }) else dial
dials d (acts.Next (events.Reply e coming) bytes) dial = if e == d then option_map (replied bytes coming) dial else dial
dials d call dial = dial

-- the dial d after these calls
abbrev pub dials_after : ℕ → List Call → Option Dial → Option Dial
dials_after d [] dial = dial
dials_after d (call ∷ calls) dial = dials_after d calls (dials d call dial)

-- the last dial with the number d
abbrev pub dial_of : ℕ → List Call → Option Dial
dial_of d calls = dials_after d calls None

-- whether a dial is under way after one more call
abbrev pub dialling : ℕ → Call → Bool → Bool
dialling d (acts.Dial e address bytes) was = if e == d then true else was
dialling d (acts.Next (events.Reply e coming) bytes) was = if e == d then false else was
dialling d call was = was

-- whether a dial is under way after these calls
abbrev pub dialling_after : ℕ → List Call → Bool → Bool
dialling_after d [] was = was
dialling_after d (call ∷ calls) was = dialling_after d calls (dialling d call was)

-- whether the dial d is under way
abbrev pub is_dialling : ℕ → List Call → Bool
is_dialling d calls = dialling_after d calls false

-- the address at which the link listens, after one more call
abbrev pub listens : Call → Option (List ℕ) → Option (List ℕ)
listens (acts.Listen address) was = Some address
listens call was = was

-- the address at which the link listens, after these calls
abbrev pub listens_after : List Call → Option (List ℕ) → Option (List ℕ)
listens_after [] was = was
listens_after (call ∷ calls) was = listens_after calls (listens call was)

-- the address at which the link listens
abbrev pub address_of : List Call → Option (List ℕ)
address_of calls = listens_after calls None
