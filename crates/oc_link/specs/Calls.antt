-- The effect of each call on the story of a dialler, if the dialler tells its story.
use Rattle.std.specs.Prelude.{◌≡◌, ℕ, true, Option, None, Some, List, [], ◌∷◌, ◌++◌}
use Rattle.std.specs.Option.{option_map}
use Rattle.oc_link.specs.Story.{Connection, Dial, Story, dials, unused, wrote, hung_up}

-- a dialler that still tells its story told it before, and the story went on in this way
abbrev pub Told : (Story → Story → Type 0) → Option Story → Option Story → Type 0
Told R old None = Unit {0}
Told R None (Some new) = ⊥
Told R (Some old) (Some new) = R old new

-- the story has this property, if the dialler tells it
abbrev pub IfTold : Option Story → (Story → Type 0) → Type 0
IfTold None P = Unit {0}
IfTold (Some s) P = P s

-- the connection of a dial, if there is one
abbrev pub connection_of : Option Dial → Option Connection
connection_of = option_map (λ d. d.connection)

-- the address of a dial, if there is one
abbrev pub address_of : Option Dial → Option (List ℕ)
address_of = option_map (λ d. d.address)

-- only the outgoing connection changed, in this way
pub record OnOutgoing (R : Option Connection → Option Connection → Type 0) (old new : Story) : Type 0 where
  pub outgoing : R (connection_of old.outgoing) (connection_of new.outgoing)
  pub address : address_of new.outgoing ≡ address_of old.outgoing
  pub rest : new ≡ record old { outgoing = new.outgoing }

-- a new dial to this address, on which these bytes were written and which will give some reply; the dial before ended
abbrev pub DialsTo : List ℕ → List ℕ → Story → Story → Type 0
DialsTo address bytes old new = (reply : List ℕ)
    × (new ≡ record (hung_up old) { outgoing = Some (record { address = address; connection = wrote bytes (unused reply) }) })

-- a list is a prefix of another
abbrev pub IsFront : List ℕ → List ℕ → Type 0
IsFront front whole = (rest : List ℕ) × (whole ≡ front ++ rest)

-- a failed dial, of which the story keeps prefixes of the address and of the bytes
pub record IsCutDial (to bytes : List ℕ) (dial : Dial) : Type 0 where
  pub address : IsFront dial.address to
  pub written : IsFront dial.connection.written bytes
  pub failed : dial.connection.failed ≡ true

-- a new dial failed and ended, and the dial before ended
abbrev pub DialFails : List ℕ → List ℕ → Story → Story → Type 0
DialFails address bytes old new = (dial : Dial) × IsCutDial address bytes dial
    × (new ≡ record (hung_up old) { ended = dials old ++ dial ∷ [] })
