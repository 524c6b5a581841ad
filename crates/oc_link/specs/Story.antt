-- The story of a dialler: its dials.
use Rattle.std.specs.Prelude.{◌≡◌, ℕ, Option, None, option_to_list, List, [], ◌++◌, IfSome}
pub use Rattle.oc_link.specs.Connection.{Connection, unused, wrote, broken}

-- a connection that was made to an address
pub record Dial : Type 0 where
  pub address : List ℕ
  pub connection : Connection

-- the dials of a dialler so far
pub record Story : Type 0 where
  -- the dials that ended, oldest first
  pub ended : List Dial
  -- the dial on which `dial_more`, `dial_read` and `hang_up` act
  pub outgoing : Option Dial

-- all dials, oldest first
abbrev pub dials : Story → List Dial
dials s = s.ended ++ option_to_list s.outgoing

-- a dial after its connection changed in this way
abbrev pub through : (Connection → Connection) → Dial → Dial
through f d = record d { connection = f d.connection }

-- the story after the outgoing connection ended
abbrev pub hung_up : Story → Story
hung_up s = record s { ended = dials s; outgoing = None }

-- the outgoing connection has no bytes left to give
abbrev pub IsHeardOut : Story → Type 0
IsHeardOut s = IfSome s.outgoing (λ d. d.connection.left ≡ [])
