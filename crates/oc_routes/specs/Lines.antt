-- The lines of refusals: each is one line, whatever its parts are.
use Rattle.std.specs.Prelude.{ℕ, ◌≤◌, ◌<◌, ◌^◌, IsTrue, List, length}
use Rattle.std.specs.List.{list_all}
use Rattle.oc_http.specs.PlainLine.{is_shown}
use Rattle.oc_routes.specs.declared.refused.Refused.{Refused}
use Rattle.oc_routes.specs.declared.refused.Refused.TheVariants.{At, Denied}

-- the number of a rule and the length of a group fit 64 bits
abbrev pub IsCounted : Refused → Type 0
IsCounted (Denied rule needs_token) = rule < 2 ^ 64
IsCounted (At length) = length < 2 ^ 64
IsCounted refused = Unit {0}

-- an address that can be told: at most 300 bytes from the space to `~`
pub record IsTellable (address : List ℕ) : Type 0 where
  pub most : length address ≤ 300
  pub shown : IsTrue (list_all is_shown address)
