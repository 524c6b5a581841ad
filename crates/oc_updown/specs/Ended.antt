-- Leases that have ended, as a fact about the table.
use Rattle.std.specs.Prelude.{◌≡◌, ℕ, ◌<◌, ◌≤◌, Option, None, Some, List}
use Rattle.oc_base.specs.declared.cert.Cert.{Cert}
use Rattle.oc_model.specs.Numbers.{at}
use Rattle.oc_model.specs.Table.{HasLease}

-- x is a child of y by the table, and its lease has ended: the end is set, and is not later than now
abbrev pub HasEnded : List Cert → ℕ → List (Option ℕ) → ℕ → ℕ → Type 0
HasEnded t y ends now x = ((s : ℕ) × HasLease t y x s) × ((end : ℕ) × (at ends x None ≡ Some end) × (end ≤ now))

-- the least such child past that id, or none
abbrev pub IsNextEnded : List Cert → ℕ → List (Option ℕ) → ℕ → ℕ → Option ℕ → Type 0
IsNextEnded t y ends after now None = (z : ℕ) → after < z → HasEnded t y ends now z → ⊥
IsNextEnded t y ends after now (Some x) = (after < x) × HasEnded t y ends now x × ((z : ℕ) → after < z → HasEnded t y ends now z → x ≤ z)
