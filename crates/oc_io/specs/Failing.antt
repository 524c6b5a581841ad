-- The failing calls of a disk in memory: those that are listed, and all after a stop.
use Rattle.std.specs.Prelude.{◌≡◌, ℕ, ◌-◌, Bool, true, false, List, [], ◌∷◌, Option, None, Some}
use Rattle.oc_io.specs.Tally.{Tally, fresh}
use Rattle.oc_io.specs.declared.failures.Stop.{Stop}

-- the calls that are listed, made and failed, and the stop
pub record Failing : Type 0 where
  pub calls : Tally
  pub stop : Option Stop

-- no call was made, and none is to fail
abbrev pub no_failures : Failing
no_failures = record { calls = fresh []; stop = None }

-- the stop after one more call
abbrev pub passed : Option Stop → Option Stop
passed None = None
passed (Some stop) = Some (record stop { left = stop.left - 1 })

-- no further call of `write_at` and `sync` succeeds
abbrev pub IsStopped : Option Stop → Type 0
IsStopped None = ⊥
IsStopped (Some stop) = stop.left ≡ 0

-- no call is listed to fail, and no stop is set
abbrev pub none_fails : List ℕ → Option Stop → Bool
none_fails [] None = true
none_fails [] (Some stop) = false
none_fails (call ∷ calls) stop = false
