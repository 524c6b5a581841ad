-- The node and the input of an act.
use Rattle.std.specs.Prelude.{ℕ, Option, Some, None}
use Rattle.oc_base.specs.Lawful.{IsNode}
use Rattle.oc_model.specs.declared.input.Input.{Input}
use Rattle.oc_model.specs.Lawful.{IsInput}
use Rattle.oc_model.specs.World.{Arrival}

-- an input with its node, as the model has it
abbrev pub arrival_at : ℕ × Input → Arrival
arrival_at (x, i) = record { at = x; input = i }

-- an input of its node, if there is one
abbrev pub IsLawfulArrival : ℕ → Option (ℕ × Input) → Type 0
IsLawfulArrival nodes None = Unit {0}
IsLawfulArrival nodes (Some (x, i)) = IsNode nodes x × IsInput nodes x i
