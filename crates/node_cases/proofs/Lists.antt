-- The properties of each item of a list, and of one more.
use Rattle.std.proofs.Common.{ℕ, List, [], ◌∷◌, ◌++◌}
use Rattle.std.specs.List.{AllByRecursion}
use Rattle.oc_model.specs.declared.input.Input.{Input}
use Rattle.oc_model.specs.Lawful.{IsInput}

-- lawful inputs and one more
pub inputs_push : (nodes me : ℕ) (inputs : List Input) (input : Input) → AllByRecursion (IsInput nodes me) inputs → IsInput nodes me input → AllByRecursion (IsInput nodes me) (inputs ++ input ∷ [])
inputs_push nodes me [] input all here = (here, tt)
inputs_push nodes me (first ∷ inputs) input all here = (all.0, inputs_push nodes me inputs input all.1 here)
