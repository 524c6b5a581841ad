-- The inputs that a schedule gives.
use Rattle.std.proofs.Common.{ℕ, arith}
use Rattle.oc_model.specs.declared.input.Input.{Input}
use Rattle.oc_model.specs.declared.input.Input.TheVariants as inputs
use Rattle.oc_model.specs.Lawful.{IsGiven, IsInput}

-- an input that a schedule may give is an input for any node
pub given_anywhere : (nodes x me : ℕ) (i : Input) → IsGiven nodes x i → IsInput nodes me i
given_anywhere nodes x me (inputs.Tick t) is = omega (arith, is)
given_anywhere nodes x me (inputs.Delivered m) is = absurd is
given_anywhere nodes x me i is = is
