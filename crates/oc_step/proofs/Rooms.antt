-- Room for the bytes that a plan wants.
use Rattle.std.proofs.Common.{◌≤◌, ℕ, Option, Some, None, IfSome, arith}
use Rattle.oc_model.specs.declared.want.Want.{Want}

-- more room is enough wherever less was
pub room_grows : (o : Option Want) (a b : ℕ) → a ≤ b → IfSome o (λ w. w.count ≤ a) → IfSome o (λ w. w.count ≤ b)
room_grows None a b more fits = tt
room_grows (Some w) a b more fits = omega (arith, more, fits)
