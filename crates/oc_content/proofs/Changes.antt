-- A change of one element of a list.
use Rattle.std.proofs.Common.{◌≡◌, ℕ, zero, suc, ◌<◌, List, [], ◌∷◌, length, get_or, set, sym, ap, arith}
use Rattle.oc_content.specs.Lines.{changed}

-- a change is a write of the changed item
pub changed_is : {X : Type 0} (f : X → X) (i : ℕ) (xs : List X) (x : X) → i < length xs → x ≡ get_or xs i x → changed f i xs ≡ set xs i (f x)
changed_is f i [] x h e = absurd (omega (arith, h))
changed_is f zero (y ∷ xs) x h e = ap (λ z. f z ∷ xs) (sym e)
changed_is f (suc i) (y ∷ xs) x h e = ap (λ l. y ∷ l) (changed_is f i xs x (omega (arith, h)) e)
