-- Steps that gave a value.
use Rattle.std.proofs.Common.{◌≡◌, Option, Some, None, Result, Ok, Err, refl}
use Rattle.std.specs.Prelude.{ok_or}
use Rattle.oc_base.specs.Steps.{◌>>=◌}

pub record IsStep {A B E : Type 0} (r : Result A E) (f : A → Result B E) (y : B) : Type 0 where
  pub value : A
  pub first : r ≡ Ok value
  pub then : f value ≡ Ok y

-- a value of two steps means a value of each
pub steps : {A B E : Type 0} (r : Result A E) (f : A → Result B E) (y : B) → (r >>= f) ≡ Ok y → IsStep r f y
steps (Ok x) f y e = record { value = x; first = refl; then = e }
steps (Err fault) f y e = cc

-- a value that was read is there
pub there : {A E : Type 0} (o : Option A) (fault : E) (x : A) → ok_or o fault ≡ Ok x → o ≡ Some x
there None fault x e = cc
there (Some y) fault x e = cc
