-- Reading of a reply to a client that publishes, from a source.
use Rattle.std.specs.Prelude.{◌≡◌, ℕ, Bool, true, Result, Ok, Err, List}
use Rattle.oc_client.specs.declared.answer.Failure.{Failure}
use Rattle.oc_client.specs.declared.answer.Failure.TheVariants.{Link, Reply, Unavailable, Memory}

-- the bytes that came from the source; with the failure `Link` a call failed after them
abbrev pub Came : {S A : Type 0} → (S → List ℕ → S → Type 0) → (S → List ℕ → S → Type 0) → S → List ℕ → S → Result A Failure → Type 0
Came gives fails old bytes new (Ok value) = gives old bytes new
Came gives fails old bytes new (Err Reply) = gives old bytes new
Came gives fails old bytes new (Err Unavailable) = gives old bytes new
Came gives fails old bytes new (Err Memory) = gives old bytes new
Came gives fails old bytes new (Err Link) = fails old bytes new

-- bytes came, and this answer was made from them
pub record Hears {S A : Type 0} (gives fails : S → List ℕ → S → Type 0) (ended : S → Type 0) (So : List ℕ → Bool → Type 0) (old new : S) (result : Result A Failure) : Type 0 where
  pub reply : List ℕ
  pub over : Bool
  pub came : Came gives fails old reply new result
  pub is_over : over ≡ true → ended new
  pub so : So reply over
