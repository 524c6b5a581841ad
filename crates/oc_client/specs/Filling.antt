-- Filling of a buffer.
use Rattle.std.specs.Prelude.{◌≡◌, ℕ, ◌+◌, List, ◌++◌, length, take}

-- a buffer with `done` filled bytes was filled further, up to `now`, with bytes that came from the
-- source
pub record Fills {S : Type 0} (gives : S → List ℕ → S → Type 0) (old new : S) (done now : ℕ) (before after : List ℕ) : Type 0 where
  pub bytes : List ℕ
  pub came : gives old bytes new
  pub long : now ≡ done + length bytes
  pub filled : take now after ≡ take done before ++ bytes
