-- Nodes by the lengths of their true chains, the longest first.
use Rattle.std.specs.Prelude.{ℕ, zero, suc, max, Bool, Option, None, unwrap_or, List, [], ◌∷◌, ◌++◌, filter}
use Rattle.oc_model.specs.Adopting.{is_number}
use Rattle.oc_model.specs.Numbers.{at}

-- the greatest known length, or 0 if none is known
unfoldable pub greatest_length : List (Option ℕ) → ℕ
greatest_length [] = 0
greatest_length (f ∷ fs) = max (unwrap_or f 0) (greatest_length fs)

-- whether x has this length
unfoldable pub has_found : List (Option ℕ) → ℕ → ℕ → Bool
has_found lengths n x = is_number (at lengths x None) n

-- the nodes of this list with a known length from 1 to n, the longest first
unfoldable pub longest_first : List (Option ℕ) → List ℕ → ℕ → List ℕ
longest_first lengths xs zero = []
longest_first lengths xs (suc n) = filter (has_found lengths (suc n)) xs ++ longest_first lengths xs n
