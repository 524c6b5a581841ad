-- Counters of bytes, which stay at the greatest u64.
use Rattle.std.specs.Prelude.{◌≡◌, ℕ, ◌+◌, ◌-◌, ◌^◌, ◌≤◌, ◌⊎◌, List, [], ◌++◌, length}
use Rattle.std.proofs.Common.{inl, inr, arith}
use Rattle.std.proofs.lemmas.List.{length-append}

-- the greatest u64
abbrev pub last_count : ℕ
last_count = 2 ^ 64 - 1

-- the counter rose by n; or it is at the greatest u64, which the sum reaches or passes
abbrev pub Rises : ℕ → ℕ → ℕ → Type 0
Rises old n new = (new ≡ old + n) ⊎ ((last_count ≤ new) × (last_count ≤ old + n))

-- a counter does not rise for no bytes
pub Rises-none : (a : ℕ) → Rises a (length {A = ℕ} []) a
Rises-none a = inl (omega arith)

-- two rises, one after another, are one rise by their sum
rises_then : (a b c m n k : ℕ) → k ≡ m + n → Rises a m b → Rises b n c → Rises a k c
rises_then a b c m n k e (inl p) (inl q) = inl (omega (arith, e, p, q))
rises_then a b c m n k e (inl p) (inr q) = inr (q.0, omega (arith, e, p, q.1))
rises_then a b c m n k e (inr p) (inl q) = inr (omega (arith, q, p.0), omega (arith, e, p.1))
rises_then a b c m n k e (inr p) (inr q) = inr (q.0, omega (arith, e, p.1))

-- a rise for bytes, and a rise for more bytes after them
pub Rises-then : (a b c : ℕ) (x y : List ℕ) → Rises a (length x) b → Rises b (length y) c → Rises a (length (x ++ y)) c
Rises-then a b c x y p q = rises_then a b c (length x) (length y) (length (x ++ y)) (length-append x y) p q
