-- Two prefixes of the same bytes.
use Rattle.std.proofs.Common.{◌≡◌, ℕ, ◌≤◌, List, [], ◌∷◌, ◌++◌, length, refl, arith}

-- the shorter of two prefixes is a prefix of the other
pub shorter_front : (x y r s : List ℕ) → x ++ r ≡ y ++ s → length x ≤ length y → (z : List ℕ) × (y ≡ x ++ z)
shorter_front [] y r s e less = (y, refl)
shorter_front (a ∷ x) [] r s e less = absurd (omega (arith, less))
shorter_front (a ∷ x) (b ∷ y) r s e less =
    let inner : x ++ r ≡ y ++ s = cc in
    let found = shorter_front x y r s inner (omega (arith, less)) in
    (found.0, cc (found.1))

-- two prefixes that are equally long are one, and the bytes after them too
pub same_front : (x y r s : List ℕ) → x ++ r ≡ y ++ s → length x ≡ length y → (x ≡ y) × (r ≡ s)
same_front [] [] r s e long = (refl, e)
same_front [] (b ∷ y) r s e long = absurd (omega (arith, long))
same_front (a ∷ x) [] r s e long = absurd (omega (arith, long))
same_front (a ∷ x) (b ∷ y) r s e long =
    let inner : x ++ r ≡ y ++ s = cc in
    let found = same_front x y r s inner (omega (arith, long)) in
    (cc (found.0), found.1)
