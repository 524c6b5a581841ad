-- Fronts of bytes.
use Rattle.std.proofs.Common.{◌≡◌, ℕ, ◌⊎◌, inl, inr, List, [], ◌∷◌, ◌++◌, refl}

-- a prefix of bytes is the whole, or a prefix of all but the last
pub all_or_less : (x r y : List ℕ) (b : ℕ) → x ++ r ≡ y ++ b ∷ [] → (r ≡ []) ⊎ ((z : List ℕ) × (y ≡ x ++ z))
all_or_less [] r y b e = inr (y, refl)
all_or_less (a ∷ x) r [] b e = inl (nothing x r cc)
  where
    nothing : (x r : List ℕ) → x ++ r ≡ [] → r ≡ []
    nothing [] r e = e
    nothing (a ∷ x) r e = absurd (cc)
all_or_less (a ∷ x) r (c ∷ y) b e =
    let inner : x ++ r ≡ y ++ b ∷ [] = cc in
    elim (all_or_less x r y b inner) [
      | inl none ↦ inl none
      | inr found ↦ inr (found.0, cc (found.1))
    ]
