-- The ends of the lines of a text.
use Rattle.std.proofs.Common.{◌≡◌, ℕ, ◌⊎◌, inl, inr, List, [], ◌∷◌, ◌++◌, refl}
use Rattle.httparse.specs.Ascii.{line_feed}
use Rattle.oc_http.proofs.LineEnds.{ended, ended-some}

-- bytes that end a line at the front of bytes end before their last byte, unless that byte ends it
pub ends_before : (line rest before : List ℕ) (b : ℕ) → ended line ++ rest ≡ before ++ b ∷ [] → (rest ≡ []) × (b ≡ line_feed) ⊎ ((behind : List ℕ) × (before ≡ ended line ++ behind))
ends_before [] [] [] b h = inl (refl, cc)
ends_before [] (c ∷ rest) [] b h = cc
ends_before (a ∷ line) rest [] b h = absurd (ended-some line rest cc)
ends_before [] rest (d ∷ before) b h = inr (before, cc)
ends_before (a ∷ line) rest (d ∷ before) b h =
    let inner : ended line ++ rest ≡ before ++ b ∷ [] = cc in
    elim (ends_before line rest before b inner) [
      | inl e ↦ inl e
      | inr found ↦ inr (found.0, cc (found.1))
    ]
