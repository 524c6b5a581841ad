-- Where the lines of a text end.
use Rattle.std.proofs.Common.{◌≡◌, ℕ, ◌<◌, ◌⊎◌, inl, inr, List, [], ◌∷◌, ◌++◌, length, sym, ap, arith, length-append}
use Rattle.std.specs.List.{AllByRecursion}
use Rattle.httparse.specs.Ascii.{line_feed}
use Rattle.oc_http.specs.Lines.{HasNoLineEnd}

-- a line and its end
abbrev pub ended : List ℕ → List ℕ
ended line = line ++ line_feed ∷ []

-- a text that ends a line is not empty
pub ended-some : (line rest : List ℕ) → ended line ++ rest ≡ [] → ⊥
ended-some [] rest h = cc
ended-some (b ∷ line) rest h = cc

-- a line that came makes bytes longer
pub longer : (before line after : List ℕ) → after ≡ before ++ ended line → length before < length after
longer before line after grown = omega (arith, ap length grown, length-append before (ended line), length-append line (line_feed ∷ []))

-- a line end in bytes whose last line has not ended comes before that last line
pub ends_before : (line rest before piece : List ℕ) → HasNoLineEnd piece → ended line ++ rest ≡ before ++ piece → (behind : List ℕ) × (before ≡ ended line ++ behind)
ends_before [] rest [] [] none h = cc
ends_before [] rest [] (c ∷ piece) none h = absurd (none.0 cc)
ends_before (a ∷ line) rest [] [] none h = cc
ends_before (a ∷ line) rest [] (c ∷ piece) none h =
    let inner : ended line ++ rest ≡ piece = cc in
    let found = ends_before line rest [] piece none.1 inner in
    absurd (ended-some line found.0 (sym found.1))
ends_before [] rest (b ∷ before) piece none h = (before, cc)
ends_before (a ∷ line) rest (b ∷ before) piece none h =
    let inner : ended line ++ rest ≡ before ++ piece = cc in
    let found = ends_before line rest before piece none inner in
    (found.0, cc (found.1))

-- a line end in bytes whose last line has just ended comes before that last line, or is the end of all bytes
pub ends_or_whole : (line rest before piece : List ℕ) → HasNoLineEnd piece → ended line ++ rest ≡ before ++ ended piece → (rest ≡ []) ⊎ ((behind : List ℕ) × (before ≡ ended line ++ behind))
ends_or_whole [] rest [] [] none h = inl cc
ends_or_whole [] rest [] (c ∷ piece) none h = absurd (none.0 cc)
ends_or_whole (a ∷ line) rest [] [] none h = absurd (ended-some line rest cc)
ends_or_whole (a ∷ line) rest [] (c ∷ piece) none h =
    let inner : ended line ++ rest ≡ ended piece = cc in
    elim (ends_or_whole line rest [] piece none.1 inner) [
      | inl e ↦ inl e
      | inr found ↦ absurd (ended-some line found.0 (sym found.1))
    ]
ends_or_whole [] rest (b ∷ before) piece none h = inr (before, cc)
ends_or_whole (a ∷ line) rest (b ∷ before) piece none h =
    let inner : ended line ++ rest ≡ before ++ ended piece = cc in
    elim (ends_or_whole line rest before piece none inner) [
      | inl e ↦ inl e
      | inr found ↦ inr (found.0, cc (found.1))
    ]

-- bytes past the line feed end no line
pub ends_high : (front : List ℕ) (b : ℕ) (bytes line : List ℕ) → AllByRecursion (λ x. line_feed < x) (b ∷ bytes) → front ++ b ∷ bytes ≡ ended line → ⊥
ends_high [] b bytes [] high h = let e : b ≡ line_feed = cc in omega (arith, high.0)
ends_high [] b [] (c ∷ line) high h = ended-some line [] cc
ends_high [] b (d ∷ bytes) (c ∷ line) high h = ends_high [] d bytes line high.1 cc
ends_high (a ∷ []) b bytes [] high h = cc
ends_high (a ∷ c ∷ front) b bytes [] high h = cc
ends_high (a ∷ front) b bytes (c ∷ line) high h = ends_high front b bytes line high cc
