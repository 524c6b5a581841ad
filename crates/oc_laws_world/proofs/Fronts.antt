-- Prefixes and pieces of lists of bytes.
use Rattle.std.proofs.Common.{◌≡◌, ℕ, zero, suc, ◌+◌, ◌-◌, ◌≤◌, min, List, [], ◌∷◌, ◌++◌, length, take, drop, refl, ap, sym, subst, ◌∙◌, arith, length-append, length-drop, length-take, take-append-drop, take_all, take_at, take-take, append-nil}
use Rattle.std.proofs.lemmas.List.{drop_all, drop-drop}

-- xs is a prefix of ys
abbrev pub IsFront : List ℕ → List ℕ → Type 0
IsFront xs ys = xs ≡ take (length xs) ys

-- a list is a prefix of itself
pub front_itself : (xs : List ℕ) → IsFront xs xs
front_itself xs = sym (take_all (length xs) xs (omega arith))

-- a list is a prefix of the list with more at the end
pub front_append : (xs ys : List ℕ) → IsFront xs (xs ++ ys)
front_append xs ys = sym (take_at xs ys (length xs) refl)

-- a list is its prefix and the rest
pub front_rest : (xs ys : List ℕ) → IsFront xs ys → ys ≡ xs ++ drop (length xs) ys
front_rest xs ys f = sym (ap (λ zs. zs ++ drop (length xs) ys) f ∙ take-append-drop (length xs) ys)

-- a prefix is no longer than its list
pub front_length : (xs ys : List ℕ) → IsFront xs ys → length xs ≤ length ys
front_length xs ys f = let e : length xs ≡ min (length xs) (length ys) = ap length f ∙ length-take (length xs) ys in omega arith

-- a prefix of a prefix is a prefix
pub front_along : (xs ys zs : List ℕ) → IsFront xs ys → IsFront ys zs → IsFront xs zs
front_along xs ys zs f g =
    let within : length xs ≤ length ys = front_length xs ys f in
    f ∙ (ap (take (length xs)) g ∙ take-take (length xs) (length ys) zs within)

-- a prefix as long as the list is the list
pub front_whole : (xs ys : List ℕ) → IsFront xs ys → length ys ≤ length xs → xs ≡ ys
front_whole xs ys f long = f ∙ take_all (length xs) ys long

-- xs is the piece of ys from byte `start` on
abbrev pub IsPiece : ℕ → List ℕ → List ℕ → Type 0
IsPiece start xs ys = IsFront xs (drop start ys)

-- the first n bytes of a list are a prefix
pub front_of_take : (n : ℕ) (ys : List ℕ) → IsFront (take n ys) ys
front_of_take n [] = by_count n where
  by_count : (n : ℕ) → IsFront (take n []) []
  by_count zero = refl
  by_count (suc n) = refl
front_of_take zero (y ∷ ys) = refl
front_of_take (suc n) (y ∷ ys) = ap (λ zs. y ∷ zs) (front_of_take n ys)

-- a list without its first bytes is a prefix of the longer list without them
drop_front : (start : ℕ) (xs more : List ℕ) → IsFront (drop start xs) (drop start (xs ++ more))
drop_front zero xs more = front_append xs more
drop_front (suc n) [] more = refl
drop_front (suc n) (x ∷ xs) more = drop_front n xs more

-- a piece of a prefix is a piece of the whole, at the same place
pub piece_along : (start : ℕ) (xs ys zs : List ℕ) → IsPiece start xs ys → IsFront ys zs → IsPiece start xs zs
piece_along start xs ys zs f g =
    let longer : IsFront (drop start ys) (drop start zs) = rw (front_rest ys zs g) (drop_front start ys (drop (length ys) zs)) in
    front_along xs (drop start ys) (drop start zs) f longer

-- n bytes cut out of a list are a piece of the list
pub piece_cut : (start n : ℕ) (ys : List ℕ) → IsPiece start (take n (drop start ys)) ys
piece_cut start n ys = front_of_take n (drop start ys)

-- a prefix grown by a piece that begins no later than the prefix ends
abbrev pub joined : List ℕ → ℕ → List ℕ → List ℕ
joined xs start bytes = xs ++ drop (length xs - start) bytes

-- a prefix without its first bytes is a prefix of the list without them
drop_of_front : (n : ℕ) (xs ys : List ℕ) → IsFront xs ys → IsFront (drop n xs) (drop n ys)
drop_of_front zero xs ys f = f
drop_of_front (suc n) [] ys f = refl
drop_of_front (suc n) (x ∷ xs) [] f = absurd cc
drop_of_front (suc n) (x ∷ xs) (y ∷ ys) f = drop_of_front n xs ys cc

-- a prefix stays one where the same list comes before both
append_front : (xs ys zs : List ℕ) → IsFront ys zs → IsFront (xs ++ ys) (xs ++ zs)
append_front [] ys zs f = f
append_front (x ∷ xs) ys zs f = ap (λ ws. x ∷ ws) (append_front xs ys zs f)

-- a prefix grown by a piece of the same list is a prefix
pub joined_front : (xs : List ℕ) (start : ℕ) (bytes ys : List ℕ) → IsFront xs ys → start ≤ length xs → IsPiece start bytes ys → IsFront (joined xs start bytes) ys
joined_front xs start bytes ys f within piece =
    let here : start + (length xs - start) ≡ length xs = omega arith in
    let rest : drop (length xs - start) (drop start ys) ≡ drop (length xs) ys = drop-drop (length xs - start) start ys ∙ ap (λ n. drop n ys) here in
    let more : IsFront (drop (length xs - start) bytes) (drop (length xs) ys) = subst (λ zs. IsFront (drop (length xs - start) bytes) zs) rest (drop_of_front (length xs - start) bytes (drop start ys) piece) in
    subst (λ zs. IsFront (joined xs start bytes) zs) (sym (front_rest xs ys f)) (append_front xs (drop (length xs - start) bytes) (drop (length xs) ys) more)

-- a prefix grown by a piece that ends no earlier ends where the piece ends
pub joined_length : (xs : List ℕ) (start : ℕ) (bytes : List ℕ) → start ≤ length xs → length xs ≤ start + length bytes → length (joined xs start bytes) ≡ start + length bytes
joined_length xs start bytes within long = omega (arith, length-append xs (drop (length xs - start) bytes), length-drop (length xs - start) bytes)

-- a piece that ends within the prefix adds nothing
pub joined_within : (xs : List ℕ) (start : ℕ) (bytes : List ℕ) → start + length bytes ≤ length xs → joined xs start bytes ≡ xs
joined_within xs start bytes short =
    let none : drop (length xs - start) bytes ≡ [] = drop_all (length xs - start) bytes (omega arith) in
    ap (λ zs. xs ++ zs) none ∙ append-nil xs
