-- The best so far and the rest.
use Rattle.std.proofs.Common.{◌≡◌, ℕ, suc, Bool, true, false, if◌then◌else◌, Option, Some, None, List, ◌∷◌, ◌+◌, ◌<◌, length, get_or, drop, add-one, inl, inr, refl, ap, sym, ◌∙◌}
use Rattle.std.proofs.lemmas.Bool.{cases_Bool}
use Rattle.std.proofs.Math.Seq.{drop-cons}
use Rattle.std.specs.Prelude.{filter}
use Rattle.oc_model.specs.declared.place.Candidate.{Candidate}
use Rattle.oc_model.specs.Choice.{is_nearer, is_suitable, nearer_of, nearest}
use Rattle.oc_place.specs.Best.{nearer_yet, with_rest}
use Rattle.oc_place.proofs.Nearer.{nearer_passes, no_nearer_passes}

-- the nearer of two by any test: the second where it is nearer
abbrev second_if : (Candidate → Candidate → Bool) → Candidate → Candidate → Candidate
second_if near b c = if near c b then c else b

-- the nearest of three, by a test that passes both ways, however two of them are taken first
three : (near : Candidate → Candidate → Bool) (b c d : Candidate) → (near d c ≡ true → near c b ≡ true → near d b ≡ true) → (near d c ≡ false → near c b ≡ false → near d b ≡ false) → second_if near (second_if near b c) d ≡ second_if near b (second_if near c d)
three near b c d met not_so = elim (cases_Bool (near c b)) [
  | inl cb ↦ elim (cases_Bool (near d c)) [
    | inl dc ↦ (let db = met dc cb in simp (cb, dc, db))
    | inr dc ↦ simp (cb, dc)
  ]
  | inr cb ↦ elim (cases_Bool (near d c)) [
    | inl dc ↦ simp (cb, dc)
    | inr dc ↦ (let db = not_so dc cb in simp (cb, dc, db))
  ]
]

-- the nearest of three, however two of them are taken first
pub nearest_of_three : (b c d : Candidate) → nearer_of (nearer_yet (Some b) c) (Some d) ≡ nearer_of b (Some (nearer_of c (Some d)))
nearest_of_three b c d = three is_nearer b c d (nearer_passes d c b) (no_nearer_passes d c b)

-- a candidate that passes the test stays
filter_taken : (p : Candidate → Bool) (x : Candidate) (xs : List Candidate) → p x ≡ true → filter p (x ∷ xs) ≡ x ∷ filter p xs
filter_taken p x xs h = rw h refl

-- a candidate that fails the test does not stay
filter_left : (p : Candidate → Bool) (x : Candidate) (xs : List Candidate) → p x ≡ false → filter p (x ∷ xs) ≡ filter p xs
filter_left p x xs h = rw h refl

-- one more is taken into the best so far, or stays with the rest
pub one_more : (best : Option Candidate) (c : Candidate) (rest : Option Candidate) → with_rest (Some (nearer_yet best c)) rest ≡ with_rest best (Some (nearer_of c rest))
one_more None c rest = refl
one_more (Some b) c None = refl
one_more (Some b) c (Some d) = ap (λ (x : Candidate). Some x) (nearest_of_three b c d)

-- a suitable candidate is taken
pub taken : (direct : ℕ) (best : Option Candidate) (x : Candidate) (xs : List Candidate) → is_suitable direct x ≡ true → with_rest (Some (nearer_yet best x)) (nearest (filter (is_suitable direct) xs)) ≡ with_rest best (nearest (filter (is_suitable direct) (x ∷ xs)))
taken direct best x xs h =
    one_more best x (nearest (filter (is_suitable direct) xs))
    ∙ ap (λ (cs : List Candidate). with_rest best (nearest cs)) (sym (filter_taken (is_suitable direct) x xs h))

-- any other candidate is left
pub left : (direct : ℕ) (best : Option Candidate) (x : Candidate) (xs : List Candidate) → is_suitable direct x ≡ false → with_rest best (nearest (filter (is_suitable direct) xs)) ≡ with_rest best (nearest (filter (is_suitable direct) (x ∷ xs)))
left direct best x xs h = ap (λ (cs : List Candidate). with_rest best (nearest cs)) (sym (filter_left (is_suitable direct) x xs h))

-- the rest from an index on is the candidate there and the rest after it
pub rest_at : (xs : List Candidate) (i : ℕ) (x : Candidate) → i < length xs → x ≡ get_or xs i x → drop i xs ≡ x ∷ drop (i + 1) xs
rest_at xs i x short here = rw (add-one, drop-cons xs i x) (ap (λ (y : Candidate). y ∷ drop (suc i) xs) (sym here))

-- the best so far and the rest, after a suitable one
pub after_suitable : (direct : ℕ) (best new : Option Candidate) (xs : List Candidate) (i : ℕ) (x : Candidate) (whole : Option Candidate) → i < length xs → x ≡ get_or xs i x → with_rest best (nearest (filter (is_suitable direct) (drop i xs))) ≡ whole → is_suitable direct x ≡ true → new ≡ Some (nearer_yet best x) → with_rest new (nearest (filter (is_suitable direct) (drop (i + 1) xs))) ≡ whole
after_suitable direct best new xs i x whole short here so_far h e =
    ap (λ (b : Option Candidate). with_rest b (nearest (filter (is_suitable direct) (drop (i + 1) xs)))) e
    ∙ taken direct best x (drop (i + 1) xs) h
    ∙ ap (λ (ys : List Candidate). with_rest best (nearest (filter (is_suitable direct) ys))) (sym (rest_at xs i x short here))
    ∙ so_far

-- the best so far and the rest, after any other one
pub after_other : (direct : ℕ) (best new : Option Candidate) (xs : List Candidate) (i : ℕ) (x : Candidate) (whole : Option Candidate) → i < length xs → x ≡ get_or xs i x → with_rest best (nearest (filter (is_suitable direct) (drop i xs))) ≡ whole → is_suitable direct x ≡ false → new ≡ best → with_rest new (nearest (filter (is_suitable direct) (drop (i + 1) xs))) ≡ whole
after_other direct best new xs i x whole short here so_far h e =
    ap (λ (b : Option Candidate). with_rest b (nearest (filter (is_suitable direct) (drop (i + 1) xs)))) e
    ∙ left direct best x (drop (i + 1) xs) h
    ∙ ap (λ (ys : List Candidate). with_rest best (nearest (filter (is_suitable direct) ys))) (sym (rest_at xs i x short here))
    ∙ so_far
