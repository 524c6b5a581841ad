-- The best of the servers.
use Rattle.std.proofs.Common.{◌≡◌, ℕ, Bool, true, false, not, ◌&&◌, ◌||◌, if◌then◌else◌, Option, Some, None, List, [], ◌∷◌, inl, inr, refl, ap, sym, subst, ◌∙◌, arith}
use Rattle.std.proofs.lemmas.Bool.{cases_Bool}
use Rattle.std.proofs.lemmas.Bool.Decides.{nat_tests}
use Rattle.oc_model.specs.Numbers.{IsAmong}
use Rattle.oc_model.specs.Selected.{is_freer}
use Rattle.oc_updown.specs.Better.{is_near, is_better, beats, better_of, with_best, best_of, with_rest}

-- freer than a freer one is freer
freer_passes : (counts : List ℕ) (d c b : ℕ) → is_freer counts d c ≡ true → is_freer counts c b ≡ true → is_freer counts d b ≡ true
freer_passes counts d c b x y = grind (arith, nat_tests)

-- no freer than one that is no freer is no freer
no_freer_passes : (counts : List ℕ) (d c b : ℕ) → is_freer counts d c ≡ false → is_freer counts c b ≡ false → is_freer counts d b ≡ false
no_freer_passes counts d c b x y = grind (arith, nat_tests)

-- none is freer than itself
not_freer_itself : (counts : List ℕ) (c : ℕ) → is_freer counts c c ≡ false
not_freer_itself counts c = grind (arith, nat_tests)

-- at most one of two nodes is freer
freer_one_way : (counts : List ℕ) (c d : ℕ) → is_freer counts c d ≡ true → is_freer counts d c ≡ false
freer_one_way counts c d h = grind (arith, nat_tests)

-- the test of the better node: whether each is in the area, and whether one is freer
abbrev pub by_area : Bool → Bool → Bool → Bool
by_area x y freer = if x then not y || freer else not y && freer

-- the test passes on where that of the freer one does
passes : (d c b dc cb db : Bool) → (dc ≡ true → cb ≡ true → db ≡ true) → by_area d c dc ≡ true → by_area c b cb ≡ true → by_area d b db ≡ true
passes true true true dc cb db h x y = h x y
passes true true false dc cb db h x y = refl
passes true false true dc cb db h x y = absurd cc
passes true false false dc cb db h x y = refl
passes false true b dc cb db h x y = absurd cc
passes false false true dc cb db h x y = absurd cc
passes false false false dc cb db h x y = h x y

-- the failure of the test passes on where the failure of the freer one does
no_passes : (d c b dc cb db : Bool) → (dc ≡ false → cb ≡ false → db ≡ false) → by_area d c dc ≡ false → by_area c b cb ≡ false → by_area d b db ≡ false
no_passes true true true dc cb db h x y = h x y
no_passes true true false dc cb db h x y = absurd cc
no_passes true false b dc cb db h x y = absurd cc
no_passes false true true dc cb db h x y = refl
no_passes false true false dc cb db h x y = absurd cc
no_passes false false true dc cb db h x y = refl
no_passes false false false dc cb db h x y = h x y

-- no node passes the test with itself
itself : (c cc' : Bool) → cc' ≡ false → by_area c c cc' ≡ false
itself true f h = h
itself false f h = h

-- at most one of two nodes passes the test
one_way : (c d cd dc : Bool) → (cd ≡ true → dc ≡ false) → by_area c d cd ≡ true → by_area d c dc ≡ false
one_way true true cd dc h x = h x
one_way true false cd dc h x = refl
one_way false true cd dc h x = absurd cc
one_way false false cd dc h x = h x

-- better than a better one is better
pub better_passes : (areas counts : List ℕ) (area d c b : ℕ) → is_better areas counts area d c ≡ true → is_better areas counts area c b ≡ true → is_better areas counts area d b ≡ true
better_passes areas counts area d c b = passes (is_near areas area d) (is_near areas area c) (is_near areas area b) (is_freer counts d c) (is_freer counts c b) (is_freer counts d b) (freer_passes counts d c b)

-- no better than one that is no better is no better
pub no_better_passes : (areas counts : List ℕ) (area d c b : ℕ) → is_better areas counts area d c ≡ false → is_better areas counts area c b ≡ false → is_better areas counts area d b ≡ false
no_better_passes areas counts area d c b = no_passes (is_near areas area d) (is_near areas area c) (is_near areas area b) (is_freer counts d c) (is_freer counts c b) (is_freer counts d b) (no_freer_passes counts d c b)

-- none is better than itself
pub not_better_itself : (areas counts : List ℕ) (area c : ℕ) → is_better areas counts area c c ≡ false
not_better_itself areas counts area c = itself (is_near areas area c) (is_freer counts c c) (not_freer_itself counts c)

-- at most one of two nodes is better
pub better_one_way : (areas counts : List ℕ) (area c d : ℕ) → is_better areas counts area c d ≡ true → is_better areas counts area d c ≡ false
better_one_way areas counts area c d = one_way (is_near areas area c) (is_near areas area d) (is_freer counts c d) (is_freer counts d c) (freer_one_way counts c d)

-- the best of three, by a test that passes on both ways, however two of them are taken first
pub three : (better : ℕ → ℕ → Bool) (b c d : ℕ) → (better d c ≡ true → better c b ≡ true → better d b ≡ true) → (better d c ≡ false → better c b ≡ false → better d b ≡ false) → better_of better (better_of better b c) d ≡ better_of better b (better_of better c d)
three better b c d met not_so = elim (cases_Bool (better c b)) [
  | inl cb ↦ elim (cases_Bool (better d c)) [
    | inl dc ↦ (let db = met dc cb in simp (cb, dc, db))
    | inr dc ↦ simp (cb, dc)
  ]
  | inr cb ↦ elim (cases_Bool (better d c)) [
    | inl dc ↦ simp (cb, dc)
    | inr dc ↦ (let db = not_so dc cb in simp (cb, dc, db))
  ]
]

-- the best so far with one more
abbrev pub best_yet : (ℕ → ℕ → Bool) → Option ℕ → ℕ → Option ℕ
best_yet better best x = if beats better x best then Some x else best

-- the better of two is the second, where it is better
pub takes : (better : ℕ → ℕ → Bool) (b x : ℕ) → better x b ≡ true → better_of better b x ≡ x
takes better b x h = rw h refl

-- the first stays the best, if the second is not better
pub keeps : (better : ℕ → ℕ → Bool) (b x : ℕ) → better x b ≡ false → better_of better b x ≡ b
keeps better b x h = rw h refl

-- one more after a best so far, by the test
one_more_by : (better : ℕ → ℕ → Bool) (b x : ℕ) (rest : Option ℕ) → ((d : ℕ) → better d x ≡ true → better x b ≡ true → better d b ≡ true) → ((d : ℕ) → better d x ≡ false → better x b ≡ false → better d b ≡ false) → (t : Bool) → better x b ≡ t → with_rest better (if t then Some x else Some b) rest ≡ Some (better_of better b (with_best better x rest))
one_more_by better b x None met not_so true h = ap (λ (y : ℕ). Some y) (sym (takes better b x h))
one_more_by better b x None met not_so false h = ap (λ (y : ℕ). Some y) (sym (keeps better b x h))
one_more_by better b x (Some d) met not_so true h = ap (λ (y : ℕ). Some y) (ap (λ (y : ℕ). better_of better y d) (sym (takes better b x h)) ∙ three better b x d (met d) (not_so d))
one_more_by better b x (Some d) met not_so false h = ap (λ (y : ℕ). Some y) (ap (λ (y : ℕ). better_of better y d) (sym (keeps better b x h)) ∙ three better b x d (met d) (not_so d))

-- one more is taken into the best so far, or stays with the rest
pub one_more : (areas counts : List ℕ) (area : ℕ) (best : Option ℕ) (x : ℕ) (rest : Option ℕ) → with_rest (is_better areas counts area) (best_yet (is_better areas counts area) best x) rest ≡ with_rest (is_better areas counts area) best (Some (with_best (is_better areas counts area) x rest))
one_more areas counts area None x rest = refl
one_more areas counts area (Some b) x rest = one_more_by (is_better areas counts area) b x rest (λ d. better_passes areas counts area d x b) (λ d. no_better_passes areas counts area d x b) (is_better areas counts area x b) refl

-- k is the best of the list: in the list, and no node of the list is better
pub record IsBestOf (better : ℕ → ℕ → Bool) (xs : List ℕ) (k : ℕ) : Type 0 where
  pub among : IsAmong k xs
  pub least : (y : ℕ) → IsAmong y xs → better y k ≡ false

-- the best of one and of those after it, by the test
best_of_more : (areas counts : List ℕ) (area x : ℕ) (xs : List ℕ) (b : ℕ) → IsBestOf (is_better areas counts area) xs b → (t : Bool) → is_better areas counts area b x ≡ t → IsBestOf (is_better areas counts area) (x ∷ xs) (if t then b else x)
best_of_more areas counts area x xs b n true e = record {
  among = inr n.among;
  least = λ d h. elim h [ inl same ↦ subst (λ (z : ℕ). is_better areas counts area z b ≡ false) same (better_one_way areas counts area b x e) | inr behind ↦ n.least d behind ];
}
best_of_more areas counts area x xs b n false e = record {
  among = inl refl;
  least = λ d h. elim h [ inl same ↦ subst (λ (z : ℕ). is_better areas counts area z x ≡ false) same (not_better_itself areas counts area x) | inr behind ↦ no_better_passes areas counts area d b x (n.least d behind) e ];
}

-- a list without a best node has no nodes
pub best_none : (better : ℕ → ℕ → Bool) (xs : List ℕ) (d : ℕ) → best_of better xs ≡ None → ¬ IsAmong d xs
best_none better [] d e = λ h. h
best_none better (x ∷ xs) d e = absurd cc

-- the best of one and of those after it, if there are any
best_step : (areas counts : List ℕ) (area x : ℕ) (xs : List ℕ) (o : Option ℕ) → best_of (is_better areas counts area) xs ≡ o → ((b : ℕ) → o ≡ Some b → IsBestOf (is_better areas counts area) xs b) → IsBestOf (is_better areas counts area) (x ∷ xs) (with_best (is_better areas counts area) x o)
best_step areas counts area x xs None e ih = record {
  among = inl refl;
  least = λ d h. elim h [ inl same ↦ subst (λ (z : ℕ). is_better areas counts area z x ≡ false) same (not_better_itself areas counts area x) | inr behind ↦ absurd (best_none (is_better areas counts area) xs d e behind) ];
}
best_step areas counts area x xs (Some b) e ih = best_of_more areas counts area x xs b (ih b refl) (is_better areas counts area b x) refl

-- the best by computation is the best of the list
pub best_is : (areas counts : List ℕ) (area : ℕ) (xs : List ℕ) (k : ℕ) → best_of (is_better areas counts area) xs ≡ Some k → IsBestOf (is_better areas counts area) xs k
best_is areas counts area [] k e = absurd cc
best_is areas counts area (x ∷ xs) k e =
    let same : with_best (is_better areas counts area) x (best_of (is_better areas counts area) xs) ≡ k = cc in
    subst (IsBestOf (is_better areas counts area) (x ∷ xs)) same (best_step areas counts area x xs (best_of (is_better areas counts area) xs) refl (λ b. best_is areas counts area xs b))
