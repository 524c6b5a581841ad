use Rattle.std.proofs.Common.{◌≡◌, ℕ, ◌+◌, ◌-◌, ◌≤◌, Bool, true, false, cond, ltb, List, [], ◌∷◌, length, take, drop, Some, None, refl, sym, ap, ◌∙◌, subst, arith, inl, inr, length-drop}
use Rattle.std.specs.List.{slice_split, onto_first, position, position_or_len}
use Rattle.std.proofs.lemmas.List.Splits.{slice_split_first, slice_split-cons_no}
use Rattle.std.proofs.lemmas.List.{take_all}
use Rattle.std.proofs.lemmas.Bool.{ltb-true, cases_Bool}
use Rattle.std.proofs.lemmas.Bool.Decides.{nat_tests}

-- What a choice that gave a number, or none, was made by.

-- a test that gave a number passed
some_from_cond : (b : Bool) (n i : ℕ) → cond b (Some n) None ≡ Some i → (b ≡ true) × (n ≡ i)
some_from_cond true n i h = (refl, cc)
some_from_cond false n i h = cc

-- a test that gave none did not pass
none_from_cond : (b : Bool) (n : ℕ) → cond b (Some n) None ≡ None → b ≡ false
none_from_cond true n h = cc
none_from_cond false n h = refl

-- where no element passes before the end, there is one part
split_past_end : (p : ℕ → Bool) (xs : List ℕ) → length xs ≤ position_or_len p xs → slice_split p xs ≡ xs ∷ []
split_past_end p [] h = refl
split_past_end p (x ∷ xs) h = elim (cases_Bool (p x)) [
  | inl e ↦ let short : 0 ≡ position_or_len p (x ∷ xs) = rw e refl in absurd (omega (arith, h))
  | inr e ↦
      let deep : position_or_len p (x ∷ xs) ≡ position_or_len p xs + 1 = rw e (grind arith) in
      slice_split-cons_no p x xs e ∙ ap (onto_first x) (split_past_end p xs (omega arith))
]

-- a list with no separator is one part
pub split_whole : (p : ℕ → Bool) (xs : List ℕ) → position p xs ≡ None → slice_split p xs ≡ xs ∷ []
split_whole p xs h =
    let no = none_from_cond (ltb (position_or_len p xs) (length xs)) (position_or_len p xs) h in
    split_past_end p xs (grind (arith, nat_tests))

-- the parts after the first one are those of the bytes after the separator
pub split_at_first : (p : ℕ → Bool) (xs : List ℕ) (i : ℕ) → position p xs ≡ Some i → slice_split p xs ≡ take i xs ∷ slice_split p (take (length xs - (i + 1)) (drop (i + 1) xs))
split_at_first p xs i h =
    let found = some_from_cond (ltb (position_or_len p xs) (length xs)) (position_or_len p xs) i h in
    let rest : take (length xs - (i + 1)) (drop (i + 1) xs) ≡ drop (i + 1) xs = take_all (length xs - (i + 1)) (drop (i + 1) xs) (omega (arith, length-drop (i + 1) xs)) in
    subst (λ (k : ℕ). slice_split p xs ≡ take k xs ∷ slice_split p (take (length xs - (i + 1)) (drop (i + 1) xs))) found.1
    (slice_split_first p xs 0 (ltb-true _ _ found.0) ∙ ap (λ (ys : List ℕ). take (position_or_len p xs) xs ∷ slice_split p ys) (ap (λ (k : ℕ). drop (k + 1) xs) found.1 ∙ sym rest))
