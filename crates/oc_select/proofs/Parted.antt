-- What a separator cuts has at least one part.
use Rattle.std.proofs.Common.{◌≡◌, ℕ, Bool, List, [], ◌∷◌, Some, refl, sym, ap, ◌∙◌, inl, inr}
use Rattle.std.specs.List.{slice_split, onto_first}
use Rattle.std.proofs.lemmas.Bool.{cases_Bool}
use Rattle.std.proofs.lemmas.List.Splits.{slice_split-cons_yes, slice_split-cons_no}
use Rattle.oc_select.specs.Media.{last_of, last_of_several}

first_part : (p : ℕ → Bool) (xs : List ℕ) → (part : List ℕ) × (more : List (List ℕ)) × (slice_split p xs ≡ part ∷ more)
first_part p [] = ([], [], refl)
first_part p (x ∷ xs) = elim (cases_Bool (p x)) [
  | inl passes ↦ ([], slice_split p xs, slice_split-cons_yes p x xs passes)
  | inr other ↦
      let rest = first_part p xs in
      (x ∷ rest.0, rest.1, slice_split-cons_no p x xs other ∙ ap (λ (ps : List (List ℕ)). onto_first x ps) rest.2)
]

-- the last part is one of those after the first
pub last_after : (p : ℕ → Bool) (part xs : List ℕ) → last_of (part ∷ slice_split p xs) ≡ last_of (slice_split p xs)
last_after p part xs =
    let rest = first_part p xs in
    ap (λ (ps : List (List ℕ)). last_of (part ∷ ps)) rest.2 ∙ sym (ap (λ (ps : List (List ℕ)). last_of ps) rest.2)

pub several_after : (p : ℕ → Bool) (part xs : List ℕ) → last_of_several (part ∷ slice_split p xs) ≡ Some (last_of (slice_split p xs))
several_after p part xs =
    let rest = first_part p xs in
    ap (λ (ps : List (List ℕ)). last_of_several (part ∷ ps)) rest.2 ∙ sym (ap (λ (ps : List (List ℕ)). Some (last_of ps)) rest.2)
