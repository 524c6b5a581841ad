-- The first comma that is not within quotes ends the first part.
use Rattle.std.proofs.Common.{◌≡◌, ℕ, suc, ◌+◌, ◌-◌, Bool, true, false, cond, List, [], ◌∷◌, length, take, drop, Option, Some, None, refl, sym, ap, ◌∙◌, inl, inr, ◌⊎◌, arith, length-drop}
use Rattle.std.specs.List.{onto_first}
use Rattle.std.proofs.lemmas.List.{take_all}
use Rattle.oc_select.specs.Tags.{parts, is_separator, quoted_after}
use Rattle.oc_select.specs.Scanning.{comma_from}

none_from_cond : (t : Bool) (n : ℕ) (o : Option ℕ) → cond t (Some n) o ≡ None → (t ≡ false) × (o ≡ None)
none_from_cond true n o h = cc
none_from_cond false n o h = (refl, h)

some_from_cond : (t : Bool) (n : ℕ) (o : Option ℕ) (k : ℕ) → cond t (Some n) o ≡ Some k → ((t ≡ true) × (n ≡ k)) ⊎ ((t ≡ false) × (o ≡ Some k))
some_from_cond true n o k h = inl (refl, cc)
some_from_cond false n o k h = inr (refl, h)

-- the parts of a list by whether its first byte is a separator
abbrev parts_by : Bool → ℕ → List ℕ → Bool → List (List ℕ)
parts_by quoted b xs t = cond t ([] ∷ parts false xs) (onto_first b (parts (quoted_after quoted b) xs))

-- a list without a separator is one part
pub parts_whole : (at : ℕ) (quoted : Bool) (xs : List ℕ) → comma_from at quoted xs ≡ None → parts quoted xs ≡ xs ∷ []
parts_whole at quoted [] h = refl
parts_whole at quoted (b ∷ xs) h =
    let none = none_from_cond (is_separator quoted b) at (comma_from (suc at) (quoted_after quoted b) xs) h in
    ap (λ (t : Bool). parts_by quoted b xs t) none.0 ∙ ap (λ (ps : List (List ℕ)). onto_first b ps) (parts_whole (suc at) (quoted_after quoted b) xs none.1)

-- the first part ends at the first separator, and the others are those of the bytes after it
parts_from : (at : ℕ) (quoted : Bool) (xs : List ℕ) (k : ℕ) → comma_from at quoted xs ≡ Some k
    → (i : ℕ) × (k ≡ at + i) × (parts quoted xs ≡ take i xs ∷ parts false (drop (suc i) xs))
parts_from at quoted [] k h = cc
parts_from at quoted (b ∷ xs) k h = elim (some_from_cond (is_separator quoted b) at (comma_from (suc at) (quoted_after quoted b) xs) k h) [
  | inl here ↦ (0, omega (arith, here.1), ap (λ (t : Bool). parts_by quoted b xs t) here.0)
  | inr later ↦
      let rest = parts_from (suc at) (quoted_after quoted b) xs k later.1 in
      (suc rest.0, omega (arith, rest.1), ap (λ (t : Bool). parts_by quoted b xs t) later.0 ∙ ap (λ (ps : List (List ℕ)). onto_first b ps) rest.2)
]

pub parts_at : (xs : List ℕ) (k : ℕ) → comma_from 0 false xs ≡ Some k → parts false xs ≡ take k xs ∷ parts false (take (length xs - (k + 1)) (drop (k + 1) xs))
parts_at xs k h =
    let found = parts_from 0 false xs k h in
    let same : found.0 ≡ k = omega (arith, found.1) in
    let next : suc k ≡ k + 1 = omega arith in
    let rest : take (length xs - (k + 1)) (drop (k + 1) xs) ≡ drop (k + 1) xs = take_all (length xs - (k + 1)) (drop (k + 1) xs) (omega (arith, length-drop (k + 1) xs)) in
    found.2 ∙ ap (λ (i : ℕ). take i xs ∷ parts false (drop (suc i) xs)) same ∙ ap (λ (n : ℕ). take k xs ∷ parts false (drop n xs)) next
    ∙ ap (λ (ys : List ℕ). take k xs ∷ parts false ys) (sym rest)
