-- The items that a filter leaves.
use Rattle.std.proofs.Common.{◌≡◌, ℕ, Bool, true, false, if◌then◌else◌, List, [], ◌∷◌, ◌⊎◌, inl, inr, refl, ap, sym, subst, ◌∙◌}
use Rattle.std.proofs.lemmas.Bool.{cases_Bool}
use Rattle.std.specs.Prelude.{filter}
use Rattle.oc_model.specs.Numbers.{IsAmong}

-- an item that passes the test stays
pub filter_taken : (p : ℕ → Bool) (x : ℕ) (xs : List ℕ) → p x ≡ true → filter p (x ∷ xs) ≡ x ∷ filter p xs
filter_taken p x xs h = rw h refl

-- an item that fails the test does not stay
pub filter_left : (p : ℕ → Bool) (x : ℕ) (xs : List ℕ) → p x ≡ false → filter p (x ∷ xs) ≡ filter p xs
filter_left p x xs h = rw h refl

-- two tests one after the other, in either order
pub filter_either : (p q : ℕ → Bool) (xs : List ℕ) → filter p (filter q xs) ≡ filter q (filter p xs)
filter_either p q [] = refl
filter_either p q (x ∷ xs) = by_tests (filter_either p q xs) (p x) refl (q x) refl where
  by_tests : filter p (filter q xs) ≡ filter q (filter p xs) → (b : Bool) → p x ≡ b → (c : Bool) → q x ≡ c → filter p (filter q (x ∷ xs)) ≡ filter q (filter p (x ∷ xs))
  by_tests rest true e true h = simp (e, h) (ap (λ (ys : List ℕ). x ∷ ys) rest)
  by_tests rest true e false h = simp (e, h) rest
  by_tests rest false e true h = simp (e, h) rest
  by_tests rest false e false h = simp (e, h) rest

-- an item of the first and of the filtered rest is in the whole list, and passes the test
among_step : (p : ℕ → Bool) (c : ℕ) (cs : List ℕ) (d : ℕ) (b : Bool) → p c ≡ b → (IsAmong d (filter p cs) → IsAmong d cs × (p d ≡ true)) → IsAmong d (if b then c ∷ filter p cs else filter p cs) → ((c ≡ d) ⊎ IsAmong d cs) × (p d ≡ true)
among_step p c cs d true e rest (inl h) = (inl h, ap p (sym h) ∙ e)
among_step p c cs d true e rest (inr h) = let r = rest h in (inr r.0, r.1)
among_step p c cs d false e rest h = let r = rest h in (inr r.0, r.1)

-- one of the first and of the rest, if it passes the test, is one of the filtered
filtered_step : (p : ℕ → Bool) (c : ℕ) (cs : List ℕ) (d : ℕ) → p d ≡ true → (b : Bool) → p c ≡ b → (IsAmong d cs → IsAmong d (filter p cs)) → (c ≡ d) ⊎ IsAmong d cs → IsAmong d (if b then c ∷ filter p cs else filter p cs)
filtered_step p c cs d t true e rest (inl h) = inl h
filtered_step p c cs d t true e rest (inr h) = inr (rest h)
filtered_step p c cs d t false e rest (inl h) = absurd (let f : true ≡ false = sym t ∙ (ap p (sym h) ∙ e) in cc)
filtered_step p c cs d t false e rest (inr h) = rest h

-- an item that a filter leaves was in the list, and passes the test
pub among_filtered : (p : ℕ → Bool) (cs : List ℕ) (d : ℕ) → IsAmong d (filter p cs) → IsAmong d cs × (p d ≡ true)
among_filtered p [] d h = absurd h
among_filtered p (c ∷ cs) d h = among_step p c cs d (p c) refl (among_filtered p cs d) h

-- each of these that passes the test stays
pub filtered_among : (p : ℕ → Bool) (cs : List ℕ) (d : ℕ) → p d ≡ true → IsAmong d cs → IsAmong d (filter p cs)
filtered_among p [] d t h = h
filtered_among p (c ∷ cs) d t h = filtered_step p c cs d t (p c) refl (filtered_among p cs d t) h

-- each item fails a test that no item passes
pub none_passes : (p : ℕ → Bool) (cs : List ℕ) (d : ℕ) → filter p cs ≡ [] → IsAmong d cs → p d ≡ false
none_passes p cs d e h = elim (cases_Bool (p d)) [
  | inl t ↦ absurd (subst (λ (ys : List ℕ). IsAmong d ys) e (filtered_among p cs d t h))
  | inr f ↦ f
]
