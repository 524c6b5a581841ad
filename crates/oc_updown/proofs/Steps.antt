-- The steps of the choice, node by node.
use Rattle.std.proofs.Common.{◌≡◌, ℕ, suc, ◌+◌, ◌-◌, ◌<◌, ◌≤◌, Bool, true, false, if◌then◌else◌, Option, Some, None, List, [], ◌∷◌, inl, inr, refl, ap, sym, ◌∙◌, arith}
use Rattle.std.proofs.lemmas.Bool.{cases_Bool}
use Rattle.std.specs.Prelude.{filter, IfSome}
use Rattle.std.specs.List.{range_with_len}
use Rattle.oc_updown.specs.Better.{is_better, beats, best_of, with_rest}
use Rattle.oc_updown.proofs.Better.{one_more}
use Rattle.oc_updown.proofs.Lists.{filter_taken, filter_left}

-- the best so far and the best of the rest, as a state of the choice
abbrev pub state : List ℕ → List ℕ → ℕ → (ℕ → Bool) → Option ℕ → List ℕ → Option ℕ
state areas counts area p best xs = with_rest (is_better areas counts area) best (best_of (is_better areas counts area) (filter p xs))

-- the state after a node that passes the test and beats the best so far
pub after_better : (areas counts : List ℕ) (area : ℕ) (p : ℕ → Bool) (best new : Option ℕ) (x : ℕ) (xs : List ℕ) → beats (is_better areas counts area) x best ≡ true → p x ≡ true → new ≡ Some x → state areas counts area p new xs ≡ state areas counts area p best (x ∷ xs)
after_better areas counts area p best new x xs h t e =
    let rest = best_of (is_better areas counts area) (filter p xs) in
    ap (λ (o : Option ℕ). with_rest (is_better areas counts area) o rest) (e ∙ ap (λ (b : Bool). if b then Some x else best) (sym h))
    ∙ one_more areas counts area best x rest
    ∙ ap (λ (ys : List ℕ). with_rest (is_better areas counts area) best (best_of (is_better areas counts area) ys)) (sym (filter_taken p x xs t))

-- the state after a node that fails the test
pub after_failed : (areas counts : List ℕ) (area : ℕ) (p : ℕ → Bool) (best new : Option ℕ) (x : ℕ) (xs : List ℕ) → p x ≡ false → new ≡ best → state areas counts area p new xs ≡ state areas counts area p best (x ∷ xs)
after_failed areas counts area p best new x xs t e =
    ap (λ (o : Option ℕ). state areas counts area p o xs) e
    ∙ ap (λ (ys : List ℕ). with_rest (is_better areas counts area) best (best_of (is_better areas counts area) ys)) (sym (filter_left p x xs t))

-- the state after a node that does not beat the best so far, whether it passes the test or not
pub after_worse : (areas counts : List ℕ) (area : ℕ) (p : ℕ → Bool) (best new : Option ℕ) (x : ℕ) (xs : List ℕ) → beats (is_better areas counts area) x best ≡ false → new ≡ best → state areas counts area p new xs ≡ state areas counts area p best (x ∷ xs)
after_worse areas counts area p best new x xs h e = elim (cases_Bool (p x)) [
  | inl t ↦
      (let rest = best_of (is_better areas counts area) (filter p xs) in
      ap (λ (o : Option ℕ). with_rest (is_better areas counts area) o rest) (e ∙ ap (λ (b : Bool). if b then Some x else best) (sym h))
      ∙ one_more areas counts area best x rest
      ∙ ap (λ (ys : List ℕ). with_rest (is_better areas counts area) best (best_of (is_better areas counts area) ys)) (sym (filter_taken p x xs t)))
  | inr t ↦ after_failed areas counts area p best new x xs t e
]

-- the nodes from one on are that one and the ones after it
pub next_node : (n i : ℕ) → i < n → range_with_len (i + 1) (n - i) ≡ (i + 1) ∷ range_with_len (i + 1 + 1) (n - (i + 1))
next_node n i h = let more : n - i ≡ suc (n - (i + 1)) = omega arith in ap (λ (m : ℕ). range_with_len (i + 1) m) more

-- no node comes after the last
pub no_node : (n i : ℕ) → n ≤ i → range_with_len (i + 1) (n - i) ≡ []
no_node n i h = let none : n - i ≡ 0 = omega arith in ap (λ (m : ℕ). range_with_len (i + 1) m) none

-- the best so far is the best where no node is left
pub rest_none : (better : ℕ → ℕ → Bool) (best : Option ℕ) → with_rest better best None ≡ best
rest_none better None = refl
rest_none better (Some b) = refl

-- a node before this one is before the next one
pub behind_more : (best : Option ℕ) (i : ℕ) → IfSome best (λ b. (1 ≤ b) × (b < i + 1)) → IfSome best (λ b. (1 ≤ b) × (b < i + 1 + 1))
behind_more None i h = tt
behind_more (Some b) i h = (h.0, omega (arith, h.1))
