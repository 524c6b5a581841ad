-- The same work for each of some nodes: the effect of each turn on its node, and on the others, holds of all in the end.
use Rattle.std.proofs.Common.{◌≡◌, ℕ, List, [], ◌∷◌, inl, inr, refl, sym, subst, ⊎_elim}
use Rattle.oc_model.specs.Runs.{Run, for_each}
use Rattle.oc_model.specs.World.{World}
use Rattle.oc_model.specs.WorldBounds.{IsOneOf, IsDistinct}

-- the turn of x: G still holds, After holds of x where Before held, and both stay true of the others
pub record IsTurn (G : World → Type 0) (Before After : World → ℕ → Type 0) (x : ℕ) (w v : World) : Type 0 where
  pub goes : G v
  pub done : After v x
  pub before : (y : ℕ) → (x ≡ y → ⊥) → Before w y → Before v y
  pub after : (y : ℕ) → (x ≡ y → ⊥) → After w y → After v y

-- a node of a list that x is not on is another node than x
other_than : (x y : ℕ) (xs : List ℕ) → (IsOneOf x xs → ⊥) → IsOneOf y xs → x ≡ y → ⊥
other_than x y xs out one same = out (subst (λ (z : ℕ). IsOneOf z xs) (sym same) one)

module _ (f : ℕ → World → Run) (G : World → Type 0) (Before After : World → ℕ → Type 0) (turn : (x : ℕ) (w : World) → G w → Before w x → IsTurn G Before After x w (f x w).world) where
  -- the world after all turns
  pub record HasPassed (xs : List ℕ) (w v : World) : Type 0 where
    pub goes : G v
    pub done : (x : ℕ) → IsOneOf x xs → After v x
    pub others : (y : ℕ) → (IsOneOf y xs → ⊥) → After w y → After v y

  pub each_passes : (xs : List ℕ) (w : World) → IsDistinct xs → G w → ((x : ℕ) → IsOneOf x xs → Before w x) → HasPassed xs w (for_each xs f w).world
  each_passes [] w distinct goes before = record { goes = goes; done = λ x one. absurd one; others = λ y out after. after }
  each_passes (x ∷ xs) w distinct goes before =
      let v : World = (f x w).world in
      let here : IsTurn G Before After x w v = turn x w goes (before x (inl refl)) in
      let rest : HasPassed xs v (for_each xs f v).world = each_passes xs v distinct.1 here.goes (λ y one. here.before y (other_than x y xs distinct.0 one) (before y (inr one))) in
      let first : After (for_each xs f v).world x = rest.others x distinct.0 here.done in
      record {
        goes = rest.goes;
        done = λ y one. ⊎_elim (λ (same : y ≡ x). subst (After (for_each xs f v).world) (sym same) first) (λ later. rest.done y later) one;
        others = λ y out after. rest.others y (λ one. out (inr one)) (here.after y (λ same. out (inl (sym same))) after);
      }
