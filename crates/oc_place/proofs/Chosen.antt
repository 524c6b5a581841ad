-- The nearest of the suitable candidates.
use Rattle.std.proofs.Common.{◌≡◌, ℕ, Bool, true, false, if◌then◌else◌, Option, Some, None, List, [], ◌∷◌, ◌⊎◌, inl, inr, refl, ap, sym, subst, ◌∙◌, arith}
use Rattle.std.specs.Prelude.{filter, option_map}
use Rattle.std.proofs.lemmas.Bool.Decides.{nat_tests}
use Rattle.oc_model.specs.declared.place.Candidate.{Candidate}
use Rattle.oc_model.specs.Choice.{is_nearer, is_suitable, nearer_of, nearest, chosen}
use Rattle.oc_model.specs.Numbers.{IsAmong}
use Rattle.oc_place.specs.Chosen.{IsSuitable, IsBest, IsIdOfBest}
use Rattle.oc_place.proofs.Nearer.{no_nearer_passes, not_nearer_itself, nearer_one_way, before_is_nearer}

-- a candidate that passes the test is suitable
pub test_suitable : (direct : ℕ) (c : Candidate) → is_suitable direct c ≡ true → IsSuitable direct c
test_suitable direct c h = record { mine = λ e. grind (arith, nat_tests); up = λ e. grind (arith, nat_tests); through = grind (arith, nat_tests) }

-- a suitable candidate passes the test
pub suitable_test : (direct : ℕ) (c : Candidate) → IsSuitable direct c → is_suitable direct c ≡ true
suitable_test direct c s = let mine = s.mine in let up = s.up in let through = s.through in grind (arith, nat_tests)

-- a candidate among the first and the filtered rest is among all, and passes the test
among_step : (p : Candidate → Bool) (c : Candidate) (cs : List Candidate) (d : Candidate) (b : Bool) → p c ≡ b → (IsAmong d (filter p cs) → IsAmong d cs × (p d ≡ true)) → IsAmong d (if b then c ∷ filter p cs else filter p cs) → ((c ≡ d) ⊎ IsAmong d cs) × (p d ≡ true)
among_step p c cs d true e rest (inl h) = (inl h, ap p (sym h) ∙ e)
among_step p c cs d true e rest (inr h) = let r = rest h in (inr r.0, r.1)
among_step p c cs d false e rest h = let r = rest h in (inr r.0, r.1)

-- one of the first and of the rest, if it passes the test, is one of the filtered
filtered_step : (p : Candidate → Bool) (c : Candidate) (cs : List Candidate) (d : Candidate) → p d ≡ true → (b : Bool) → p c ≡ b → (IsAmong d cs → IsAmong d (filter p cs)) → (c ≡ d) ⊎ IsAmong d cs → IsAmong d (if b then c ∷ filter p cs else filter p cs)
filtered_step p c cs d t true e rest (inl h) = inl h
filtered_step p c cs d t true e rest (inr h) = inr (rest h)
filtered_step p c cs d t false e rest (inl h) = absurd (let f : true ≡ false = sym t ∙ (ap p (sym h) ∙ e) in cc)
filtered_step p c cs d t false e rest (inr h) = rest h

-- a candidate that a filter leaves is among all, and passes the test
pub among_filtered : (p : Candidate → Bool) (cs : List Candidate) (d : Candidate) → IsAmong d (filter p cs) → IsAmong d cs × (p d ≡ true)
among_filtered p [] d h = absurd h
among_filtered p (c ∷ cs) d h = among_step p c cs d (p c) refl (among_filtered p cs d) h

-- each of these that passes the test stays
pub filtered_among : (p : Candidate → Bool) (cs : List Candidate) (d : Candidate) → p d ≡ true → IsAmong d cs → IsAmong d (filter p cs)
filtered_among p [] d t h = h
filtered_among p (c ∷ cs) d t h = filtered_step p c cs d t (p c) refl (filtered_among p cs d t) h

-- a list without a nearest candidate has no candidates
pub nearest_none : (cs : List Candidate) (d : Candidate) → nearest cs ≡ None → ¬ IsAmong d cs
nearest_none [] d e = λ h. h
nearest_none (c ∷ cs) d e = absurd cc

-- c is among the candidates, and no candidate is nearer
pub record IsNearest (cs : List Candidate) (c : Candidate) : Type 0 where
  pub among : IsAmong c cs
  pub least : (d : Candidate) → IsAmong d cs → is_nearer d c ≡ false

-- the nearest after the first, where it is nearer
behind_is_nearest : (y : Candidate) (ys : List Candidate) (b : Candidate) → IsNearest ys b → is_nearer b y ≡ true → IsNearest (y ∷ ys) b
behind_is_nearest y ys b n near = record {
  among = inr n.among;
  least = λ d h. elim h [ inl same ↦ subst (λ (x : Candidate). is_nearer x b ≡ false) same (nearer_one_way b y near) | inr behind ↦ n.least d behind ];
}

-- the first, where the nearest after it is not nearer
first_is_nearest : (y : Candidate) (ys : List Candidate) (b : Candidate) → IsNearest ys b → is_nearer b y ≡ false → IsNearest (y ∷ ys) y
first_is_nearest y ys b n far = record {
  among = inl refl;
  least = λ d h. elim h [ inl same ↦ subst (λ (x : Candidate). is_nearer x y ≡ false) same (not_nearer_itself y) | inr behind ↦ no_nearer_passes d b y (n.least d behind) far ];
}

-- the nearer of the two, by the test
nearest_more : (y : Candidate) (ys : List Candidate) (b : Candidate) → IsNearest ys b → (t : Bool) → is_nearer b y ≡ t → IsNearest (y ∷ ys) (if t then b else y)
nearest_more y ys b n true e = behind_is_nearest y ys b n e
nearest_more y ys b n false e = first_is_nearest y ys b n e

-- the nearest candidate, from the nearest after the first
nearest_step : (y : Candidate) (ys : List Candidate) (o : Option Candidate) → nearest ys ≡ o → ((b : Candidate) → o ≡ Some b → IsNearest ys b) → IsNearest (y ∷ ys) (nearer_of y o)
nearest_step y ys None e ih = record {
  among = inl refl;
  least = λ d h. elim h [ inl same ↦ subst (λ (x : Candidate). is_nearer x y ≡ false) same (not_nearer_itself y) | inr behind ↦ absurd (nearest_none ys d e behind) ];
}
nearest_step y ys (Some b) e ih = nearest_more y ys b (ih b refl) (is_nearer b y) refl

-- the nearest candidate by computation is the nearest
pub nearest_is : (cs : List Candidate) (c : Candidate) → nearest cs ≡ Some c → IsNearest cs c
nearest_is [] c e = absurd cc
nearest_is (y ∷ ys) c e = let same : nearer_of y (nearest ys) ≡ c = cc in subst (IsNearest (y ∷ ys)) same (nearest_step y ys (nearest ys) refl (λ b. nearest_is ys b))

-- the best of the suitable ones, from the nearest of those that pass the test
best_of : (direct : ℕ) (cs : List Candidate) (c : Candidate) → IsNearest (filter (is_suitable direct) cs) c → IsBest direct cs c
best_of direct cs c n =
    let a = among_filtered (is_suitable direct) cs c n.among in
    record {
      among = a.0;
      suitable = test_suitable direct c a.1;
      least = λ d h s before. (let e = n.least d (filtered_among (is_suitable direct) cs d (suitable_test direct d s) h) in let f : true ≡ false = sym (before_is_nearer d c before) ∙ e in absurd cc);
    }

-- the chosen id, from the nearest candidate
chosen_of : (direct : ℕ) (cs : List Candidate) (k : ℕ) (o : Option Candidate) → nearest (filter (is_suitable direct) cs) ≡ o → option_map (λ c. c.id) o ≡ Some k → IsIdOfBest direct cs k
chosen_of direct cs k None e h = absurd cc
chosen_of direct cs k (Some c) e h = (c, cc, best_of direct cs c (nearest_is (filter (is_suitable direct) cs) c e))

-- the chosen candidate is the best of the suitable ones
pub chosen_is_best : (direct : ℕ) (cs : List Candidate) (k : ℕ) → chosen direct cs ≡ Some k → IsIdOfBest direct cs k
chosen_is_best direct cs k h = chosen_of direct cs k (nearest (filter (is_suitable direct) cs)) refl h

-- none is chosen where none is nearest
none_of : (o : Option Candidate) → option_map (λ c. c.id) o ≡ None → o ≡ None
none_of None h = refl
none_of (Some c) h = absurd cc

-- no candidate is suitable if none is chosen
pub none_is_suitable : (direct : ℕ) (cs : List Candidate) → chosen direct cs ≡ None → (c : Candidate) → IsAmong c cs → ¬ IsSuitable direct c
none_is_suitable direct cs h c among s = nearest_none (filter (is_suitable direct) cs) c (none_of (nearest (filter (is_suitable direct) cs)) h) (filtered_among (is_suitable direct) cs c (suitable_test direct c s) among)
