-- Walks up a table: a walk exists exactly where a node is listed, and it has at most one topmost false link.
use Rattle.std.proofs.Common.{◌≡◌, ◌↔◌, ℕ, Some, List, [], ◌∷◌, ◌⊎◌, inl, inr, refl, sym, subst, ◌∙◌}
use Rattle.std.proofs.lemmas.Bool.{cases_eq}
use Rattle.oc_base.specs.declared.cert.Cert.{Cert}
use Rattle.oc_model.specs.ClaimsTree.{IsWalk, AreTrueLinks, IsTopmostFalse}
use Rattle.oc_model.specs.Table.{parent_in, IsWay, IsListed}
use Rattle.oc_model.specs.World.{World}

-- a walk with one link more at its start
longer_walk : (t : List Cert) (x y r : ℕ) → (x ≡ r → ⊥) → parent_in t x ≡ Some y → (c : List ℕ) × IsWalk t y r c → (c : List ℕ) × IsWalk t x r c
longer_walk t x y r apart up ([], walk) = absurd walk
longer_walk t x y r apart up (d ∷ [], walk) =
    (x ∷ d ∷ [], (refl, apart, subst (λ z. parent_in t x ≡ Some z) (sym walk.0) up, (refl, walk.0 ∙ walk.1)))
longer_walk t x y r apart up (d ∷ e ∷ es, walk) =
    (x ∷ d ∷ e ∷ es, (refl, apart, subst (λ z. parent_in t x ≡ Some z) (sym walk.0) up, subst (λ z. IsWalk t z r (d ∷ e ∷ es)) (sym walk.0) walk))

-- where there is a way there is a walk: the part of the way up to the first time it reaches r
pub walk_of_way : (t : List Cert) (x r : ℕ) (ys : List ℕ) → IsWay t r x ys → (c : List ℕ) × IsWalk t x r c
walk_of_way t x r [] way = by_end (cases_eq x r) where
  by_end : (x ≡ r) ⊎ (x ≡ r → ⊥) → (c : List ℕ) × IsWalk t x r c
  by_end (inl e) = (x ∷ [], (refl, e))
  by_end (inr apart) = longer_walk t x r r apart way (r ∷ [], (refl, refl))
walk_of_way t x r (y ∷ ys) way = by_end (cases_eq x r) (walk_of_way t y r ys way.1) where
  by_end : (x ≡ r) ⊎ (x ≡ r → ⊥) → (c : List ℕ) × IsWalk t y r c → (c : List ℕ) × IsWalk t x r c
  by_end (inl e) rest = (x ∷ [], (refl, e))
  by_end (inr apart) rest = longer_walk t x y r apart way.0 rest

-- where there is a walk of another node than r there is a way
way_of_walk : (t : List Cert) (x r : ℕ) (c : List ℕ) → (x ≡ r → ⊥) → IsWalk t x r c → (ys : List ℕ) × IsWay t r x ys
way_of_walk t x r [] apart walk = absurd walk
way_of_walk t x r (a ∷ []) apart walk = absurd (apart walk.1)
way_of_walk t x r (a ∷ d ∷ ds) apart walk = by_end (cases_eq d r) (λ further. way_of_walk t d r (d ∷ ds) further walk.3) where
  by_end : (d ≡ r) ⊎ (d ≡ r → ⊥) → ((d ≡ r → ⊥) → (ys : List ℕ) × IsWay t r d ys) → (ys : List ℕ) × IsWay t r x ys
  by_end (inl e) rest = ([], subst (λ z. parent_in t x ≡ Some z) e walk.2)
  by_end (inr further) rest = let way = rest further in (d ∷ way.0, (walk.2, way.1))

-- a walk exists exactly where a node is listed
pub walks_are_listings : (t : List Cert) (r x : ℕ) → IsListed t r x ↔ ((x ≡ r → ⊥) × ((c : List ℕ) × IsWalk t x r c))
walks_are_listings t r x = (λ listed. (listed.0, walk_of_way t x r listed.1.0 listed.1.1), λ walk. (walk.0, way_of_walk t x r walk.1.0 walk.0 walk.1.1))

-- a walk whose links are all true has no false link
none_false : (w : World) (t : List Cert) (c : List ℕ) (v y : ℕ) → AreTrueLinks w t c → IsTopmostFalse w t c v y → ⊥
none_false w t [] v y all false_one = absurd false_one
none_false w t (a ∷ []) v y all false_one = absurd false_one
none_false w t (a ∷ b ∷ bs) v y all (inl above) = none_false w t (b ∷ bs) v y all.1 above
none_false w t (a ∷ b ∷ bs) v y all (inr here) = here.2 all.0

-- a walk has at most one topmost false link
pub one_topmost : (w : World) (t : List Cert) (c : List ℕ) (v y u z : ℕ) → IsTopmostFalse w t c v y → IsTopmostFalse w t c u z → (v ≡ u) × (y ≡ z)
one_topmost w t [] v y u z first second = absurd first
one_topmost w t (a ∷ []) v y u z first second = absurd first
one_topmost w t (a ∷ b ∷ bs) v y u z (inl first) (inl second) = one_topmost w t (b ∷ bs) v y u z first second
one_topmost w t (a ∷ b ∷ bs) v y u z (inl first) (inr second) = absurd (none_false w t (b ∷ bs) v y second.3 first)
one_topmost w t (a ∷ b ∷ bs) v y u z (inr first) (inl second) = absurd (none_false w t (b ∷ bs) u z first.3 second)
one_topmost w t (a ∷ b ∷ bs) v y u z (inr first) (inr second) = (sym first.0 ∙ second.0, sym first.1 ∙ second.1)
