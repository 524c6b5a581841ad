-- Wrong lines: a root lists a node without a true chain to it only where the topmost false link of the node's walk is stale.
use Rattle.std.proofs.Common.{◌≡◌, ℕ, Some, List, [], ◌∷◌, ◌⊎◌, inl, inr, refl, sym, subst, ◌∙◌, ⊎_elim}
use Rattle.oc_base.specs.declared.cert.Cert.{Cert}
use Rattle.oc_model.specs.Chains.{IsRoot, IsJoined, IsTrueChain, HasTrueChain}
use Rattle.oc_model.specs.ClaimsTree.{table_of, WaitsAt, WaitsBelow, IsWalk, IsTrueLink, AreTrueLinks, IsTopmostFalse, IsStaleLink, HasWrongCause}
use Rattle.oc_model.specs.Table.{newest, parent_in, IsListed}
use Rattle.oc_model.specs.World.{World}
use Rattle.oc_laws_tree.proofs.Decided.{IsDecided, link_decided}
use Rattle.oc_laws_tree.proofs.Rising.{HasNoOlder, row_rises, row_granted, same_parent}
use Rattle.oc_laws_tree.proofs.Rows.{IsLiveRow, IsPast, IsStill, row_lease, parent_row, past_later, past_itself, past_or_still}
use Rattle.oc_laws_tree.proofs.TreeHolds.{TreeHolds}
use Rattle.oc_laws_tree.proofs.Walks.{walk_of_way}

-- The topmost false link

-- the topmost false link of this walk goes from v to y, which has a true chain to r
record IsFalseFrom (w : World) (r : ℕ) (c : List ℕ) (v y : ℕ) : Type 0 where
  pub topmost : IsTopmostFalse w (table_of w r) c v y
  pub up : parent_in (table_of w r) v ≡ Some y
  pub chain : HasTrueChain w y r

HasFalse : World → ℕ → List ℕ → Type 0
HasFalse w r c = (v y : ℕ) × IsFalseFrom w r c v y

-- all links of a walk are true and it is a true chain, or it has a topmost false link
links_split : (w : World) (x r : ℕ) (c : List ℕ) → IsRoot w r → IsWalk (table_of w r) x r c → (AreTrueLinks w (table_of w r) c × IsTrueChain w x r c) ⊎ HasFalse w r c
unfolding HasFalse
links_split w x r [] root walk = absurd walk
links_split w x r (a ∷ []) root walk = inl (tt, (walk.0, walk.1, subst (IsRoot w) (sym walk.1) root))
links_split w x r (a ∷ d ∷ ds) root walk = by_rest (links_split w d r (d ∷ ds) root walk.3) where
  by_link : AreTrueLinks w (table_of w r) (d ∷ ds) → IsTrueChain w d r (d ∷ ds) → IsDecided (IsTrueLink w (table_of w r) x d)
      → (AreTrueLinks w (table_of w r) (a ∷ d ∷ ds) × IsTrueChain w x r (a ∷ d ∷ ds)) ⊎ HasFalse w r (a ∷ d ∷ ds)
  by_link all chain (inl link) = inl ((subst (λ z. IsTrueLink w (table_of w r) z d) (sym walk.0) link, all), (walk.0, link.0, link.1, chain))
  by_link all chain (inr wrong) = inr (
    x,
    d,
    record {
      topmost = inr (walk.0, refl, (λ link. wrong (subst (λ z. IsTrueLink w (table_of w r) z d) walk.0 link)), all);
      up = walk.2;
      chain = (d ∷ ds, chain);
    },
  )

  by_rest : (AreTrueLinks w (table_of w r) (d ∷ ds) × IsTrueChain w d r (d ∷ ds)) ⊎ HasFalse w r (d ∷ ds)
      → (AreTrueLinks w (table_of w r) (a ∷ d ∷ ds) × IsTrueChain w x r (a ∷ d ∷ ds)) ⊎ HasFalse w r (a ∷ d ∷ ds)
  by_rest (inl good) = by_link good.0 good.1 (link_decided w (table_of w r) x d)
  by_rest (inr found) = inr (found.0, found.1, record { topmost = inl found.2.topmost; up = found.2.up; chain = found.2.chain })

-- The stale link

-- the row of v in this table makes e obsolete
HasPast : List Cert → ℕ → Cert → Type 0
HasPast t v e = (k : Cert) × (newest t v ≡ Some k) × IsPast k e

-- where the table of a node makes e obsolete, so does the table of its parent, or the fact waits
past_step : (w : World) → TreeHolds w → (v z u : ℕ) (e : Cert) → IsJoined w z u → HasPast (table_of w z) v e → WaitsAt w z v ⊎ HasPast (table_of w u) v e
unfolding HasPast
past_step w holds v z u e joined row = ⊎_elim (λ waits. inl waits) (λ risen. inr (risen.0, risen.1, past_later risen.0 row.0 e row.2 risen.2)) (row_rises w holds v z u row.0 joined row.1)

-- where the table of a node makes e obsolete, so does the table of the root of its true chain, or the fact waits below
past_up : (w : World) → TreeHolds w → (v z r : ℕ) (e : Cert) (c : List ℕ) → IsTrueChain w z r c → HasPast (table_of w z) v e → WaitsBelow w c v ⊎ HasPast (table_of w r) v e
past_up w holds v z r e [] chain past = absurd chain
past_up w holds v z r e (a ∷ []) chain past = inr (subst (λ u. HasPast (table_of w u) v e) chain.1 past)
past_up w holds v z r e (a ∷ d ∷ ds) chain past = by_step (past_step w holds v z d e chain.2 past) (λ more. past_up w holds v d r e (d ∷ ds) chain.3 more) where
  by_step : WaitsAt w z v ⊎ HasPast (table_of w d) v e → (HasPast (table_of w d) v e → WaitsBelow w (d ∷ ds) v ⊎ HasPast (table_of w r) v e) → WaitsBelow w (a ∷ d ∷ ds) v ⊎ HasPast (table_of w r) v e
  by_step (inl waits) rest = inl (inl (subst (λ u. WaitsAt w u v) (sym chain.0) waits))
  by_step (inr more) rest = ⊎_elim (λ waits. inl (inr waits)) (λ there. inr there) (rest more)

-- a living row of v at r does not make itself obsolete
root_not_past : (w : World) (v r p s n : ℕ) (e : Cert) → IsLiveRow (table_of w r) v p s n e → HasPast (table_of w r) v e → ⊥
unfolding HasPast
root_not_past w v r p s n e row past = let same : past.0 ≡ e = cc (past.1, row.found) in past_itself e row.alive (subst (λ k. IsPast k e) same past.2)

-- a link of the root's table to a node with a true chain is stale
stale_link : (w : World) → TreeHolds w → (r v y : ℕ) → parent_in (table_of w r) v ≡ Some y → HasTrueChain w y r → IsStaleLink w r v y
unfolding HasPast
stale_link w holds r v y up chain = by_age granted.0 granted.1 (past_or_still granted.0 e row.1.alive granted.2) where
  row : (e : Cert) × IsLiveRow (table_of w r) v y e.seq e.number e
  row = parent_row (table_of w r) v y up

  e : Cert
  e = row.0

  granted : HasNoOlder (table_of w y) v e
  granted = row_granted w holds v r y e row.1.found row.1.parent

  by_age : (g : Cert) → newest (table_of w y) v ≡ Some g → IsPast g e ⊎ IsStill g e → IsStaleLink w r v y
  by_age g found (inl past) = ⊎_elim
      (λ waits. inr (chain.0, chain.1, waits))
      (λ there. absurd (root_not_past w v r y e.seq e.number e row.1 there))
      (past_up w holds v y r e chain.0 chain.1 (g, found, past))
  by_age g found (inr same) =
      let named : g.parent ≡ y = same_parent w holds v r y e g row.1.found found same.0 ∙ row.1.parent in
      inl (e, row.1.found, row_lease (table_of w y) y v e.seq e.number g (record { found = found; alive = same.1; parent = named; seq = same.0; number = same.2 }))

-- a listed node without a true chain to the root has the cause at hand
pub wrong_cause : (w : World) → TreeHolds w → (r x : ℕ) → IsRoot w r → IsListed (table_of w r) r x → (HasTrueChain w x r → ⊥) → HasWrongCause w r x
unfolding HasFalse
wrong_cause w holds r x root listed loose = by_walk (walk_of_way (table_of w r) x r listed.1.0 listed.1.1) where
  by_links : (c : List ℕ) → IsWalk (table_of w r) x r c → (AreTrueLinks w (table_of w r) c × IsTrueChain w x r c) ⊎ HasFalse w r c → HasWrongCause w r x
  by_links c walk (inl good) = absurd (loose (c, good.1))
  by_links c walk (inr found) = (listed.0, (c, found.0, found.1, walk, found.2.topmost, stale_link w holds r found.0 found.1 found.2.up found.2.chain))

  by_walk : (c : List ℕ) × IsWalk (table_of w r) x r c → HasWrongCause w r x
  by_walk found = by_links found.0 found.1 (links_split w x r found.0 root found.1)
