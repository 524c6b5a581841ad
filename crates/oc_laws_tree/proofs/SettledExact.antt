-- No causes in a settled tree: neither a missing nor a wrong line has a cause at hand, so the lists of its roots are exact.
use Rattle.std.proofs.Common.{◌≡◌, ℕ, Bool, true, false, ◌==◌, None, List, [], ◌∷◌, inl, inr, refl, ap, sym, subst, ⊎_elim, eqb-true, eq-eqb}
use Rattle.std.proofs.lemmas.Bool.{eqb-false}
use Rattle.oc_model.specs.Chains.{IsUp, IsJoined, IsRoot, IsTrueChain, first_link, true_line}
use Rattle.oc_model.specs.ClaimsTree.{table_of, WaitsBelow, HasEndedLease, HasWaiting, HasMissingCause, IsWalk, IsTrueLink, AreTrueLinks, IsTopmostFalse, IsStaleLink, HasWrongCause, IsLineExplained, IsExplained}
use Rattle.oc_model.specs.Ready.{HoldsLease, IsLeased, IsSettled}
use Rattle.oc_model.specs.Table.{table_line}
use Rattle.oc_model.specs.World.{World, node}
use Rattle.oc_model.proofs.Chains.{acting_alone, joined_once, chain_to-finds}
use Rattle.oc_laws_tree.specs.Listing.{SettledListsExactly}

-- Missing lines

-- a joined node has its lease at its parent
lease_stands : (w : World) → IsSettled w → (x y : ℕ) → IsUp w x → IsJoined w x y → HoldsLease w y x (node w x).control.kept.seq
lease_stands w settled x y up joins =
    let under = settled.ready.1 in
    let leased : IsLeased w x = under.leases x up (λ same. acting_alone w x y (subst (IsRoot w) (sym same) under.root).1 joins) in
    subst (λ p. HoldsLease w p x (node w x).control.kept.seq) (joined_once w x leased.0 y leased.1 joins) leased.2

-- no lease of a node of a true chain has ended
unended : (w : World) → IsSettled w → (x r : ℕ) (c : List ℕ) → IsTrueChain w x r c → HasEndedLease w c → ⊥
unended w settled x r [] chain ended = ended
unended w settled x r (a ∷ []) chain ended = ended
unended w settled x r (a ∷ b ∷ bs) chain (inl ended) = ended (subst (λ z. HoldsLease w b z (node w z).control.kept.seq) (sym chain.0) (lease_stands w settled x b chain.1 chain.2))
unended w settled x r (a ∷ b ∷ bs) chain (inr above) = unended w settled b r (b ∷ bs) chain.3 above

-- nothing waits on a true chain below its root
none_waits : (w : World) → IsSettled w → (y r x : ℕ) (c : List ℕ) → IsTrueChain w y r c → WaitsBelow w c x → ⊥
none_waits w settled y r x [] chain waits = waits
none_waits w settled y r x (a ∷ []) chain waits = waits
none_waits w settled y r x (a ∷ b ∷ bs) chain (inl waits) = settled.told a b x (subst (IsUp w) (sym chain.0) chain.1) (subst (λ z. IsJoined w z b) (sym chain.0) chain.2) waits
none_waits w settled y r x (a ∷ b ∷ bs) chain (inr above) = none_waits w settled b r x (b ∷ bs) chain.3 above

none_waiting : (w : World) → IsSettled w → (x r : ℕ) (c : List ℕ) → IsTrueChain w x r c → HasWaiting w c → ⊥
none_waiting w settled x r [] chain waits = waits
none_waiting w settled x r (a ∷ []) chain waits = ⊎_elim (λ e. e) (λ e. e) waits
none_waiting w settled x r (a ∷ b ∷ bs) chain (inl waits) = none_waits w settled b r a (b ∷ bs) chain.3 waits
none_waiting w settled x r (a ∷ b ∷ bs) chain (inr above) = none_waiting w settled b r (b ∷ bs) chain.3 above

-- a settled world has no cause for a missing line
pub none_missing : (w : World) → IsSettled w → (r x : ℕ) → HasMissingCause w r x → ⊥
none_missing w settled r x (c, chain, cause) = ⊎_elim (λ ended. unended w settled x r c chain ended) (λ waits. none_waiting w settled x r c chain waits) cause

-- Wrong lines

-- a topmost false link goes to a node that is up
record IsFalseTo (w : World) (r v y : ℕ) : Type 0 where
  up : IsUp w y
  not_true : IsTrueLink w (table_of w r) v y → ⊥

topmost_false : (w : World) (r x v y : ℕ) (c : List ℕ) → IsRoot w r → IsWalk (table_of w r) x r c → IsTopmostFalse w (table_of w r) c v y → IsFalseTo w r v y
topmost_false w r x v y [] root walk here = absurd here
topmost_false w r x v y (a ∷ []) root walk here = absurd here
topmost_false w r x v y (a ∷ b ∷ bs) root walk (inl above) = topmost_false w r b v y (b ∷ bs) root walk.3 above
topmost_false w r x v y (a ∷ b ∷ bs) root walk (inr here) = record {
  up = subst (IsUp w) here.1 (end_up bs walk.3 here.3);
  not_true = subst (λ z. IsTrueLink w (table_of w r) v z → ⊥) here.1 (subst (λ z. IsTrueLink w (table_of w r) z b → ⊥) here.0 here.2);
} where
  end_up : (ds : List ℕ) → IsWalk (table_of w r) b r (b ∷ ds) → AreTrueLinks w (table_of w r) (b ∷ ds) → IsUp w b
  end_up [] walk links = subst (IsUp w) (sym walk.1) root.0
  end_up (d ∷ ds) walk links = links.0.0

-- a settled world has no cause for a wrong line
pub none_wrong : (w : World) → IsSettled w → (r x : ℕ) → IsRoot w r → HasWrongCause w r x → ⊥
none_wrong w settled r x root (other, (c, v, y, walk, topmost, stale)) =
    let is : IsFalseTo w r v y = topmost_false w r x v y c root walk topmost in by_cause is stale where
      by_cause : IsFalseTo w r v y → IsStaleLink w r v y → ⊥
      by_cause is (inl (e, found, holds)) = let current = settled.leases y v e.seq is.up holds in is.not_true (current.0, current.1, (e, found, sym current.2))
      by_cause is (inr (d, chain, waits)) = none_waits w settled y r v d chain waits

-- Right lines

-- a root has no line of its own
own_line : (w : World) (r x : ℕ) → IsRoot w r → x ≡ r → table_line (table_of w r) r x ≡ true_line w r x
own_line w r x root same =
    let own : (x == r) ≡ true = eq-eqb x r same in
    let alone : true_line w r x ≡ None = ap first_link (chain_to-finds w x r (x ∷ []) (refl, same, subst (IsRoot w) (sym same) root)) in
    rw (own, alone) refl

-- each line is right where no cause is there and each line is explained
pub settled_exact : (w : World) → IsExplained w → SettledListsExactly w
settled_exact w explained settled r x root = by_test (x == r) refl where
  by_line : IsLineExplained w r x → table_line (table_of w r) r x ≡ true_line w r x
  by_line (inl right) = right
  by_line (inr (inl missing)) = absurd (none_missing w settled r x missing.1)
  by_line (inr (inr wrong)) = absurd (none_wrong w settled r x root wrong.1)

  by_test : (b : Bool) → x == r ≡ b → table_line (table_of w r) r x ≡ true_line w r x
  by_test true e = own_line w r x root (eqb-true x r e)
  by_test false e = by_line (explained r x root (eqb-false x r e))
