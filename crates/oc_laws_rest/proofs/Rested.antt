-- A whole star is at rest.
use Rattle.std.proofs.Common.{◌≡◌, ℕ, ◌≤◌, Bool, true, false, not, ◌&&◌, ◌==◌, if◌then◌else◌, Option, Some, None, List, [], ◌∷◌, ◌⊎◌, inl, inr, refl, ap, sym, subst, ◌∙◌, ⊎_elim, arith, eq-eqb, ne_eqb}
use Rattle.std.proofs.lemmas.Bool.{cases_Bool, cond_both, le-leb}
use Rattle.oc_base.specs.declared.cert.Cert.{Cert}
use Rattle.oc_model.specs.Adopting.{birth}
use Rattle.oc_model.specs.Chains.{IsUp, IsJoined, IsRoot, IsTrueChain, first_link, chain_to, true_line}
use Rattle.oc_model.specs.ChangeLog.{IsWaiting}
use Rattle.oc_model.specs.ClaimsTree.{table_of, seq_of, KnowsNumber}
use Rattle.oc_model.specs.Node.{Header, Log, empty_log}
use Rattle.oc_model.specs.Plan.{is_member}
use Rattle.oc_model.specs.Ready.{HoldsLease, IsReadyUnder, IsSettled}
use Rattle.oc_model.specs.Table.{newest, lease_number, leased_by, live_parent, parent_in, is_listed, table_line}
use Rattle.oc_model.specs.World.{World, Process, node, is_up}
use Rattle.oc_model.proofs.Chains.{acting_alone, joined_once, chain_to-finds, chain_to-true}
use Rattle.oc_laws_rest.specs.Rest.{IsAtRest}
use Rattle.oc_laws_rest.proofs.Rows.{IsLeaf, Row, row_found, row_or_none}
use Rattle.oc_laws_rest.proofs.Star.{Joins, RootIs}

-- the line of a row
line_of_row : (m : ℕ) (t : List Cert) (x : ℕ) → (x ≡ m → ⊥) → Row m t x → table_line t m x ≡ Some m
line_of_row m [] x apart row = absurd cc
line_of_row m (k ∷ ks) x apart row =
    let other : (x == m) ≡ false = ne_eqb x m apart in
    let alike : (m == m) ≡ true = eq-eqb m m refl in
    let parent : parent_in (k ∷ ks) x ≡ Some m = ap live_parent row in
    rw (parent, other, alike) refl

own_line_of : (m : ℕ) (t : List Cert) → table_line t m m ≡ None
own_line_of m t = let alike : (m == m) ≡ true = eq-eqb m m refl in rw alike refl

no_line : (m : ℕ) (t : List Cert) (x : ℕ) → newest t x ≡ None → table_line t m x ≡ None
no_line m t x none =
    let parent : parent_in t x ≡ None = ap live_parent none in
    cond_both (is_listed t m x) (parent_in t x) None (λ (o : Option ℕ). o ≡ None) (λ _. parent) (λ _. refl)

-- who has a true chain is up
chain_begins_up : (w : World) (x r : ℕ) (c : List ℕ) → IsTrueChain w x r c → IsUp w x
chain_begins_up w x r [] chain = absurd chain
chain_begins_up w x r (a ∷ []) chain = chain.2.0
chain_begins_up w x r (a ∷ d ∷ ds) chain = chain.1

-- m is the root and has renewed all leases, and each other node that is up is its child
pub record Rests (h : Header) (up : ℕ → Bool) (m : ℕ) (within : m ≤ h.chain) (Early : Type 0) (w : World) : Type 0 where
  pub ups : (y : ℕ) → is_up w y ≡ up y
  pub root : RootIs h up m within Early w
  pub leaves : (y : ℕ) → IsLeaf h up y → Joins h up m within Early w y

module _ (h : Header) (up : ℕ → Bool) (m : ℕ) (within : m ≤ h.chain) (kinds : (y : ℕ) → up y ≡ true → (y ≡ m) ⊎ IsLeaf h up y) (Early : Type 0) (w : World) (rests : Rests h up m within Early w) where
  root : IsRoot w m
  root = (ap (λ (p : Process). p.up) rests.root.is, ap (λ (p : Process). p.node.control.kept.mode) rests.root.is)

  joined : (x : ℕ) → IsLeaf h up x → IsJoined w x m
  joined x leaf = ap (λ (p : Process). p.node.control.kept.mode) (rests.leaves x leaf).is

  lives : (x : ℕ) → IsLeaf h up x → IsUp w x
  lives x leaf = ap (λ (p : Process). p.up) (rests.leaves x leaf).is

  asked_once : (x : ℕ) → IsLeaf h up x → seq_of w x ≡ 1
  asked_once x leaf = ap (λ (p : Process). p.node.control.kept.seq) (rests.leaves x leaf).is

  holds : (x : ℕ) → IsLeaf h up x → HoldsLease w m x 1
  holds x leaf = ap (lease_number m) (rests.leaves x leaf).row ∙ ap (λ (b : Bool). if not false && b then Some 1 else None) (eq-eqb m m refl)

  table_is : table_of w m ≡ rests.root.table
  table_is = ap (λ (p : Process). p.node.control.kept.table) rests.root.is

  -- a node that is up and not m is past the chain
  kind : (x : ℕ) → IsUp w x → (x ≡ m) ⊎ IsLeaf h up x
  kind x lives_x = kinds x (sym (rests.ups x) ∙ lives_x)

  leaf_of : (x : ℕ) → IsUp w x → (x ≡ m → ⊥) → IsLeaf h up x
  leaf_of x lives_x other = ⊎_elim (λ same. absurd (other same)) (λ leaf. leaf) (kind x lives_x)

  -- a child is past the chain
  child : (x p : ℕ) → IsUp w x → IsJoined w x p → IsLeaf h up x
  child x p lives_x joins = leaf_of x lives_x (λ same. acting_alone w m p root.1 (subst (λ (y : ℕ). IsJoined w y p) same joins))

  chain : (x : ℕ) → IsLeaf h up x → IsTrueChain w x m (x ∷ m ∷ [])
  chain x leaf = (refl, lives x leaf, joined x leaf, (refl, refl, root))

  ready : IsReadyUnder w m
  ready = record {
    root = root;
    alone = λ x acts. ⊎_elim (λ same. same) (λ leaf. absurd (acting_alone w x m acts.1 (joined x leaf))) (kind x acts.0);
    chains = λ x lives_x other. (x ∷ m ∷ [], chain x (leaf_of x lives_x other));
    leases = λ x lives_x other.
        let leaf : IsLeaf h up x = leaf_of x lives_x other in
        (m, joined x leaf, subst (λ (s : ℕ). HoldsLease w m x s) (sym (asked_once x leaf)) (holds x leaf));
  }

  -- m's leases are those of its children
  current : (x seq : ℕ) → HoldsLease w m x seq → IsUp w x × IsJoined w x m × (seq_of w x ≡ seq)
  current x seq leased = by_row (row_or_none h up m rests.root.table x rests.root.rows) where
    by_row : (newest rests.root.table x ≡ None) ⊎ Row m rests.root.table x → IsUp w x × IsJoined w x m × (seq_of w x ≡ seq)
    by_row (inl none) =
        let clash : None ≡ Some seq = sym (ap (lease_number m) (ap (λ (t : List Cert). newest t x) table_is ∙ none)) ∙ leased in
        absurd cc
    by_row (inr row) =
        let leaf : IsLeaf h up x = (row_found h up m rests.root.table x (birth x 1 m) rests.root.rows row).1 in
        let same : Some 1 ≡ Some seq = sym (holds x leaf) ∙ leased in
        let one : 1 ≡ seq = cc in
        (lives x leaf, joined x leaf, asked_once x leaf ∙ one)

  -- a child has none
  no_lease : (y x seq : ℕ) → IsLeaf h up y → HoldsLease w y x seq → ⊥
  no_lease y x seq leaf leased =
      let clash : None ≡ Some seq = sym (ap (λ (p : Process). leased_by p.node.control.kept.table y x) (rests.leaves y leaf).is) ∙ leased in
      cc

  settled : IsSettled w
  settled = record {
    ready = (m, ready);
    leases = λ y x seq lives_y leased. ⊎_elim
        (λ same. by_top y same x seq leased)
        (λ leaf. absurd (no_lease y x seq leaf leased))
        (kind y lives_y);
    told = λ n p x lives_n joins waits.
        let leaf : IsLeaf h up n = child n p lives_n joins in
        none x (subst (λ (l : Log). IsWaiting l x) (ap (λ (q : Process). q.node.control.kept.log) (rests.leaves n leaf).is) waits);
  } where
    by_top : (y : ℕ) → y ≡ m → (x seq : ℕ) → HoldsLease w y x seq → IsUp w x × IsJoined w x y × ((node w x).control.kept.seq ≡ seq)
    by_top y same x seq leased =
        subst (λ (z : ℕ). IsUp w x × IsJoined w x z × ((node w x).control.kept.seq ≡ seq)) (sym same)
        (current x seq (subst (λ (z : ℕ). HoldsLease w z x seq) same leased))

    none : (x : ℕ) → IsWaiting empty_log x → ⊥
    none x waits = waits.1

  knows : (x y : ℕ) → IsUp w x → IsJoined w x y → KnowsNumber w y x
  knows x y lives_x joins =
      let leaf : IsLeaf h up x = child x y lives_x joins in
      subst (λ (z : ℕ). KnowsNumber w z x) (joined_once w x m y (joined x leaf) joins)
      (birth x 1 m, (rests.leaves x leaf).row, sym (ap (λ (p : Process). p.node.control.kept.number) (rests.leaves x leaf).is))

  exact : (x : ℕ) → table_line (table_of w m) m x ≡ true_line w m x
  exact x = ⊎_elim (λ lives_x. ⊎_elim (own x) (of_leaf x) (kind x lives_x)) (of_down x) (cases_Bool (is_up w x)) where
    own : (x : ℕ) → x ≡ m → table_line (table_of w m) m x ≡ true_line w m x
    own x same = subst (λ (y : ℕ). table_line (table_of w m) m y ≡ true_line w m y) (sym same) (own_line_of m (table_of w m) ∙ sym (ap first_link (chain_to-finds w m m (m ∷ []) (refl, refl, root))))

    of_leaf : (x : ℕ) → IsLeaf h up x → table_line (table_of w m) m x ≡ true_line w m x
    of_leaf x leaf =
        line_of_row m (table_of w m) x (λ e. omega (arith, e, leaf.past, within)) (rests.leaves x leaf).row ∙ sym (ap first_link (chain_to-finds w x m (x ∷ m ∷ []) (chain x leaf)))

    of_down : (x : ℕ) → is_up w x ≡ false → table_line (table_of w m) m x ≡ true_line w m x
    of_down x down = no_line m (table_of w m) x without ∙ sym (by_chain (chain_to w m x) refl) where
      not_up : IsUp w x → ⊥
      not_up lives_x = let clash : true ≡ false = sym lives_x ∙ down in cc

      without : newest (table_of w m) x ≡ None
      without = ⊎_elim
          (λ none. ap (λ (t : List Cert). newest t x) table_is ∙ none)
          (λ row. absurd (not_up (lives x (row_found h up m rests.root.table x (birth x 1 m) rests.root.rows row).1)))
          (row_or_none h up m rests.root.table x rests.root.rows)

      by_chain : (c : Option (List ℕ)) → chain_to w m x ≡ c → first_link c ≡ None
      by_chain None e = refl
      by_chain (Some c) e = absurd (not_up (chain_begins_up w x m c (chain_to-true w x m c e)))

  pub at_rest : IsAtRest w m
  at_rest = record {
    member = ap (λ (p : Process). is_member p.node.control) rests.root.is ∙ le-leb m h.chain within;
    least = λ x lives_x member. ⊎_elim (λ same. omega (arith, same)) (λ leaf. omega (arith, leaf.past, within)) (kind x lives_x);
    ready = ready;
    settled = settled;
    told = knows;
    exact = exact;
  }

  -- each child has asked once
  pub asked : (x : ℕ) → IsUp w x → (x ≡ m → ⊥) → seq_of w x ≡ 1
  asked x lives_x other = asked_once x (leaf_of x lives_x other)
