-- The rows along a true chain: while a node's parent holds its lease and nothing about it waits above, each node above has a
-- row of that lease, no older than the parent's own.
use Rattle.std.proofs.Common.{◌≡◌, ℕ, Some, List, [], ◌∷◌, ◌⊎◌, inl, inr, sym, subst, ◌∙◌, arith}
use Rattle.std.specs.List.{AllByRecursion}
use Rattle.oc_base.specs.declared.cert.Cert.{Cert}
use Rattle.oc_model.specs.Chains.{IsJoined, IsTrueChain}
use Rattle.oc_model.specs.ClaimsTree.{table_of, seq_of, WaitsAt, WaitsBelow, HasEndedLease, HasWaiting}
use Rattle.oc_model.specs.Table.{newest}
use Rattle.oc_model.specs.World.{World}
use Rattle.oc_laws_tree.proofs.Decided.{lease_decided, not_denied}
use Rattle.oc_laws_tree.proofs.Rising.{HasNoOlder, row_goes, row_rises, row_granted, same_parent}
use Rattle.oc_laws_tree.proofs.Rows.{IsLiveRow, HasLiveRow, IsPast, IsStill, lease_row, past_later, past_itself, past_or_still}
use Rattle.oc_laws_tree.proofs.TreeHolds.{TreeHolds}

-- no row of a leased child x makes the parent's row b obsolete
not_past : (w : World) → TreeHolds w → (x y z : ℕ) (b k : Cert) → IsLiveRow (table_of w y) x y (seq_of w x) b.number b → newest (table_of w z) x ≡ Some k → IsPast k b → ⊥
not_past w holds x y z b k own found (inl more) = omega (arith, holds.asks x k.seq k.parent (row_goes w z x k found), own.seq)
not_past w holds x y z b k own found (inr dead) =
    let granted : HasNoOlder (table_of w y) x k = row_granted w holds x z y k found (same_parent w holds x y z b k own.found found dead.0 ∙ own.parent) in
    let same : granted.0 ≡ b = cc (own.found, granted.1) in
    past_itself b own.alive (subst (λ c. IsPast c b) same (past_later granted.0 k b (inr dead) granted.2))

-- the row goes from a node up to the node's parent, or it waits
row_step : (w : World) → TreeHolds w → (x y u z : ℕ) (b : Cert) → IsLiveRow (table_of w y) x y (seq_of w x) b.number b → IsJoined w u z → (WaitsAt w u x → ⊥)
    → HasLiveRow (table_of w u) x y (seq_of w x) b.number → HasLiveRow (table_of w z) x y (seq_of w x) b.number
row_step w holds x y u z b own joined still row = by_risen (row_rises w holds x u z f joined row.1.found) where
  f : Cert
  f = row.0

  even : f.seq ≡ b.seq
  even = row.1.seq ∙ sym own.seq

  past_own : (k : Cert) → IsPast k f → IsPast k b
  past_own k (inl more) = inl (omega (arith, even))
  past_own k (inr dead) = inr (dead.0 ∙ even, dead.1)

  by_age : (k : Cert) → newest (table_of w z) x ≡ Some k → IsPast k f ⊎ IsStill k f → HasLiveRow (table_of w z) x y (seq_of w x) b.number
  by_age k found (inl past) = absurd (not_past w holds x y z b k own found (past_own k past))
  by_age k found (inr same) = (
    k,
    record {
      found = found;
      alive = same.1;
      parent = same_parent w holds x u z f k row.1.found found same.0 ∙ row.1.parent;
      seq = same.0 ∙ row.1.seq;
      number = omega (arith, same.2, row.1.number);
    },
  )

  by_risen : WaitsAt w u x ⊎ HasNoOlder (table_of w z) x f → HasLiveRow (table_of w z) x y (seq_of w x) b.number
  by_risen (inl waits) = absurd (still waits)
  by_risen (inr risen) = by_age risen.0 risen.1 (past_or_still risen.0 f row.1.alive risen.2)

-- each node on the true chain of a node with the row has the row
row_up : (w : World) → TreeHolds w → (x y u r : ℕ) (b : Cert) (c : List ℕ) → IsLiveRow (table_of w y) x y (seq_of w x) b.number b → IsTrueChain w u r c → (WaitsBelow w c x → ⊥)
    → HasLiveRow (table_of w u) x y (seq_of w x) b.number → AllByRecursion (λ z. HasLiveRow (table_of w z) x y (seq_of w x) b.number) c
row_up w holds x y u r b [] own chain still row = absurd chain
row_up w holds x y u r b (a ∷ []) own chain still row = (subst (λ z. HasLiveRow (table_of w z) x y (seq_of w x) b.number) (sym chain.0) row, tt)
row_up w holds x y u r b (a ∷ d ∷ ds) own chain still row = (
  subst (λ z. HasLiveRow (table_of w z) x y (seq_of w x) b.number) (sym chain.0) row,
  row_up w holds x y d r b (d ∷ ds) own chain.3 (λ waits. still (inr waits))
      (row_step w holds x y u d b own chain.2 (λ waits. still (inl (subst (λ z. WaitsAt w z x) (sym chain.0) waits))) row),
)

-- where no lease on the true chain of x has ended and nothing waits above, the parent y of x has the row b of its lease, and
-- each node from y up has a living row of x that names y and the number of x's ask, with an own number no less than that of b
pub row_along : (w : World) → TreeHolds w → (x y r : ℕ) (ys : List ℕ) → IsTrueChain w x r (x ∷ y ∷ ys) → (HasEndedLease w (x ∷ y ∷ ys) → ⊥) → (HasWaiting w (x ∷ y ∷ ys) → ⊥)
    → (b : Cert) × IsLiveRow (table_of w y) x y (seq_of w x) b.number b × AllByRecursion (λ z. HasLiveRow (table_of w z) x y (seq_of w x) b.number) (y ∷ ys)
row_along w holds x y r ys chain lasts still = (own.0, own.1, row_up w holds x y y r own.0 (y ∷ ys) own.1 chain.3 (λ waits. still (inl waits)) (own.0, own.1)) where
  own : (b : Cert) × IsLiveRow (table_of w y) x y (seq_of w x) b.number b
  own = lease_row (table_of w y) y x (seq_of w x) (not_denied (lease_decided w y x (seq_of w x)) (λ none. lasts (inl none)))

-- a property of each node of a true chain holds of its root
pub at_root : (w : World) (P : ℕ → Type 0) (x r : ℕ) (c : List ℕ) → IsTrueChain w x r c → AllByRecursion P c → P r
at_root w P x r [] chain all = absurd chain
at_root w P x r (a ∷ []) chain all = subst P (chain.0 ∙ chain.1) all.0
at_root w P x r (a ∷ d ∷ ds) chain all = at_root w P d r (d ∷ ds) chain.3 all.1
