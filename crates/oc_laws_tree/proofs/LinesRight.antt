-- Right lines: a root's line of a node in the live tree is right while no lease on the node's true chain has ended and nothing
-- waits above.
use Rattle.std.proofs.Common.{◌≡◌, ℕ, true, Some, List, [], ◌∷◌, inr, subst}
use Rattle.oc_model.specs.Chains.{IsTrueChain, true_line}
use Rattle.oc_model.specs.ClaimsTree.{table_of, seq_of, HasEndedLease, HasWaiting}
use Rattle.oc_model.specs.Table.{parent_in, IsWay, is_listed, table_line}
use Rattle.oc_model.specs.World.{World}
use Rattle.oc_model.proofs.Chains.{chain_to-finds}
use Rattle.oc_model.proofs.Walks.{is_listed-exact}
use Rattle.oc_laws_tree.proofs.Chained.{row_along, at_root}
use Rattle.oc_laws_tree.proofs.Rows.{HasLiveRow, row_parent}
use Rattle.oc_laws_tree.proofs.TreeHolds.{TreeHolds}

-- the root has each node's parent
pub root_has_parent : (w : World) → TreeHolds w → (x y r : ℕ) (ys : List ℕ) → IsTrueChain w x r (x ∷ y ∷ ys) → (HasEndedLease w (x ∷ y ∷ ys) → ⊥) → (HasWaiting w (x ∷ y ∷ ys) → ⊥)
    → parent_in (table_of w r) x ≡ Some y
root_has_parent w holds x y r ys chain lasts still =
    let rows = row_along w holds x y r ys chain lasts still in
    let row : HasLiveRow (table_of w r) x y (seq_of w x) rows.0.number = at_root w (λ z. HasLiveRow (table_of w z) x y (seq_of w x) rows.0.number) y r (y ∷ ys) chain.3 rows.2 in
    row_parent (table_of w r) x y (seq_of w x) rows.0.number row.0 row.1

-- a true chain is a way up the root's table
pub chain_way : (w : World) → TreeHolds w → (x y r : ℕ) (ys : List ℕ) → IsTrueChain w x r (x ∷ y ∷ ys) → (HasEndedLease w (x ∷ y ∷ ys) → ⊥) → (HasWaiting w (x ∷ y ∷ ys) → ⊥)
    → (between : List ℕ) × IsWay (table_of w r) r x between
chain_way w holds x y r [] chain lasts still = ([], subst (λ z. parent_in (table_of w r) x ≡ Some z) chain.3.1 (root_has_parent w holds x y r [] chain lasts still))
chain_way w holds x y r (z ∷ zs) chain lasts still =
    let rest : (between : List ℕ) × IsWay (table_of w r) r y between = chain_way w holds y z r zs chain.3 (λ ended. lasts (inr ended)) (λ waits. still (inr waits)) in
    (y ∷ rest.0, (root_has_parent w holds x y r (z ∷ zs) chain lasts still, rest.1))

-- the root's line of a node is the first link of the node's true chain
line_from : (w : World) → TreeHolds w → (x y r : ℕ) (ys : List ℕ) → (x ≡ r → ⊥) → IsTrueChain w x r (x ∷ y ∷ ys) → (HasEndedLease w (x ∷ y ∷ ys) → ⊥) → (HasWaiting w (x ∷ y ∷ ys) → ⊥)
    → table_line (table_of w r) r x ≡ true_line w r x
line_from w holds x y r ys apart chain lasts still =
    let listed : is_listed (table_of w r) r x ≡ true = (is_listed-exact (table_of w r) r x).1 (apart, chain_way w holds x y r ys chain lasts still) in
    rw (listed, chain_to-finds w x r (x ∷ y ∷ ys) chain) (root_has_parent w holds x y r ys chain lasts still)

pub line_right : (w : World) → TreeHolds w → (x r : ℕ) (c : List ℕ) → (x ≡ r → ⊥) → IsTrueChain w x r c → (HasEndedLease w c → ⊥) → (HasWaiting w c → ⊥)
    → table_line (table_of w r) r x ≡ true_line w r x
line_right w holds x r [] apart chain lasts still = absurd chain
line_right w holds x r (a ∷ []) apart chain lasts still = absurd (apart chain.1)
line_right w holds x r (a ∷ y ∷ ys) apart chain lasts still =
    line_from w holds x y r ys apart (subst (λ z. IsTrueChain w x r (z ∷ y ∷ ys)) chain.0 chain)
    (subst (λ z. HasEndedLease w (z ∷ y ∷ ys) → ⊥) chain.0 lasts) (subst (λ z. HasWaiting w (z ∷ y ∷ ys) → ⊥) chain.0 still)
