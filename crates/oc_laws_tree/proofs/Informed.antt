-- The counts of right lines: where a root's line of a node is right, its count of that node's clients is right too, or the
-- cause is at hand.
use Rattle.std.proofs.Common.{◌≡◌, ℕ, ◌<◌, ◌≤◌, Option, Some, None, List, [], ◌∷◌, ◌⊎◌, inl, inr, refl, subst, arith}
use Rattle.std.proofs.lemmas.Bool.{cases_order}
use Rattle.oc_base.specs.declared.cert.Cert.{Cert}
use Rattle.oc_model.specs.Chains.{IsTrueChain, first_link, chain_to}
use Rattle.oc_model.specs.ClaimsTree.{table_of, seq_of, HasEndedLease, HasWaiting, IsCountInformed, IsInformed}
use Rattle.oc_model.specs.Table.{newest}
use Rattle.oc_model.specs.World.{World}
use Rattle.oc_model.proofs.Chains.{chain_to-true}
use Rattle.oc_laws_step.proofs.Tables.{newest-subject}
use Rattle.oc_laws_tree.specs.Clients.{kept_of, GoesWithCount}
use Rattle.oc_laws_tree.proofs.Chained.{row_along, at_root}
use Rattle.oc_laws_tree.proofs.Decided.{IsDecided, decided_either, ended_decided, waiting_decided}
use Rattle.oc_laws_tree.proofs.Rising.{row_anywhere}
use Rattle.oc_laws_tree.proofs.Rows.{HasLiveRow}
use Rattle.oc_laws_tree.proofs.TreeHolds.{CountedTree}

-- a row is a fact in a table, so its own number goes with its count
row_counts : (w : World) (z x : ℕ) (k : Cert) → newest (table_of w z) x ≡ Some k → GoesWithCount w x k.number k.clients
row_counts w z x k found = inr (inr (k, row_anywhere w z x k found, newest-subject (table_of w z) x k found, refl, refl))

-- no row's own number is above that of its subject
row_below : (w : World) → CountedTree w → (z x : ℕ) (k : Cert) → newest (table_of w z) x ≡ Some k → k.number ≤ (kept_of w x).number
row_below w holds z x k found = holds.numbers x k.number k.clients (row_counts w z x k found)

-- a row of x at the root with the last number of x, or a greater one, has the count of x
count_right : (w : World) → CountedTree w → (r x p s : ℕ) → HasLiveRow (table_of w r) x p s (kept_of w x).number → IsCountInformed w r x p
count_right w holds r x p s (k, row) =
    let same : k.number ≡ (kept_of w x).number = omega (arith, row_below w holds r x k row.found, row.number) in
    let count : k.clients ≡ (kept_of w x).clients =
    holds.counts x (kept_of w x).number k.clients (kept_of w x).clients (subst (λ n. GoesWithCount w x n k.clients) same (row_counts w r x k row.found)) (inl (refl, refl)) in
    inl (k, row.found, same, count)

-- the parent's row k has the last number of x, and then the root's row has it too or a smaller one
count_by_rows : (w : World) → CountedTree w → (r x p s : ℕ) (k : Cert) → newest (table_of w p) x ≡ Some k → HasLiveRow (table_of w r) x p s k.number → IsCountInformed w r x p
count_by_rows w holds r x p s k found at_r = by_order (cases_order k.number (kept_of w x).number) where
  by_order : (k.number ≡ (kept_of w x).number) ⊎ ((k.number < (kept_of w x).number) ⊎ ((kept_of w x).number < k.number)) → IsCountInformed w r x p
  by_order (inl same) = count_right w holds r x p s (subst (λ n. HasLiveRow (table_of w r) x p s n) same at_r)
  by_order (inr (inl less)) = inr (inr (k, found, less))
  by_order (inr (inr more)) = absurd (omega (arith, row_below w holds p x k found, more))

-- the cause is at hand on a true chain, or the rows of x are along it
count_by_chain : (w : World) → CountedTree w → (r x p : ℕ) (ps : List ℕ) → IsTrueChain w x r (x ∷ p ∷ ps) → IsCountInformed w r x p
count_by_chain w holds r x p ps chain = by_cause (decided_either (ended_decided w (x ∷ p ∷ ps)) (waiting_decided w (x ∷ p ∷ ps))) where
  by_cause : IsDecided (HasEndedLease w (x ∷ p ∷ ps) ⊎ HasWaiting w (x ∷ p ∷ ps)) → IsCountInformed w r x p
  by_cause (inl cause) = inr (inl (x ∷ p ∷ ps, chain, cause))
  by_cause (inr none) =
      let along = row_along w holds.tree x p r ps chain (λ ended. none (inl ended)) (λ waits. none (inr waits)) in
      let k : Cert = along.0 in
      let at_r : HasLiveRow (table_of w r) x p (seq_of w x) k.number = at_root w (λ z. HasLiveRow (table_of w z) x p (seq_of w x) k.number) p r (p ∷ ps) chain.3 along.2 in
      count_by_rows w holds r x p (seq_of w x) k along.1.found at_r

-- each count of a right line at a root is right, or its cause is at hand
pub informed : (w : World) → CountedTree w → IsInformed w
informed w holds r x p root line truth = by_found (chain_to w r x) refl truth where
  by_links : (c : List ℕ) → IsTrueChain w x r c → first_link (Some c) ≡ Some p → IsCountInformed w r x p
  by_links [] chain first = absurd chain
  by_links (a ∷ []) chain first = absurd cc
  by_links (a ∷ b ∷ bs) chain first =
      let same : b ≡ p = cc in
      subst (IsCountInformed w r x) same (count_by_chain w holds r x b bs (refl, chain.1, chain.2, chain.3))

  by_found : (found : Option (List ℕ)) → chain_to w r x ≡ found → first_link found ≡ Some p → IsCountInformed w r x p
  by_found None e first = absurd cc
  by_found (Some c) e first = by_links c (chain_to-true w x r c e) first
