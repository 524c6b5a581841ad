-- The causes of missing and wrong lines: each such line of an acting root's table has its cause at hand.
use Rattle.std.proofs.Common.{◌≡◌, ℕ, Bool, true, false, Option, Some, None, List, ◌⊎◌, inl, inr, refl}
use Rattle.oc_model.specs.Chains.{IsRoot, IsTrueChain, HasTrueChain, chain_to}
use Rattle.oc_model.specs.ClaimsTree.{table_of, HasEndedLease, HasWaiting, IsLineExplained, IsExplained}
use Rattle.oc_model.specs.Table.{is_listed}
use Rattle.oc_model.specs.World.{World}
use Rattle.oc_model.proofs.Chains.{chain_to-finds, chain_to-true}
use Rattle.oc_model.proofs.Walks.{is_listed-exact}
use Rattle.oc_laws_tree.proofs.Decided.{IsDecided, decided_either, ended_decided, waiting_decided}
use Rattle.oc_laws_tree.proofs.LinesRight.{line_right}
use Rattle.oc_laws_tree.proofs.LinesWrong.{wrong_cause}
use Rattle.oc_laws_tree.proofs.TreeHolds.{TreeHolds}

-- the line of a node with a true chain is explained
explained_chained : (w : World) → TreeHolds w → (r x : ℕ) (c : List ℕ) → (x ≡ r → ⊥) → IsTrueChain w x r c → IsLineExplained w r x
explained_chained w holds r x c apart chain = by_cause (decided_either (ended_decided w c) (waiting_decided w c)) where
  by_cause : IsDecided (HasEndedLease w c ⊎ HasWaiting w c) → IsLineExplained w r x
  by_cause (inl cause) = inr (inl ((c, chain), (c, chain, cause)))
  by_cause (inr out) = inl (line_right w holds x r c apart chain (λ ended. out (inl ended)) (λ waits. out (inr waits)))

-- the line of a node without a true chain is explained
explained_loose : (w : World) → TreeHolds w → (r x : ℕ) → IsRoot w r → chain_to w r x ≡ None → IsLineExplained w r x
explained_loose w holds r x root out = by_listed (is_listed (table_of w r) r x) refl where
  loose : HasTrueChain w x r → ⊥
  loose chain = absurd (let found : chain_to w r x ≡ Some chain.0 = chain_to-finds w x r chain.0 chain.1 in cc)

  by_listed : (b : Bool) → is_listed (table_of w r) r x ≡ b → IsLineExplained w r x
  by_listed false e = inl (rw (e, out) refl)
  by_listed true e = inr (inr (loose, wrong_cause w holds r x root ((is_listed-exact (table_of w r) r x).0 e) loose))

-- the lines of each root are explained in a world where the laws of the tree hold
pub explained : (w : World) → TreeHolds w → IsExplained w
explained w holds r x root apart = by_chain (chain_to w r x) refl where
  by_chain : (found : Option (List ℕ)) → chain_to w r x ≡ found → IsLineExplained w r x
  by_chain (Some c) e = explained_chained w holds r x c apart (chain_to-true w x r c e)
  by_chain None e = explained_loose w holds r x root e
