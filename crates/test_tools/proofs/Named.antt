-- A name that was parsed is a group name.
use Rattle.std.proofs.Common.{◌≡◌, ℕ, Result, Ok, Err, Option, Some, None, List, subst}
use Rattle.oc_base.specs.declared.group_name.NameFault.{NameFault}
use Rattle.oc_base.specs.Names.{IsGroupName, name_fault, name_or}

-- its bytes have no fault
pub named : (bytes g : List ℕ) (o : Option NameFault) → name_fault bytes ≡ o → name_or bytes o ≡ Ok g → IsGroupName g
named bytes g None e h = let same : bytes ≡ g = cc in subst (λ (b : List ℕ). name_fault b ≡ None) same e
named bytes g (Some f) e h = absurd cc
