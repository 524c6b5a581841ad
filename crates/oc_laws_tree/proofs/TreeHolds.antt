-- The laws of the tree in one world, by which its listings are explained.
use Rattle.std.proofs.Common.{ℕ, ◌⊎◌}
use Rattle.oc_base.specs.declared.cert.Cert.{Cert}
use Rattle.oc_model.specs.Chains.{IsJoined}
use Rattle.oc_model.specs.ClaimsTree.{table_of, WaitsAt}
use Rattle.oc_model.specs.Numbers.{IsAmong}
use Rattle.oc_model.specs.World.{World}
use Rattle.oc_laws_world.specs.Numbers.{IsAnywhere, HaveOnePeer, AskNumbersAreBelow}
use Rattle.oc_laws_tree.specs.Clients.{HaveOneCount, OwnNumbersAreBelow}
use Rattle.oc_laws_tree.proofs.Known.{Knows}

-- the laws of asks and of known facts
pub record TreeHolds (w : World) : Type 0 where
  pub peers : HaveOnePeer w
  pub asks : AskNumbersAreBelow w
  -- the parent that a fact names knows it
  pub granted : (f : Cert) → IsAnywhere w f → Knows (table_of w f.parent) f
  -- the parent knows each fact that its child knows, or something about the fact's subject waits
  pub told : (x y : ℕ) (f : Cert) → IsJoined w x y → IsAmong f (table_of w x) → Knows (table_of w y) f ⊎ WaitsAt w x f.subject

-- the law of own numbers too
pub record CountedTree (w : World) : Type 0 where
  pub tree : TreeHolds w
  pub counts : HaveOneCount w
  pub numbers : OwnNumbersAreBelow w
