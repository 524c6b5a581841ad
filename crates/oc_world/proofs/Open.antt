-- Nodes that run on disks that do not fail.
use Rattle.std.proofs.Common.{◌≡◌, false, IsTrue, sym, subst, ◌∙◌}
use Rattle.oc_keep.specs.Files.{AllGoOn, AreReliable, Disks}
use Rattle.oc_keep.specs.KeptView.{IsHonest, KeptView, NodeSurvives, disks_of, node_of}
use Rattle.oc_keep.proofs.Stays.{all_honest}
use Rattle.oc_io.specs.DiskView.{DiskView}
use Rattle.oc_world.specs.ProcessState.{IsOpen}

-- disks that go on are as reliable as before
pub reliable_on : {D : Type 0} (view : D → DiskView) (d e : Disks D) → AllGoOn view d e → AreReliable view d → AreReliable view e
reliable_on view d e on reliable = record {
  control = subst (λ b. IsTrue b) (sym on.control.reliable) reliable.control;
  alternate = subst (λ b. IsTrue b) (sym on.alternate.reliable) reliable.alternate;
  content = subst (λ b. IsTrue b) (sym on.content.reliable) reliable.content;
}

-- a node whose disks go on runs on
pub open_on : {D : Type 0} (view : D → DiskView) (k l : KeptView D) → IsOpen view k → l.closed ≡ k.closed → AllGoOn view (disks_of k) (disks_of l)
    → (l.closed ≡ false → IsHonest view l → NodeSurvives view l (node_of l)) → IsOpen view l
open_on view k l was same on survives =
    let unclosed : l.closed ≡ false = same ∙ was.unclosed in
    let honest : IsHonest view l = all_honest view (disks_of k) (disks_of l) on was.honest in
    record {
      unclosed = unclosed;
      honest = honest;
      reliable = reliable_on view (disks_of k) (disks_of l) on was.reliable;
      survives = survives unclosed honest;
    }

-- the same control state and content make the same node
pub same_node : {D : Type 0} (k l : KeptView D) → l.node.control ≡ k.node.control → l.content ≡ k.content → node_of l ≡ node_of k
same_node k l control content = cc
