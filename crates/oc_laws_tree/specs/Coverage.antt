use Rattle.std.specs.Prelude.{◌≡◌, ℕ, ◌⊎◌, length}
use Rattle.oc_base.specs.declared.cert.Cert.{Cert}
use Rattle.oc_model.specs.declared.event.Act.{Act}
use Rattle.oc_model.specs.declared.event.Event.TheVariants.{Up, Crash, Stop, Do}
use Rattle.oc_model.specs.Certificates.{IsCovered}
use Rattle.oc_model.specs.Chains.{IsJoined}
use Rattle.oc_model.specs.ClaimsTree.{table_of}
use Rattle.oc_model.specs.NextWorld.{next_world}
use Rattle.oc_model.specs.Node.{Durable}
use Rattle.oc_model.specs.Numbers.{IsAmong}
use Rattle.oc_model.specs.Records.{folded}
use Rattle.oc_model.specs.Snapshot.{snapshot}
use Rattle.oc_model.specs.World.{World}
use Rattle.oc_laws_tree.specs.Clients.{kept_of}
use Rattle.oc_laws_tree.specs.Sessions.{log_of}

-- A parent knows each fact that its child knows, unless the fact waits in the child's log.

-- each fact in a child's table is covered by its parent's table, or by the facts that wait in the child's log
abbrev pub ChildrenAreCovered : World → Type 0
ChildrenAreCovered w = (x y : ℕ) (f : Cert) → IsJoined w x y → IsAmong f (table_of w x) → IsCovered (table_of w y) f ⊎ IsCovered (log_of w x).waiting f

-- starts and crashes do not change a log: its length, the number of acknowledged facts, and the waiting ones. A stop within an act leaves
-- the log unchanged, or as the act leaves it
pub record RestartsKeepLogs (w : World) : Type 0 where
  pub starts : (z x : ℕ) → log_of (next_world w (Up z)) x ≡ log_of w x
  pub crashes : (z x : ℕ) → log_of (next_world w (Crash z)) x ≡ log_of w x
  pub stops : (calls image x : ℕ) (a : Act) → (log_of (next_world w (Stop calls image a)) x ≡ log_of w x) ⊎ (log_of (next_world w (Stop calls image a)) x ≡ log_of (next_world w (Do a)) x)

-- the records of a snapshot of any node, with any running number and folded over any state with as many measures, give its log
abbrev pub SnapshotsKeepLogs : World → Type 0
SnapshotsKeepLogs w = (x generation : ℕ) (before : Durable) → length before.measures ≡ length (kept_of w x).measures →
    (folded before (snapshot generation (kept_of w x))).log ≡ log_of w x
