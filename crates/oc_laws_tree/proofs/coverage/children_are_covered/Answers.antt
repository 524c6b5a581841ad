use Rattle.oc_laws_world.proofs.Passing.{always}
use Rattle.oc_laws_tree.specs.Coverage.{ChildrenAreCovered, RestartsKeepLogs, SnapshotsKeepLogs}
use Rattle.oc_laws_tree.proofs.SessionsCovered.{restarts_keep}
use Rattle.oc_laws_tree.proofs.SoundNodes.{snapshots_keep_logs, sound_throughout}
use Rattle.oc_laws_tree.proofs.Together.{all_throughout, all_children_covered}
use Rattle.oc_laws_tree.proofs.coverage.children_are_covered.Goals as goal

pub returns-clause-covered : goal.returns-clause-covered
returns-clause-covered c = always ChildrenAreCovered (all_throughout ChildrenAreCovered all_children_covered)

pub returns-clause-restarts : goal.returns-clause-restarts
returns-clause-restarts c = always RestartsKeepLogs (all_throughout RestartsKeepLogs (λ w holds. restarts_keep w))

pub returns-clause-snapshots : goal.returns-clause-snapshots
returns-clause-snapshots c = always SnapshotsKeepLogs (sound_throughout SnapshotsKeepLogs snapshots_keep_logs)
