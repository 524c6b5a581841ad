use Rattle.oc_laws_step.proofs.Unfolding.{snapshot_stands}
use Rattle.oc_laws_step.proofs.snapshots.snapshots_stand_for_all.Goals as goal

pub returns : goal.returns
returns c = snapshot_stands
