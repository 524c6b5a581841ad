use Rattle.oc_model.specs.World.{new_world}
use Rattle.oc_laws_world.proofs.Kept.{throughout}
use Rattle.oc_laws_world.proofs.Passing.{always}
use Rattle.oc_laws_world.proofs.Turns.{sound_new}
use Rattle.oc_laws_folders.specs.Folders.{AreSnapshots}
use Rattle.oc_laws_folders.proofs.Copies.{snapshots}
use Rattle.oc_laws_folders.proofs.law.folders_are_snapshots.Goals as goal

pub returns : goal.returns
returns c = always AreSnapshots (λ h. throughout AreSnapshots snapshots (new_world h) (sound_new h))
