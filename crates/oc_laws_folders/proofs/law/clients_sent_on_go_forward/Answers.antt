use Rattle.oc_model.specs.World.{new_world}
use Rattle.oc_laws_world.proofs.Kept.{throughout}
use Rattle.oc_laws_world.proofs.Passing.{always}
use Rattle.oc_laws_world.proofs.Turns.{sound_new}
use Rattle.oc_laws_folders.specs.Folders.{KeepUp}
use Rattle.oc_laws_folders.proofs.Copies.{nodes_keep_up}
use Rattle.oc_laws_folders.proofs.law.clients_sent_on_go_forward.Goals as goal

pub returns : goal.returns
returns c = always KeepUp (λ h. throughout KeepUp nodes_keep_up (new_world h) (sound_new h))
