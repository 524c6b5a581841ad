use Rattle.std.proofs.Common.{List}
use Rattle.oc_model.specs.declared.event.Event.{Event}
use Rattle.oc_model.specs.World.{new_world}
use Rattle.oc_laws_world.specs.Throughout.{Throughout}
use Rattle.oc_laws_world.proofs.Kept.{throughout}
use Rattle.oc_laws_world.proofs.Passing.{always}
use Rattle.oc_laws_world.proofs.Turns.{sound_new}
use Rattle.oc_laws_folders.specs.Folders.{LoseNothing, GoForward}
use Rattle.oc_laws_folders.proofs.Copies.{bytes_stay, folders_stay}
use Rattle.oc_laws_folders.proofs.law.folders_go_forward.Goals as goal

pub returns-clause-bytes : goal.returns-clause-bytes
returns-clause-bytes c =
    always (λ w. (later : List Event) → Throughout (LoseNothing w) w later)
    (λ h. throughout (λ w. (later : List Event) → Throughout (LoseNothing w) w later) bytes_stay (new_world h) (sound_new h))

pub returns-clause-folders : goal.returns-clause-folders
returns-clause-folders c =
    always (λ w. (later : List Event) → Throughout (GoForward w) w later)
    (λ h. throughout (λ w. (later : List Event) → Throughout (GoForward w) w later) folders_stay (new_world h) (sound_new h))
