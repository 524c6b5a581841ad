-- A run to try the definitions on.
use Rattle.std.specs.Prelude.{◌≡◌, ℕ, List, [], ◌∷◌, take, drop, codes}
use Rattle.oc_folder.specs.declared.entry.Entry.{Entry}
use Rattle.oc_folder.specs.Examples.{two_archives, one_entry, two_entries}
use Rattle.oc_folder.specs.Reading.{reading}
use Rattle.oc_model.specs.declared.event.Act.TheVariants.{At, Deliver}
use Rattle.oc_model.specs.declared.event.Event.{Event}
use Rattle.oc_model.specs.declared.event.Event.TheVariants.{Up, Crash, Do}
use Rattle.oc_model.specs.declared.input.Input.TheVariants.{Pull, Publish}
use Rattle.oc_model.specs.ExampleRuns.{header}
use Rattle.oc_model.specs.NextWorld.{world_after}
use Rattle.oc_model.specs.World.{World, new_world}
use Rattle.oc_laws_folders.specs.Folders.{bytes_at}

-- A source publishes an archive and half of a second one; a node copies them and crashes; then the rest is published and copied.

abbrev group : List ℕ
group = codes "/f"

abbrev half : List Event
half =
    Up 1 ∷ Up 2 ∷ Do (At 1 (Publish group (take 3000 two_archives))) ∷ Do (At 2 (Pull 1)) ∷ Do (Deliver 1) ∷ Do (Deliver 2) ∷ Crash 2 ∷ []

abbrev rest : List Event
rest = Up 2 ∷ Do (At 1 (Publish group (drop 3000 two_archives))) ∷ Do (At 2 (Pull 1)) ∷ Do (Deliver 3) ∷ Do (Deliver 4) ∷ []

abbrev halfway : World
halfway = world_after (new_world (header 2 1 (0 ∷ 0 ∷ []))) half

abbrev finished : World
finished = world_after halfway rest

abbrev shown_at : World → ℕ → List Entry
shown_at w x = (reading (bytes_at w x group)).shown

pub record CopyingInParts : Type 0 where
  pub first : shown_at halfway 2 ≡ one_entry
  pub both : shown_at finished 2 ≡ two_entries
