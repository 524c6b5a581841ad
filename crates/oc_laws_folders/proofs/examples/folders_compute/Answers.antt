use Rattle.std.proofs.Common.{refl}
use Rattle.oc_folder.specs.Reading.{reading, read_on}
use Rattle.oc_laws_folders.proofs.examples.folders_compute.Goals as goal

pub returns : goal.returns
unfolding reading read_on
returns c = record { first = refl; both = refl }
