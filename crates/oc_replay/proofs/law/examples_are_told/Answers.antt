use Rattle.std.proofs.Common.{refl}
use Rattle.std.specs.Fmt.{digits}
use Rattle.hex.proofs.OnLiterals.{hex_on_literals}
use Rattle.oc_replay.proofs.law.examples_are_told.Goals as goal

pub returns : goal.returns
unfolding hex_on_literals digits
returns c = record { empty_schedule = refl; first_path = refl; publish_elsewhere = refl; repeated_delivery = refl; sealed_group = refl; down_and_unknown = refl; torn_gate = refl; heal = refl; heal_summed = refl; first_path_summed = refl }
