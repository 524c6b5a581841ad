use Rattle.std.proofs.Common.{refl}
use Rattle.oc_deeds.specs.Rereading.{takes_measures}
use Rattle.oc_deeds.specs.Sends.{sends}
use Rattle.oc_service.proofs.law.machine_computes.Goals as goal

pub returns : goal.returns
unfolding sends takes_measures
returns c = record { deeds = refl; calls = refl; goes_by = refl; keeps = refl; passed_over = refl }
