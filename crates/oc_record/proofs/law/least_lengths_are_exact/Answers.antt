use Rattle.std.proofs.Common.{refl}
use Rattle.oc_record.specs.declared.codes.TheConstants.{CODES}
use Rattle.oc_record.proofs.Leasts.{have_leasts, shortest}
use Rattle.oc_record.proofs.law.least_lengths_are_exact.Goals as goal

pub returns : goal.returns
returns c = have_leasts CODES shortest refl
