use Rattle.std.proofs.Common.{refl}
use Rattle.std.specs.Fmt.{digits}
use Rattle.oc_commands.proofs.progress.progress_computes.Goals as goal

pub returns : goal.returns
unfolding digits
returns c = record { nothing = refl; less = refl; reached = refl; passed = refl; undone = refl }
