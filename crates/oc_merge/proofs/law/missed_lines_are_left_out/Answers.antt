use Rattle.std.proofs.Common.{refl}
use Rattle.oc_merge.proofs.law.missed_lines_are_left_out.Goals as goal

pub returns : goal.returns
returns c = record { missed = refl; taken = refl; neither = refl }
