use Rattle.std.proofs.Common.{[], ◌∷◌, take, refl}
use Rattle.oc_base.proofs.Each.{all_append}
use Rattle.oc_wire.specs.Rows.{HasLeast}
use Rattle.oc_wire.specs.declared.refusals.TheConstants.{REFUSALS}
use Rattle.oc_wire.specs.declared.codes.TheConstants.{CODES}
use Rattle.oc_wire.proofs.Leasts.{have_leasts, shortest, are_lawful, large_least, have_lengths, refusals_all}
use Rattle.oc_wire.proofs.law.least_lengths_are_exact.Goals as goal

pub returns-clause-kinds : goal.returns-clause-kinds
returns-clause-kinds c = all_append HasLeast (take 10 CODES) (record { code = 14; least = 65552 } ∷ []) (have_leasts (take 10 CODES) shortest are_lawful refl) (large_least, tt)

pub returns-clause-refusals : goal.returns-clause-refusals
returns-clause-refusals c = have_lengths REFUSALS refusals_all refl
