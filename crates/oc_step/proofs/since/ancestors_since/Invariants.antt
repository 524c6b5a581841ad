use Rattle.std.proofs.Common.{◌≡◌, drop}
use Rattle.oc_step.specs.Since.{ancestors_over}
use Rattle.oc_step.proofs.since.ancestors_since.Given as goal

abbrev pub invariant-loop-change : goal.invariant-loop-change
invariant-loop-change l = ancestors_over l.last (drop l.change-index l.records) ≡ ancestors_over l.before l.records
