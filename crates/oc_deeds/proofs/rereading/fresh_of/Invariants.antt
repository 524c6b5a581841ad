-- The measures so far, and those that the rest will add, are all of the result.
use Rattle.std.proofs.Common.{◌≡◌, ◌++◌, filter, drop}
use Rattle.oc_deeds.specs.Rereading.{is_fresh}
use Rattle.oc_deeds.proofs.rereading.fresh_of.Given as goal

abbrev pub invariant-loop-measure : goal.invariant-loop-measure
invariant-loop-measure l = l.measures.items ++ filter (is_fresh l.me l.old) (drop l.measure-index l.new) ≡ filter (is_fresh l.me l.old) l.new
