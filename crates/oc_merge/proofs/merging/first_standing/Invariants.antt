use Rattle.oc_merge.specs.Ends.{IsFirstAtHeads}
use Rattle.oc_merge.proofs.merging.first_standing.Given as goal

abbrev pub invariant-loop-index : goal.invariant-loop-index
invariant-loop-index l = IsFirstAtHeads l.lines l.heads l.starts l.index l.first
