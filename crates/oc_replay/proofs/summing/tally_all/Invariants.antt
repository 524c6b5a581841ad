use Rattle.oc_replay.proofs.Counts.{IsCounted}
use Rattle.oc_replay.proofs.summing.tally_all.Given as goal

-- the counts so far, and those of the nodes from here on, are the whole
abbrev pub invariant-loop-id : goal.invariant-loop-id
invariant-loop-id g l = IsCounted (g.T.Stage.world l.stage) l.id l.nodes l.total
