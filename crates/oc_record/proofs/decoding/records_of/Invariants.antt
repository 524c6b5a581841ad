use Rattle.std.proofs.Common.{length, ◌-◌}
use Rattle.oc_record.proofs.Runs.{IsUnderWay}
use Rattle.oc_record.proofs.decoding.records_of.Given as goal

-- the records so far and those that are still read are all
abbrev pub invariant-loop-at : goal.invariant-loop-at
invariant-loop-at l = IsUnderWay l.nodes l.bytes l.list.items l.at

abbrev pub decreases-loop-at : goal.decreases-loop-at
decreases-loop-at l = length l.bytes - l.at
