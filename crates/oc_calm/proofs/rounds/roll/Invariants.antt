-- The nodes found so far, and those of the rest that are up, are all nodes that are up.
use Rattle.std.proofs.Common.{◌≡◌, ◌-◌, ◌++◌, filter}
use Rattle.std.specs.List.{range_with_len}
use Rattle.oc_model.specs.World.{is_up, up_ids}
use Rattle.oc_calm.proofs.rounds.roll.Given as goal

abbrev pub invariant-loop-number : goal.invariant-loop-number
invariant-loop-number g l =
    let world = g.C.Cluster.world l.cluster in
    l.up.items ++ filter (is_up world) (range_with_len l.number (l.number-end - l.number)) ≡ up_ids world
