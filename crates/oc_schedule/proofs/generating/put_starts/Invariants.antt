-- The starts that were put, and those of the nodes that are left, are all starts.
use Rattle.std.proofs.Common.{◌≡◌, ◌+◌, ◌-◌, ◌++◌, map}
use Rattle.std.specs.List.{range_with_len}
use Rattle.oc_model.specs.declared.event.Event.TheVariants.{Up}
use Rattle.oc_schedule.proofs.generating.put_starts.Given as goal

abbrev pub invariant-loop-node : goal.invariant-loop-node
invariant-loop-node l =
    l.events ++ map (λ x. Up x) (range_with_len l.node (l.nodes + 1 - l.node)) ≡ l.initial.events ++ map (λ x. Up x) (range_with_len 1 l.nodes)
