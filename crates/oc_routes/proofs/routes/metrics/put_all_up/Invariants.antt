-- The samples so far and those to come are all.
use Rattle.std.proofs.Common.{◌≡◌, ◌++◌, drop}
use Rattle.std.specs.List.{flat_map}
use Rattle.oc_routes.specs.Metrics.{up_sample}
use Rattle.oc_routes.specs.Sights.{sight_of}
use Rattle.oc_routes.proofs.routes.metrics.put_all_up.Given as goal

abbrev pub invariant-loop-node : goal.invariant-loop-node
invariant-loop-node l = l.out.items ++ flat_map (up_sample (sight_of l.seen)) (drop l.node-index l.ids) ≡ l.fn.out.items ++ flat_map (up_sample (sight_of l.seen)) l.ids
