use Rattle.oc_config.specs.Nodes.{AreOf}
use Rattle.oc_config.proofs.nodes.Split.of.Given as goal

-- the nodes that were taken so far were put
abbrev pub invariant-loop-place : goal.invariant-loop-place
invariant-loop-place l = AreOf l.split.retired.items l.split.addresses.items l.split.listens.items l.split.areas.items l.split.names.items l.yielded
