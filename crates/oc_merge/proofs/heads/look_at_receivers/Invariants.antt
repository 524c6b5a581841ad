use Rattle.oc_merge.specs.Heads.{AreSamePlaces, HaveWaysBut, receivers_after}
use Rattle.oc_merge.proofs.heads.look_at_receivers.Given as goal

-- the remaining receivers are those of the messages from this one on
abbrev pub invariant-loop-number : goal.invariant-loop-number
invariant-loop-number g l = AreSamePlaces l.initial.heads.items l.heads.items
    × HaveWaysBut g.N.Nodes.digest l.records (g.N.Nodes.world l.nodes) l.heads.items (receivers_after l.number (g.N.Nodes.world l.nodes).net)
