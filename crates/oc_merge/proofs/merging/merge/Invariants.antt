use Rattle.std.proofs.Common.{length}
use Rattle.oc_merge.specs.Heads.{AreNextPlaces, HaveWays, IsOnTheWay, lines_left}
use Rattle.oc_merge.proofs.merging.merge.Given as goal

-- the events of the lines taken are the schedule so far
abbrev pub invariant-taking : goal.invariant-taking
invariant-taking g l = IsOnTheWay g.N.Nodes.digest l.records l.fronts.heads.items (g.N.Nodes.world l.nodes) l.events
    × HaveWays g.N.Nodes.digest l.records (g.N.Nodes.world l.nodes) l.fronts.heads.items
    × AreNextPlaces l.records.lines l.fronts.next.items

abbrev pub decreases-taking : goal.decreases-taking
decreases-taking g l = lines_left (length l.records.lines) l.fronts.heads.items
