use Rattle.oc_content.proofs.Aheads.{ahead_reads, content_reads, sees_nothing}
use Rattle.oc_content.proofs.content.Content.read.Goals as goal

pub invariant_of-self : goal.invariant_of-self
invariant_of-self g c =
    let s = c.self.inside in
    let view = g.D.Disk.view in
    content_reads view s.journal c.read_group.new.journal s.index s.ahead s.ahead c.self.invariant c.read_group.ensures.same (ahead_reads view s.journal c.read_group.new.journal s.ahead c.read_group.ensures.same c.self.invariant.ahead)

pub returns-clause-same : goal.returns-clause-same
returns-clause-same g c =
    sees_nothing g.D.Disk.view c.self.inside.journal c.read_group.new.journal c.self.inside.index _ c.self.view_is c.read_group.ensures.same
