use Rattle.oc_content.proofs.Aheads.{content_reads, sees_nothing}
use Rattle.oc_content.proofs.content.Content.read_ahead.Goals as goal

pub invariant_of-self : goal.invariant_of-self
invariant_of-self g c =
    let s = c.self.inside in
    content_reads g.D.Disk.view s.journal c.read_ahead.new.journal s.index s.ahead c.read_ahead.new.ahead c.self.invariant c.read_ahead.ensures.same c.read_ahead.ensures.ahead

pub returns-clause-same : goal.returns-clause-same
returns-clause-same g c =
    sees_nothing g.D.Disk.view c.self.inside.journal c.read_ahead.new.journal c.self.inside.index _ c.self.view_is c.read_ahead.ensures.same
