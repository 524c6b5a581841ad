use Rattle.oc_content.proofs.Aheads.{content_reads, sees_nothing}
use Rattle.oc_content.proofs.content.Content.fetch.Goals as goal

pub invariant_of-self : goal.invariant_of-self
invariant_of-self g c =
    let s = c.self.inside in
    content_reads g.D.Disk.view s.journal c.fetch.new.journal s.index s.ahead c.fetch.new.ahead c.self.invariant c.fetch.ensures.same c.fetch.ensures.ahead

pub returns-clause-same : goal.returns-clause-same
returns-clause-same g c =
    sees_nothing g.D.Disk.view c.self.inside.journal c.fetch.new.journal c.self.inside.index _ c.self.view_is c.fetch.ensures.same
