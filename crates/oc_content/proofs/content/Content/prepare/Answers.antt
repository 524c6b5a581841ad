use Rattle.std.proofs.Common.{subst}
use Rattle.oc_content.specs.ContentView.{ContentView, content_with}
use Rattle.oc_content.specs.Promises.{PutsNothing}
use Rattle.oc_content.proofs.content.Content.prepare.Goals as goal

pub returns-clause-same : goal.returns-clause-same
returns-clause-same g c =
    subst (λ (v : ContentView g.row.D.Denot). PutsNothing g.D.Disk.view v (content_with c.prepare_piece.new.journal c.prepare_piece.new.index)) c.self.view_is c.prepare_piece.ensures.same

pub returns-clause-prepares : goal.returns-clause-prepares
returns-clause-prepares g c = rw (← c.self.view_is) c.prepare_piece.ensures.prepares
