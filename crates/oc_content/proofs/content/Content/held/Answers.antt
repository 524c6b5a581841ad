use Rattle.std.proofs.Common.{◌≡◌, IsTrue, IfSome, length, subst}
use Rattle.oc_content.specs.ContentFile.{bytes_in}
use Rattle.oc_content.specs.ContentView.{ContentView}
use Rattle.oc_content.proofs.Views.{IsIndexed-sized, held_some}
use Rattle.oc_content.proofs.content.Content.held.Goals as goal

pub held-requires : goal.held-requires
held-requires g c = (IsIndexed-sized g.D.Disk.view c.self.inside.journal c.self.inside.index c.self.invariant.indexed).ascending

pub returns-clause-bytes : goal.returns-clause-bytes
returns-clause-bytes g c =
    subst (λ (v : ContentView g.row.D.Denot). IfSome c.held.result (λ held. IsTrue (g.D.Disk.view v.journal.disk).honest → held ≡ length (bytes_in c.args.group.now v.journal.frames))) c.self.view_is
    (held_some g.D.Disk.view c.self.inside.journal c.self.inside.index c.args.group.now c.held.result c.self.invariant.indexed c.held.ensures)
