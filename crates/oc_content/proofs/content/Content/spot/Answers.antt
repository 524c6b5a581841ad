use Rattle.std.proofs.Common.{IsTrue, IfSome, IfNone, subst}
use Rattle.oc_base.specs.Shelves.{IsHeldAt}
use Rattle.oc_content.specs.Founds.{IsSpot}
use Rattle.oc_content.specs.ContentView.{ContentView}
use Rattle.oc_content.proofs.Views.{IsIndexed-sized, spot_none, spot_some}
use Rattle.oc_content.proofs.content.Content.spot.Goals as goal

pub spot-requires : goal.spot-requires
spot-requires g c = IsIndexed-sized g.D.Disk.view c.self.inside.journal c.self.inside.index c.self.invariant.indexed

pub returns-clause-none : goal.returns-clause-none
returns-clause-none g c =
    subst (λ (v : ContentView g.row.D.Denot). IsTrue (g.D.Disk.view v.journal.disk).honest → IfNone c.spot.result (¬ IsHeldAt c.args.group.now v.shelves c.args.start)) c.self.view_is
    (spot_none g.D.Disk.view c.self.inside.journal c.self.inside.index c.args.group.now c.args.start c.spot.result c.self.invariant.indexed c.spot.ensures.spot)

pub returns-clause-spot : goal.returns-clause-spot
returns-clause-spot g c =
    subst (λ (v : ContentView g.row.D.Denot). IsTrue (g.D.Disk.view v.journal.disk).honest → IfSome c.spot.result (λ spot. IsSpot v.journal.frames c.args.group.now c.args.start spot)) c.self.view_is
    (spot_some g.D.Disk.view c.self.inside.journal c.self.inside.index c.args.group.now c.args.start c.spot.result c.self.invariant.indexed c.spot.ensures.spot)
