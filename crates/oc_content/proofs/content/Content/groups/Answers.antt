use Rattle.std.proofs.Common.{◌≤◌, length, All, subst}
use Rattle.oc_base.specs.Shelves.{AreLinesAscending, IsShelf}
use Rattle.oc_base.specs.declared.limits.TheConstants.{MAX_GROUPS, MAX_GROUP_BYTES}
use Rattle.oc_content.specs.ContentView.{ContentView}
use Rattle.oc_content.proofs.Views.{IsIndexed-shelf, IsIndexed-sized}
use Rattle.oc_content.proofs.content.Content.groups.Goals as goal

pub returns-clause-ascending : goal.returns-clause-ascending
returns-clause-ascending g c =
    let sized = IsIndexed-sized g.D.Disk.view c.self.inside.journal c.self.inside.index c.self.invariant.indexed in
    subst (λ (v : ContentView g.row.D.Denot). AreLinesAscending v.shelves) c.self.view_is sized.ascending

pub returns-clause-shelf : goal.returns-clause-shelf
returns-clause-shelf g c =
    subst (λ (v : ContentView g.row.D.Denot). IsShelf v.shelves) c.self.view_is (IsIndexed-shelf g.D.Disk.view c.self.inside.journal c.self.inside.index c.self.invariant.indexed)

pub returns-clause-few : goal.returns-clause-few
returns-clause-few g c =
    let sized = IsIndexed-sized g.D.Disk.view c.self.inside.journal c.self.inside.index c.self.invariant.indexed in
    subst (λ (v : ContentView g.row.D.Denot). length v.shelves ≤ MAX_GROUPS) c.self.view_is sized.few

pub returns-clause-short : goal.returns-clause-short
returns-clause-short g c =
    let sized = IsIndexed-sized g.D.Disk.view c.self.inside.journal c.self.inside.index c.self.invariant.indexed in
    subst (λ (v : ContentView g.row.D.Denot). All (λ s. s.held ≤ MAX_GROUP_BYTES) v.shelves) c.self.view_is sized.short
