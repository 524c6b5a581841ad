use Rattle.std.proofs.Common.{List, subst}
use Rattle.oc_base.specs.Shelves.{IsShelf}
use Rattle.oc_base.specs.declared.shelf.Shelf.{Shelf}
use Rattle.oc_keep.proofs.Steps.{lines_are}
use Rattle.oc_keep.proofs.kept.Kept.recovers.Goals as goal

pub returns-clause-lawful : goal.returns-clause-lawful
returns-clause-lawful g c =
    let s = c.self.inside in
    rw (← c.self.view_is) (λ honest. record {
      control = c.self.invariant.reached.lawful;
      shelf = subst (λ (ls : List Shelf). IsShelf ls) (lines_are s.content.journal.frames s.content.shelves (c.groups-shelf.ensures.content honest.content)) c.groups-shelf.ensures.shelf;
    })
