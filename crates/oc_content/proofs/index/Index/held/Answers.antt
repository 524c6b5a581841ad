use Rattle.std.proofs.Common.{List, Option, sym, ap, subst, arith}
use Rattle.std.specs.Option.{option_map}
use Rattle.oc_base.specs.declared.shelf.Shelf.{Shelf}
use Rattle.oc_base.specs.Shelves.{IsLineAt, IsFreeLineAt}
use Rattle.oc_content.proofs.Lines.{stands_within, line_of-stands}
use Rattle.oc_content.proofs.Locating.{held_of-goes}
use Rattle.oc_content.proofs.index.Index.held.Goals as goal

pub index-requires : goal.index-requires
index-requires c =
    omega (arith, stands_within c.deref.result.now c.args.group.now c.in-Found.at c.in-Found.ensures)

pub returns-in-Found : goal.returns-in-Found
returns-in-Found c =
    let stands = subst (λ (ss : List Shelf). IsLineAt ss c.args.group.now c.in-Found.at) c.deref.ensures.value c.in-Found.ensures in
    sym (ap (λ (line : Option Shelf). option_map (λ s. s.held) line) (line_of-stands c.args.self.now.shelves.items c.args.group.now c.in-Found.at c.index.result.now stands c.index.ensures))

pub returns-in-Free : goal.returns-in-Free
returns-in-Free c =
    let goes = subst (λ (ss : List Shelf). IsFreeLineAt ss c.args.group.now c.in-Free.field-0) c.deref.ensures.value c.in-Free.ensures in
    sym (held_of-goes c.args.self.now.shelves.items c.args.group.now c.in-Free.field-0 goes)
