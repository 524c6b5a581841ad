use Rattle.std.proofs.Common.{List, true, refl, subst, arith}
use Rattle.oc_base.specs.declared.shelf.Shelf.{Shelf}
use Rattle.oc_base.specs.Shelves.{IsLineAt, IsFreeLineAt}
use Rattle.oc_content.proofs.Lines.{stands_within}
use Rattle.oc_content.proofs.Locating.{group_at, held_at, past_end, absent_group, IsSpot-rest}
use Rattle.oc_content.proofs.index.Index.spot.Goals as goal

pub returns-in_default-clause-spot : goal.returns-in_default-clause-spot
returns-in_default-clause-spot c = λ bodies groups is.
    let goes = subst (λ (ss : List Shelf). IsFreeLineAt ss c.args.group.now c.in_default.field-0) c.deref.ensures.value c.in_default.ensures in
    absent_group c.args.self.now.shelves.items c.args.group.now c.in_default.field-0 c.args.start goes

pub find-requires-clause-within : goal.find-requires-clause-within
find-requires-clause-within c =
    let stands = subst (λ (ss : List Shelf). IsLineAt ss c.args.group.now c.in-Found.at) c.deref.ensures.value c.in-Found.ensures in
    stands_within c.args.self.now.shelves.items c.args.group.now c.in-Found.at stands

pub returns-in_err-spans-clause-spot : goal.returns-in_err-spans-clause-spot
returns-in_err-spans-clause-spot c = λ bodies groups is.
    let ss = c.args.self.now.shelves.items in
    let stands = subst (λ (l : List Shelf). IsLineAt l c.args.group.now c.in-Found.at) c.deref.ensures.value c.in-Found.ensures in
    let there = group_at bodies groups c.args.self.now true c.args.group.now c.in-Found.at is refl stands in
    rw c.from_residual.ensures (past_end ss c.args.group.now c.in-Found.at c.args.start stands (omega (arith, there.held, c.in_err-spans.ensures.found bodies there.group there.tracked there.held)))

pub returns-clause-held : goal.returns-clause-held
returns-clause-held c =
    let stands = subst (λ (ss : List Shelf). IsLineAt ss c.args.group.now c.in-Found.at) c.deref.ensures.value c.in-Found.ensures in
    held_at c.args.self.now.shelves.items c.args.group.now c.in-Found.at c.args.start stands c.in_ok-spans.ensures.held

pub returns-clause-spot : goal.returns-clause-spot
returns-clause-spot c = λ bodies groups is.
    let stands = subst (λ (l : List Shelf). IsLineAt l c.args.group.now c.in-Found.at) c.deref.ensures.value c.in-Found.ensures in
    let there = group_at bodies groups c.args.self.now true c.args.group.now c.in-Found.at is refl stands in
    IsSpot-rest bodies there.group c.args.group.now c.args.start c.in_ok-spans.spans.now c.in_ok-spans.skip (record { frame = 0; start = 0; skip = 0 }) there.named (c.in_ok-spans.ensures.found bodies there.group there.tracked there.held)
