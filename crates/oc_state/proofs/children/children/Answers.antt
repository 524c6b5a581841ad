use Rattle.std.proofs.Common.{◌≡◌, ◌++◌, ◌∙◌, [], ap, arith, drop, length, sym}
use Rattle.std.proofs.lemmas.List.{append-nil}
use Rattle.oc_updown.proofs.Entries.{no_entries_past}
use Rattle.oc_updown.specs.TableView.{entries_of}
use Rattle.oc_state.specs.Children.{told_children}
use Rattle.oc_state.proofs.ChildRows.{row_in_front, told_go_on}
use Rattle.oc_state.proofs.children.children.Goals as goal

pub loop-place-preserved : goal.loop-place-preserved
loop-place-preserved c =
    let rows = c.args.rows.now.items in
    let row = c.index-filled-place.result in
    let there = row_in_front rows c.filled-filled.result.now c.loop-place.place row (omega (arith, c.loop-place-test.true)) c.filled-filled.ensures.front c.index-filled-place.is in
    told_go_on c.args.me c.args.rates.now.items rows c.loop-place.place row c.loop-place.children.items _ _ there.0 there.1 c.in_ok-push_child.ensures c.loop-place.invariant

pub returns : goal.returns
returns c =
    let rows = c.args.rows.now.items in
    let none : entries_of (drop c.loop-place.place rows) ≡ [] = no_entries_past rows (length c.filled-filled.result.now) c.loop-place.place _ _ (omega (arith, c.loop-place-test.false)) c.filled-filled.ensures.rest c.requires.1 in
    sym (append-nil c.loop-place.children.items) ∙ sym (ap (λ es. c.loop-place.children.items ++ told_children es c.args.me c.args.rates.now.items) none) ∙ c.loop-place.invariant
