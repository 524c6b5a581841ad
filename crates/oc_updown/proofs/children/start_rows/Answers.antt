use Rattle.std.proofs.Common.{◌≡◌, ◌<◌, ◌∙◌, [], None, ap, arith, drop, length, sym}
use Rattle.std.proofs.lemmas.List.{get_or_default}
use Rattle.oc_model.specs.Leases.{start_all}
use Rattle.oc_updown.specs.TableView.{entries_of}
use Rattle.oc_updown.proofs.Entries.{no_entries_past}
use Rattle.oc_updown.proofs.Ends.{child_of_row}
use Rattle.oc_updown.proofs.children.start_rows.Goals as goal

pub start_of_row-requires-clause-row : goal.start_of_row-requires-clause-row
start_of_row-requires-clause-row c =
    let rows = c.args.rows.now.items in
    let within : c.loop-place.place < length rows = omega (arith, c.loop-place-test.true, c.used-place-end.ensures.within) in
    child_of_row (length rows) (length c.loop-place.ends.items) c.loop-place.place rows c.lend_or-row.result.now within (c.lend_or-row.ensures ∙ get_or_default rows c.loop-place.place None c.lend_or-row.result.now within) c.loop-place.invariant.1 (omega (arith, c.requires.nodes, c.loop-place.invariant.3))

pub returns-clause-ends : goal.returns-clause-ends
returns-clause-ends c =
    let rows = c.args.rows.now.items in
    let none : entries_of (drop c.loop-place.place rows) ≡ [] = no_entries_past rows c.used-place-end.result c.loop-place.place _ _ c.loop-place-test.false c.used-place-end.ensures.rest c.requires.rows.1 in
    sym (ap (λ es. start_all es c.args.me c.loop-place.ends.items c.args.now) none) ∙ c.loop-place.invariant.0
