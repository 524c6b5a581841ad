use Rattle.std.proofs.Common.{◌≡◌, ◌∙◌, [], ap, arith, drop, length, sym}
use Rattle.oc_model.specs.Leases.{next_ended}
use Rattle.oc_updown.specs.TableView.{entries_of}
use Rattle.oc_updown.proofs.Entries.{no_entries_past}
use Rattle.oc_updown.proofs.Ends.{next_begins, rows_past}
use Rattle.oc_updown.proofs.children.next_over.Goals as goal

pub loop-place-init : goal.loop-place-init
loop-place-init c = (next_begins c.args.me c.args.rows.now.items c.args.ends.now.items c.args.after c.args.now c.requires.rows.0, rows_past c.args.rows.now.items c.args.after c.requires.rows.0, omega arith)

pub returns : goal.returns
returns c =
    let rows = c.args.rows.now.items in
    let filled = c.filled-filled in
    let none : entries_of (drop c.loop-place.place rows) ≡ [] = no_entries_past rows (length filled.result.now) c.loop-place.place _ _ (omega (arith, c.loop-place-test.false)) filled.ensures.rest c.requires.rows.1 in
    sym (ap (λ es. next_ended es c.args.me c.args.ends.now.items c.args.after c.args.now) none) ∙ c.loop-place.invariant.0
