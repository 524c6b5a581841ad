use Rattle.std.proofs.Common.{◌≡◌, ◌++◌, ◌∙◌, [], ap, drop, sym}
use Rattle.std.proofs.lemmas.List.{append-nil}
use Rattle.oc_updown.proofs.Entries.{no_entries_past}
use Rattle.oc_updown.specs.TableView.{entries_of}
use Rattle.oc_keep.proofs.status.push_entries.Goals as goal

pub returns : goal.returns
returns c =
    let rows = c.args.rows.now.items in
    let none : entries_of (drop c.loop-place.place rows) ≡ [] = no_entries_past rows c.used-place-end.result c.loop-place.place _ _ c.loop-place-test.false c.used-place-end.ensures.rest c.requires.1 in
    sym (append-nil c.loop-place.list.items) ∙ sym (ap (λ es. c.loop-place.list.items ++ es) none) ∙ c.loop-place.invariant
