use Rattle.std.proofs.Common.{◌≡◌, ◌<◌, ◌++◌, ◌∙◌, [], List, None, ap, arith, drop, length, sym}
use Rattle.std.proofs.lemmas.List.{append-nil, get_or_default}
use Rattle.oc_updown.proofs.Entries.{no_entries_past}
use Rattle.oc_updown.specs.TableView.{entries_of}
use Rattle.oc_routes.proofs.Marks.{marked_go_on, marked_none}
use Rattle.oc_routes.specs.declared.rows.Row.{Row}
use Rattle.oc_routes.proofs.rows.push_rows.Goals as goal

pub loop-index-preserved : goal.loop-index-preserved
loop-index-preserved c =
    let rows = c.args.rows.now.items in
    let within : c.loop-index.index < length rows = omega (arith, c.loop-index-test.true, c.used-index-end.ensures.within) in
    marked_go_on rows c.loop-index.index c.get_or-row.result _ _ c.is_first-listed.result c.loop-index.made.items _ _ within
    (c.get_or-row.ensures ∙ get_or_default rows c.loop-index.index None c.get_or-row.result within)
    c.is_first-listed.ensures c.after_row-rest.ensures c.in_ok-push_row.ensures c.loop-index.invariant

pub returns : goal.returns
returns c =
    let rows = c.args.rows.now.items in
    let none : entries_of (drop c.loop-index.index rows) ≡ [] = no_entries_past rows c.used-index-end.result c.loop-index.index _ _ c.loop-index-test.false c.used-index-end.ensures.rest c.requires.1 in
    sym (append-nil c.loop-index.made.items) ∙ sym (ap (λ (rs : List Row). c.loop-index.made.items ++ rs) (marked_none (drop c.loop-index.index rows) _ none)) ∙ c.loop-index.invariant
