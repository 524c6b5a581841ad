use Rattle.std.proofs.Common.{◌≡◌, ◌<◌, ◌++◌, ◌∙◌, [], List, None, ap, arith, drop, length, sym}
use Rattle.std.proofs.lemmas.List.{append-nil, get_or_default}
use Rattle.oc_base.specs.declared.cert.Line.{Line}
use Rattle.oc_updown.specs.Listing.{line_in, subjects}
use Rattle.std.specs.List.{filter_map}
use Rattle.oc_updown.specs.TableView.{entries_of}
use Rattle.oc_updown.proofs.Entries.{no_entries_past}
use Rattle.oc_updown.proofs.Lines.{lines_go_on, row_is_of_node, rows_go_on}
use Rattle.oc_updown.proofs.listing.push_lines.Goals as goal

pub returns : goal.returns
returns c =
    let rows = c.args.rows.now.items in
    let none : entries_of (drop c.loop-place.place rows) ≡ [] = no_entries_past rows c.used-place-end.result c.loop-place.place _ _ c.loop-place-test.false c.used-place-end.ensures.rest c.requires.rows.1 in
    sym (append-nil c.loop-place.lines.items)
    ∙ sym (ap (λ es. c.loop-place.lines.items ++ filter_map (line_in (entries_of rows) c.args.root) (subjects es)) none)
    ∙ c.loop-place.invariant.3

pub line_of_row-requires-clause-row : goal.line_of_row-requires-clause-row
line_of_row-requires-clause-row c =
    let rows = c.args.rows.now.items in
    let within : c.loop-place.place < length rows = omega (arith, c.loop-place-test.true, c.used-place-end.ensures.within) in
    row_is_of_node (length rows) c.loop-place.place rows c.get_or-row.result within (c.get_or-row.ensures ∙ get_or_default rows c.loop-place.place None c.get_or-row.result within) c.loop-place.invariant.2

pub loop-place-preserved : goal.loop-place-preserved
loop-place-preserved c =
    let rows = c.args.rows.now.items in
    let within : c.loop-place.place < length rows = omega (arith, c.loop-place-test.true, c.used-place-end.ensures.within) in
    let is = c.get_or-row.ensures ∙ get_or_default rows c.loop-place.place None c.get_or-row.result within in (
      omega arith,
      c.line_of_row.ensures.known,
      rows_go_on (length rows) c.loop-place.place rows c.get_or-row.result within is c.loop-place.invariant.2,
      lines_go_on (entries_of rows) c.args.root rows c.loop-place.place c.get_or-row.result c.loop-place.lines.items _ _ within is (c.in_ok-push_line.ensures ∙ ap (λ (ls : List Line). c.loop-place.lines.items ++ ls) c.line_of_row.ensures.line) c.loop-place.invariant.3,
    )
