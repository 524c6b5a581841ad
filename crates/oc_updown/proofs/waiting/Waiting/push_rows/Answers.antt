use Rattle.std.proofs.Common.{◌≡◌, ◌+◌, ◌<◌, ◌≤◌, ◌++◌, ◌∙◌, [], None, ap, arith, drop, length, sym}
use Rattle.std.proofs.lemmas.List.{append-nil, get_or_default}
use Rattle.oc_updown.proofs.Entries.{no_entries_past}
use Rattle.oc_updown.specs.TableView.{entries_of}
use Rattle.oc_updown.proofs.Filling.{room_for_row}
use Rattle.oc_updown.proofs.waiting.Waiting.push_rows.Goals as goal

pub push_row-requires-clause-room : goal.push_row-requires-clause-room
push_row-requires-clause-room c =
    let rows = c.args.rows.now.items in
    let fits : length c.args.self.now.certs + length (entries_of rows) ≤ c.loop-place.self.room = rw c.loop-place.invariant.2 c.requires.room in
    let within : c.loop-place.place < length rows = omega (arith, c.loop-place-test.true, c.used-place-end.ensures.within) in
    room_for_row c.loop-place.self.certs c.args.self.now.certs rows c.loop-place.place c.get_or-row.result c.loop-place.self.room within (c.get_or-row.ensures ∙ get_or_default rows c.loop-place.place None c.get_or-row.result within) c.loop-place.invariant.0 fits

pub returns-clause-certs : goal.returns-clause-certs
returns-clause-certs c =
    let rows = c.args.rows.now.items in
    let none : entries_of (drop c.loop-place.place rows) ≡ [] = no_entries_past rows c.used-place-end.result c.loop-place.place _ _ c.loop-place-test.false c.used-place-end.ensures.rest c.requires.rows.1 in
    sym (append-nil c.loop-place.self.certs) ∙ sym (ap (λ cs. c.loop-place.self.certs ++ cs) none) ∙ c.loop-place.invariant.0
