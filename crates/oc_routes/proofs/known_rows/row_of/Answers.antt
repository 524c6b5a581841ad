use Rattle.std.proofs.Common.{◌≡◌, ◌+◌, ◌∙◌, arith, sym}
use Rattle.oc_updown.proofs.Entries.{newest_row}
use Rattle.oc_routes.proofs.Noted.{row_is_of}
use Rattle.oc_routes.proofs.known_rows.row_of.Goals as goal

pub returns-in-Some-clause-row : goal.returns-in-Some-clause-row
returns-in-Some-clause-row c =
    let e : c.args.node ≡ c.in-Some.place + 1 = omega arith in
    c.row_at.ensures ∙ sym (newest_row c.args.rows.now c.args.node c.in-Some.place c.requires e)

pub returns-in-Some-clause-of_it : goal.returns-in-Some-clause-of_it
returns-in-Some-clause-of_it c = row_is_of c.args.rows.now c.args.node c.row_at.result c.requires (returns-in-Some-clause-row c)
