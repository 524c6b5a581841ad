use Rattle.std.proofs.Common.{◌≡◌, ◌+◌, arith, sym, ◌∙◌}
use Rattle.oc_updown.proofs.Entries.{newest_row, row_fits}
use Rattle.oc_updown.proofs.rows.row_of.Goals as goal

pub returns-in-Some-clause-entry : goal.returns-in-Some-clause-entry
returns-in-Some-clause-entry c =
    let e : c.args.node ≡ c.in-Some.place + 1 = omega arith in
    c.get_or.ensures ∙ sym (newest_row c.args.rows.now.items c.args.node c.in-Some.place c.requires e)

pub returns-in-Some-clause-fits : goal.returns-in-Some-clause-fits
returns-in-Some-clause-fits c = row_fits c.args.rows.now.items c.args.node c.get_or.result c.requires (returns-in-Some-clause-entry c)
