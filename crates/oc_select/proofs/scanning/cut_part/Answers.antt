use Rattle.std.proofs.Common.{false, sym}
use Rattle.oc_select.proofs.Commas.{parts_whole, parts_at}
use Rattle.oc_select.proofs.scanning.cut_part.Goals as goal

pub returns-in-None-clause-last : goal.returns-in-None-clause-last
returns-in-None-clause-last c = parts_whole 0 false c.args.list.now (sym c.in-None.ensures.place)

pub returns-in-Some-clause-first : goal.returns-in-Some-clause-first
returns-in-Some-clause-first c = parts_at c.args.list.now c.in-Some.at (sym c.in-Some.ensures.place)
