use Rattle.oc_routes.proofs.PastEnds.{range_told}
use Rattle.oc_routes.proofs.routes.group.out_of_range.Goals as goal

pub returns : goal.returns
returns c =
    range_told c.args.manner c.args.last c.args.length c.in_ok-line.line.items c.in_ok-range.range c.ranged.result c.whole_for.result c.ranged.ensures c.in_ok-line.ensures c.in_ok-range.ensures c.whole_for.ensures
