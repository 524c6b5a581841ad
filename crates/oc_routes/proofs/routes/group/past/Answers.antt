use Rattle.oc_routes.proofs.PastEnds.{past_told}
use Rattle.oc_routes.proofs.routes.group.past.Goals as goal

pub returns : goal.returns
returns c =
    past_told c.args.manner c.args.last c.args.length c.in_ok-line.line.items c.in_ok-range.range c.ranged.result c.whole_for.result c.ranged.ensures c.in_ok-line.ensures c.in_ok-range.ensures c.whole_for.ensures
