use Rattle.std.proofs.Common.{arith}
use Rattle.oc_routes.proofs.Settling.{ok_fits}
use Rattle.oc_routes.proofs.selecting.selected.Goals as goal

pub returns-clause-lawful : goal.returns-clause-lawful
returns-clause-lawful c =
    ok_fits c.select.result c.content_of.result c.args.length c.args.sealed c.args.line c.args.selectors.now c.a_part_is_within_its_content.ensures
    (omega (arith, c.ranges.length.fits)) c.content_of.ensures c.select.ensures
