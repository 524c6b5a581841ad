use Rattle.std.proofs.Common.{codes}
use Rattle.oc_base.specs.declared.shelf.Shelf.{Shelf}
use Rattle.oc_routes.specs.Metrics.{sample}
use Rattle.oc_routes.proofs.Texts.{lines_go_on}
use Rattle.oc_routes.proofs.routes.metrics.put_held.Goals as goal

pub loop-line-preserved : goal.loop-line-preserved
loop-line-preserved c =
    lines_go_on (λ (line : Shelf). sample (codes "overcast_group_bytes") line line.held) c.args.shelf.now c.loop-line.line-index c.line-item.result
    c.loop-line.out.items c.put_sample.new.out.items _ c.loop-line-test.true c.line-item.is c.in_ok-put_sample.ensures c.loop-line.invariant
