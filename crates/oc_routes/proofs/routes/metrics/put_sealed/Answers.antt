use Rattle.std.proofs.Common.{◌∙◌, ℕ, ◌++◌, ap, codes}
use Rattle.std.specs.Int.{from_bool}
use Rattle.oc_base.specs.declared.shelf.Shelf.{Shelf}
use Rattle.oc_routes.specs.Metrics.{sample}
use Rattle.oc_routes.proofs.Texts.{lines_go_on}
use Rattle.oc_routes.proofs.routes.metrics.put_sealed.Goals as goal

pub loop-line-preserved : goal.loop-line-preserved
loop-line-preserved c =
    lines_go_on (λ (line : Shelf). sample (codes "overcast_group_sealed") line (from_bool line.sealed)) c.args.shelf.now c.loop-line.line-index c.line-item.result
    c.loop-line.out.items c.put_sample.new.out.items _ c.loop-line-test.true c.line-item.is
    (c.in_ok-put_sample.ensures ∙ ap (λ (value : ℕ). c.loop-line.out.items ++ sample (codes "overcast_group_sealed") c.line-item.result value) c.from.ensures)
    c.loop-line.invariant
