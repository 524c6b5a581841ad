use Rattle.std.proofs.Common.{[], ◌∷◌}
use Rattle.oc_wire.proofs.Puts.{item_more}
use Rattle.oc_wire.specs.Spelling.{line_bytes}
use Rattle.oc_wire.proofs.encoding.put_have.Goals as goal

pub loop-line-preserved : goal.loop-line-preserved
loop-line-preserved c = item_more line_bytes c.items-lines.result.now c.loop-line.line-index c.line-item.result c.args.out.now.items (_ ∷ []) c.loop-line.out.items _ c.loop-line-test.true c.line-item.is c.loop-line.invariant c.in_ok-put_line.ensures
