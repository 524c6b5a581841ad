use Rattle.std.proofs.Common.{arith, true, false}
use Rattle.oc_merge.proofs.Taken.{stands_first}
use Rattle.oc_merge.proofs.merging.end_at.Goals as goal

pub returns-then-start-lines : goal.returns-then-start-lines
returns-then-start-lines c = stands_first c.args.lines.now c.args.heads.now true c.first_standing-start.result c.index-lines-start.result c.first_standing-start.ensures c.if-start-lines.true

pub returns-then-place-lines : goal.returns-then-place-lines
returns-then-place-lines c = (
  λ i l within before there. c.first_standing-start.ensures.none_before i l within (omega (arith, before, c.if-start-lines.false)) there,
  stands_first c.args.lines.now c.args.heads.now false c.first_standing-place.result c.index-lines-place.result c.first_standing-place.ensures c.if-place-lines.true,
)
