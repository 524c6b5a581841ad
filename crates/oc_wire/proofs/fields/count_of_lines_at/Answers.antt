use Rattle.std.proofs.Common.{Some, sym}
use Rattle.std.proofs.lemmas.Result.{err_from_is_err_and}
use Rattle.oc_base.proofs.ItemRuns.{goes_on, ends, is_done, gives}
use Rattle.oc_wire.specs.FieldReading.{line_at}
use Rattle.oc_wire.proofs.fields.count_of_lines_at.Goals as goal

pub returns-in_err-line : goal.returns-in_err-line
returns-in_err-line c =
    let p = err_from_is_err_and c.from_residual.result c.from_residual.ensures.1 in
    rw (p.1, p.2) (gives _ _ (ends (λ before. line_at before c.args.bytes.now) (λ line. Some line.group) c.loop.before c.loop.lines.items c.args.count c.loop.counter c.loop.next c.in_err-line.field-0.0 _ c.loop-test.true (sym c.in_err-line.ensures) c.loop.invariant))

pub loop-preserved : goal.loop-preserved
loop-preserved c =
    rw c.in_ok-push.ensures.items (goes_on (λ before. line_at before c.args.bytes.now) (λ line. Some line.group) c.loop.before c.loop.lines.items c.args.count c.loop.counter c.loop.next c.in_ok-line.line c.in_ok-line.behind _ c.loop-test.true (sym c.in_ok-line.ensures) c.loop.invariant)

pub returns : goal.returns
returns c = rw c.of.ensures (is_done (λ before. line_at before c.args.bytes.now) (λ line. Some line.group) c.loop.before c.loop.lines.items c.args.count c.loop.counter c.loop.next _ c.loop-test.false c.loop.invariant)
