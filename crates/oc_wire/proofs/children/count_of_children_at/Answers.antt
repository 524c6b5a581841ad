use Rattle.std.proofs.Common.{sym}
use Rattle.std.proofs.lemmas.Result.{err_from_is_err_and}
use Rattle.oc_base.proofs.ItemRuns.{goes_on, ends, is_done, gives}
use Rattle.oc_wire.specs.FieldReading.{child_at}
use Rattle.oc_wire.proofs.children.count_of_children_at.Goals as goal

pub returns-in_err-child : goal.returns-in_err-child
returns-in_err-child c =
    let p = err_from_is_err_and c.from_residual.result c.from_residual.ensures.1 in
    rw (p.1, p.2) (gives _ _ (ends (λ before. child_at before c.args.nodes c.args.bytes.now) (λ child. child.id) c.loop.before c.loop.children.items c.args.count c.loop.counter c.loop.next c.in_err-child.field-0.0 _ c.loop-test.true (sym c.in_err-child.ensures) c.loop.invariant))

pub loop-preserved : goal.loop-preserved
loop-preserved c =
    rw c.in_ok-push.ensures.items (goes_on (λ before. child_at before c.args.nodes c.args.bytes.now) (λ child. child.id) c.loop.before c.loop.children.items c.args.count c.loop.counter c.loop.next c.in_ok-child.child c.in_ok-child.behind _ c.loop-test.true (sym c.in_ok-child.ensures) c.loop.invariant)

pub returns : goal.returns
returns c = rw c.of.ensures (is_done (λ before. child_at before c.args.nodes c.args.bytes.now) (λ child. child.id) c.loop.before c.loop.children.items c.args.count c.loop.counter c.loop.next _ c.loop-test.false c.loop.invariant)
