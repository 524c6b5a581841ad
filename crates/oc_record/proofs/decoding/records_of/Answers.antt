use Rattle.std.proofs.Common.{arith}
use Rattle.std.proofs.lemmas.Result.{err_from_is_err_and}
use Rattle.oc_record.proofs.Runs.{goes_on, ends, is_done}
use Rattle.oc_record.proofs.decoding.records_of.Goals as goal

pub returns-in_err-record : goal.returns-in_err-record
returns-in_err-record c =
    let p = err_from_is_err_and c.from_residual.result c.from_residual.ensures.1 in
    rw (p.1, p.2) (ends c.args.nodes c.args.bytes.now c.loop-at.list.items c.loop-at.at c.in_err-record.field-0.0 c.loop-at-test.true c.in_err-record.ensures c.loop-at.invariant)

pub loop-at-smaller : goal.loop-at-smaller
loop-at-smaller c =
    let step = goes_on c.args.nodes c.args.bytes.now c.loop-at.list.items c.loop-at.at c.in_ok-record.record c.in_ok-record.next (λ i. omega (arith, c.type_inv.bytes i)) c.loop-at-test.true c.in_ok-record.ensures c.loop-at.invariant in
    omega (arith, c.loop-at-test.true, step.1)

pub loop-at-preserved : goal.loop-at-preserved
loop-at-preserved c =
    let step = goes_on c.args.nodes c.args.bytes.now c.loop-at.list.items c.loop-at.at c.in_ok-record.record c.in_ok-record.next (λ i. omega (arith, c.type_inv.bytes i)) c.loop-at-test.true c.in_ok-record.ensures c.loop-at.invariant in
    rw c.in_ok-push.ensures.items step.0

pub returns : goal.returns
returns c = is_done c.args.nodes c.args.bytes.now c.loop-at.list.items c.loop-at.at c.loop-at-test.false c.loop-at.invariant
