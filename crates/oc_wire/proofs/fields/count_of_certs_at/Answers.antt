use Rattle.std.proofs.Common.{sym}
use Rattle.std.proofs.lemmas.Result.{err_from_is_err_and}
use Rattle.oc_base.specs.Reading.{cert_at}
use Rattle.oc_base.proofs.ItemRuns.{goes_on, ends, is_done, gives}
use Rattle.oc_wire.proofs.fields.count_of_certs_at.Goals as goal

pub returns-in_err-cert : goal.returns-in_err-cert
returns-in_err-cert c =
    let p = err_from_is_err_and c.from_residual.result c.from_residual.ensures.1 in
    rw (p.1, p.2) (gives _ _ (ends (λ before. cert_at c.args.nodes c.args.bytes.now) (λ item. tt) tt c.loop.certs.items c.args.count c.loop.counter c.loop.next c.in_err-cert.field-0.0 _ c.loop-test.true (sym c.in_err-cert.ensures) c.loop.invariant))

pub loop-preserved : goal.loop-preserved
loop-preserved c =
    rw c.in_ok-push.ensures.items (goes_on (λ before. cert_at c.args.nodes c.args.bytes.now) (λ item. tt) tt c.loop.certs.items c.args.count c.loop.counter c.loop.next c.in_ok-cert.cert c.in_ok-cert.behind _ c.loop-test.true (sym c.in_ok-cert.ensures) c.loop.invariant)

pub returns : goal.returns
returns c = rw c.of.ensures (is_done (λ before. cert_at c.args.nodes c.args.bytes.now) (λ item. tt) tt c.loop.certs.items c.args.count c.loop.counter c.loop.next _ c.loop-test.false c.loop.invariant)
