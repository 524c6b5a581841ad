use Rattle.std.proofs.Common.{◌≡◌, List, ◌++◌, length, take, ap, ◌∙◌, arith}
use Rattle.oc_base.specs.declared.cert.Cert.{Cert}
use Rattle.oc_base.specs.declared.limits.TheConstants.{MAX_CHECK_IN_CERTS}
use Rattle.oc_step.proofs.NextCerts.{certs_go_on, certs_end}
use Rattle.oc_step.proofs.next_certs.push_certs.Goals as goal

pub loop-change-preserved : goal.loop-change-preserved
loop-change-preserved c = (
  certs_go_on MAX_CHECK_IN_CERTS c.args.records.now c.loop-change.change-index c.change-item.result c.loop-change.certs.items c.push_cert.new.certs.items _ c.loop-change-test.true c.change-item.is
      (c.in_ok-push_cert.ensures.certs ∙ ap (λ (ds : List Cert). take MAX_CHECK_IN_CERTS (c.loop-change.certs.items ++ ds)) c.cert_of.ensures)
      c.loop-change.invariant.0,
  c.push_cert.ensures.few,
)

pub returns-clause-certs : goal.returns-clause-certs
returns-clause-certs c =
    let size : c.loop-change.certs.len ≡ length c.loop-change.certs.items = c.loop-change.certs.ok.0 in
    certs_end MAX_CHECK_IN_CERTS c.args.records.now c.loop-change.change-index c.loop-change.certs.items _ (omega arith) c.loop-change-test.false c.loop-change.invariant.0
