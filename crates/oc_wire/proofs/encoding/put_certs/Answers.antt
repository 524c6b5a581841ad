use Rattle.std.proofs.Common.{[], ◌∷◌}
use Rattle.oc_base.specs.Spelling.{cert_bytes}
use Rattle.oc_wire.proofs.Puts.{item_more}
use Rattle.oc_wire.proofs.encoding.put_certs.Goals as goal

pub loop-cert-preserved : goal.loop-cert-preserved
loop-cert-preserved c = item_more cert_bytes c.items-certs.result.now c.loop-cert.cert-index c.cert-item.result c.args.out.now.items (_ ∷ []) c.loop-cert.out.items _ c.loop-cert-test.true c.cert-item.is c.loop-cert.invariant c.in_ok-put_cert.ensures
