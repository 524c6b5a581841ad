use Rattle.oc_state.proofs.Snapshotting.{entries_go_on}
use Rattle.oc_state.proofs.snapshot.push_entries.Goals as goal

pub loop-cert-preserved : goal.loop-cert-preserved
loop-cert-preserved c = entries_go_on c.args.certs.now c.loop-cert.cert-index c.cert-item.result c.loop-cert.list.items _ _ c.loop-cert-test.true c.cert-item.is c.in_ok-push.ensures.items c.loop-cert.invariant
