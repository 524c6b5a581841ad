use Rattle.std.proofs.Common.{arith}
use Rattle.oc_state.proofs.Snapshotting.{rates_go_on}
use Rattle.oc_state.proofs.snapshot.push_rates.Goals as goal

pub loop-before-preserved : goal.loop-before-preserved
loop-before-preserved c = rates_go_on c.args.measures.now.readings c.loop-before.before c.loop-before.list.items _ _ (omega (arith, c.loop-before-test.true, c.requires)) c.in_ok-push_rate.ensures c.loop-before.invariant
