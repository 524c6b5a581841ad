use Rattle.oc_store.proofs.Snapshots.{begins_above}
use Rattle.oc_store.proofs.store.Store.prepare_snapshot.Goals as goal

pub returns-clause-above : goal.returns-clause-above
returns-clause-above g c = begins_above c.args.self.now.generation c.args.list.now c.in_ok-frame.frame c.requires.above c.in_ok-frame.ensures
