use Rattle.oc_store.proofs.Snapshots.{generation_read}
use Rattle.oc_store.proofs.law.generations_are_of_snapshots.Goals as goal

pub returns : goal.returns
returns c = generation_read
