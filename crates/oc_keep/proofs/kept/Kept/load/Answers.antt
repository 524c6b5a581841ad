use Rattle.std.proofs.Common.{arith}
use Rattle.oc_keep.proofs.kept.Kept.load.Goals as goal

pub load_among-requires-clause-header : goal.load_among-requires-clause-header
load_among-requires-clause-header g c = c.requires.header

pub load_among-requires-clause-id : goal.load_among-requires-clause-id
load_among-requires-clause-id g c = c.requires.id

pub load_among-requires-clause-ids : goal.load_among-requires-clause-ids
load_among-requires-clause-ids g c = omega (arith, c.nodes-ids.ensures)

pub returns-clause-refuses : goal.returns-clause-refuses
returns-clause-refuses g c = rw c.nodes-ids.ensures at c.load_among.ensures.refuses

pub returns-clause-works : goal.returns-clause-works
returns-clause-works g c = rw c.nodes-ids.ensures at c.load_among.ensures.works
