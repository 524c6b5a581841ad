-- A message that was sent has a spelling, and where memory runs out, none more is indexed.
use Rattle.oc_index.proofs.Indexed.{with_none}
use Rattle.oc_index.proofs.Same.{has_spelling}
use Rattle.oc_index.proofs.indexed_world.index_all.Goals as goal

pub encode-requires : goal.encode-requires
encode-requires c =
    has_spelling c.args.world.now.world c.count-nodes.result c.in-Some.message c.count-nodes.ensures.ids c.count-nodes.ensures.few (rw c.in-Some.is at c.in_ok-message.ensures.lawful)

pub returns-in_err-put : goal.returns-in_err-put
returns-in_err-put c = with_none c.args.world.now.world.net c.loop-number.numbers c.put.new.self c.loop-number.invariant.0 c.in_err-put.ensures.err
