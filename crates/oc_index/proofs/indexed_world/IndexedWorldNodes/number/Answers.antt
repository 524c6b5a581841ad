-- A lawful message has a spelling.
use Rattle.oc_index.proofs.Same.{has_spelling}
use Rattle.oc_index.proofs.indexed_world.IndexedWorldNodes.number.Goals as goal

pub encode-requires : goal.encode-requires
encode-requires c =
    has_spelling c.args.self.now.world.world c.count-nodes.result c.args.message.now c.count-nodes.ensures.ids c.count-nodes.ensures.few c.requires
