-- The index is one of the net after the event.
use Rattle.oc_index.proofs.Played.{index_behind}
use Rattle.oc_index.proofs.indexed_world.IndexedWorldNodes.event.Goals as goal

pub index_all-requires : goal.index_all-requires
index_all-requires c =
    index_behind c.args.self.now.world.world c.play.new.world.world c.args.event.now c.args.self.now.numbers c.in_ok-play.ensures.ok c.args.self.now.indexed
