use Rattle.std.proofs.Common.{sym}
use Rattle.oc_calm.proofs.KnownPlaces.{placed_more}
use Rattle.oc_calm.proofs.PlacedWays.{placed_parent}
use Rattle.oc_calm.proofs.placing.note_placed.Goals as goal

pub up-preserved : goal.up-preserved
up-preserved g c =
    let w = g.C.Cluster.world c.args.cluster.now in
    record {
      node = c.in-Some.ensures.node;
      placed = (placed_parent w c.args.leader c.up.place c.in-Some.parent (sym c.in-Some.ensures.parent) c.up.invariant.placed).1;
      known = placed_more w c.args.leader c.up.place c.index.result c.up.known c.up.invariant.known c.up.invariant.node c.up.invariant.placed c.index.ensures.index;
    }

pub returns-in-None : goal.returns-in-None
returns-in-None g c =
    placed_more (g.C.Cluster.world c.args.cluster.now) c.args.leader c.up.place c.index.result c.up.known c.up.invariant.known c.up.invariant.node c.up.invariant.placed c.index.ensures.index
