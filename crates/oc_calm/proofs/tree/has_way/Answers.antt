use Rattle.std.proofs.Common.{◌∙◌, sym, arith}
use Rattle.oc_calm.proofs.ChainLengths.{above_zero, above_more, climb_root, climb_endless}
use Rattle.oc_calm.proofs.RoundRuns.{nodes_count}
use Rattle.oc_calm.proofs.tree.has_way.Goals as goal

pub up-init : goal.up-init
up-init g c = record { node = c.requires; way = above_zero (g.C.Cluster.world c.args.cluster.now) c.args.node }

pub up-preserved : goal.up-preserved
up-preserved g c = record {
  node = c.in-Some.ensures.node;
  way = above_more (g.C.Cluster.world c.args.cluster.now) c.up.counter c.args.node c.up.place c.in-Some.parent c.up.invariant.way (sym c.in-Some.ensures.parent);
}

pub returns-in-None : goal.returns-in-None
returns-in-None g c =
    c.is_root.ensures ∙ climb_root (g.C.Cluster.world c.args.cluster.now) c.up.counter c.args.node c.up.place c.up.invariant.way (sym c.in-None.ensures.parent)

pub returns : goal.returns
returns g c =
    let w = g.C.Cluster.world c.args.cluster.now in
    climb_endless w c.up.counter c.args.node c.up.place (omega (arith, nodes_count w c.nodes-end.result c.nodes-end.ensures.ids, c.up-test.false)) c.up.invariant.way
