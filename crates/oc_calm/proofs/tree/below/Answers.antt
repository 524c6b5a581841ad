use Rattle.std.proofs.Common.{◌∙◌, ◌++◌, ◌∷◌, [], ℕ, List, sym, ap, subst, arith, false}
use Rattle.std.specs.List.{AllByRecursion}
use Rattle.oc_model.proofs.Lists.{all_append}
use Rattle.oc_calm.specs.Cluster.{IsNodeOf}
use Rattle.oc_calm.proofs.ChainLengths.{above_zero, above_more}
use Rattle.oc_calm.proofs.KnownPlaces.{turned_below, turned_nodes}
use Rattle.oc_calm.proofs.PlacedWays.{way_zero, way_more, below_endless}
use Rattle.oc_calm.proofs.RoundRuns.{nodes_count}
use Rattle.oc_calm.proofs.tree.below.Goals as goal

pub up-init : goal.up-init
up-init g c =
    let w = g.C.Cluster.world c.args.cluster.now in
    record {
      node = c.requires;
      way = above_zero w c.args.node;
      items = c.new-nodes.ensures.items ∙ sym (way_zero w c.args.node);
      nodes = subst (AllByRecursion (IsNodeOf w)) (sym c.new-nodes.ensures.items) tt;
    }

pub up-preserved : goal.up-preserved
up-preserved g c =
    let w = g.C.Cluster.world c.args.cluster.now in
    let y = c.up.place in
    record {
      node = c.in-Some.ensures.node;
      way = above_more w c.up.counter c.args.node y c.in-Some.parent c.up.invariant.way (sym c.in-Some.ensures.parent);
      items = c.in_ok-push-in-Some.ensures.items ∙ (ap (λ (xs : List ℕ). xs ++ y ∷ []) c.up.invariant.items ∙ sym (way_more w c.up.counter c.args.node y c.up.invariant.way));
      nodes = subst (AllByRecursion (IsNodeOf w)) (sym c.in_ok-push-in-Some.ensures.items) (all_append (IsNodeOf w) c.up.nodes.items (y ∷ []) c.up.invariant.nodes (c.up.invariant.node, tt));
    }

pub returns-in-None-clause-below : goal.returns-in-None-clause-below
returns-in-None-clause-below g c =
    c.turned.ensures
    ∙ turned_below (g.C.Cluster.world c.args.cluster.now) c.up.counter c.args.top c.args.node c.up.place c.is_top.result c.up.nodes.items c.up.invariant.way (sym c.in-None.ensures.parent) c.is_top.ensures c.up.invariant.items

pub returns-in-None-clause-nodes : goal.returns-in-None-clause-nodes
returns-in-None-clause-nodes g c =
    let w = g.C.Cluster.world c.args.cluster.now in
    subst (AllByRecursion (IsNodeOf w)) (sym c.turned.ensures) (turned_nodes (IsNodeOf w) c.is_top.result c.up.nodes.items c.up.invariant.nodes)

pub returns-clause-below : goal.returns-clause-below
returns-clause-below g c =
    let w = g.C.Cluster.world c.args.cluster.now in
    c.turned-2.ensures
    ∙ below_endless w c.up.counter c.args.top c.args.node c.up.place (omega (arith, nodes_count w c.nodes-end.result c.nodes-end.ensures.ids, c.up-test.false)) c.up.invariant.way

pub returns-clause-nodes : goal.returns-clause-nodes
returns-clause-nodes g c =
    let w = g.C.Cluster.world c.args.cluster.now in
    subst (AllByRecursion (IsNodeOf w)) (sym c.turned-2.ensures) (turned_nodes (IsNodeOf w) false c.up.nodes.items c.up.invariant.nodes)
