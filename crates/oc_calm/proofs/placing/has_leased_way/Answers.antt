use Rattle.std.proofs.Common.{◌∙◌, sym, refl, arith}
use Rattle.oc_calm.proofs.ChainLengths.{above_zero, above_more, parent_true}
use Rattle.oc_calm.proofs.KnownPlaces.{top_false, top_placed}
use Rattle.oc_calm.proofs.PlacedWays.{placed_linked, linkless, unlinked, too_long}
use Rattle.oc_calm.proofs.placing.has_leased_way.Goals as goal

pub up-init : goal.up-init
up-init g c = record { node = c.requires.node; same = refl; way = above_zero (g.C.Cluster.world c.args.cluster.now) c.args.node }

pub returns-then-known_of : goal.returns-then-known_of
returns-then-known_of g c = sym (c.requires.known.placed c.up.place c.up.invariant.node (sym c.known_of.ensures ∙ c.if-known_of.true)) ∙ c.up.invariant.same

pub returns-then-is_top : goal.returns-then-is_top
returns-then-is_top g c = top_placed (g.C.Cluster.world c.args.cluster.now) c.args.leader c.up.place (sym c.is_top.ensures ∙ c.if-is_top.true) ∙ c.up.invariant.same

pub returns-then-not-is_linked : goal.returns-then-not-is_linked
returns-then-not-is_linked g c =
    linkless (g.C.Cluster.world c.args.cluster.now) c.args.leader c.up.place c.in-Some.parent (sym c.in-Some.ensures.parent) (sym c.is_linked.ensures ∙ c.if-not-is_linked.true) ∙ c.up.invariant.same

pub is_linked-requires : goal.is_linked-requires
is_linked-requires g c = (c.up.invariant.node, (parent_true (g.C.Cluster.world c.args.cluster.now) c.up.place c.in-Some.parent (sym c.in-Some.ensures.parent)).0)

pub returns-in-None : goal.returns-in-None
returns-in-None g c =
    let w = g.C.Cluster.world c.args.cluster.now in
    unlinked w c.args.leader c.up.place (sym c.in-None.ensures.parent) (top_false w c.args.leader c.up.place (sym c.is_top.ensures ∙ c.if-is_top.false)) ∙ c.up.invariant.same

pub up-preserved : goal.up-preserved
up-preserved g c =
    let w = g.C.Cluster.world c.args.cluster.now in
    record {
      node = c.in-Some.ensures.node;
      same = placed_linked w c.args.leader c.up.place c.in-Some.parent (sym c.in-Some.ensures.parent) (sym c.is_linked.ensures ∙ c.if-not-is_linked.false) ∙ c.up.invariant.same;
      way = above_more w c.up.counter c.args.node c.up.place c.in-Some.parent c.up.invariant.way (sym c.in-Some.ensures.parent);
    }

pub returns : goal.returns
returns g c =
    too_long (g.C.Cluster.world c.args.cluster.now) c.args.leader c.up.counter c.args.node c.up.place (omega (arith, c.requires.known.places, c.up-test.false)) c.up.invariant.way c.up.invariant.same
