use Rattle.std.proofs.Common.{◌∙◌, nat_lt, sym, subst, arith}
use Rattle.std.specs.List.{AllByRecursion}
use Rattle.oc_calm.specs.Cluster.{IsNodeOf}
use Rattle.oc_calm.specs.Placed.{ArePlaced}
use Rattle.oc_calm.proofs.KnownPlaces.{none_placed}
use Rattle.oc_calm.proofs.MemberOrder.{joiners_are}
use Rattle.oc_calm.proofs.RoundRuns.{all_filter, roll_nodes}
use Rattle.oc_calm.proofs.joining.all_join.Goals as goal

pub each_joins-requires-clause-order : goal.each_joins-requires-clause-order
each_joins-requires-clause-order g c =
    c.deref.ensures.value
    ∙ (c.in_ok-nodes.ensures
    ∙ joiners_are (g.C.Cluster.world c.args.cluster.now) c.chain.result c.args.leader c.min.result c.args.up.now c.chain.ensures c.requires.up (omega (arith, c.min.ensures, c.leader.view_is)))

pub each_joins-requires-clause-nodes : goal.each_joins-requires-clause-nodes
each_joins-requires-clause-nodes g c =
    let w = g.C.Cluster.world c.args.cluster.now in
    subst (AllByRecursion (IsNodeOf w)) (sym (c.deref.ensures.value ∙ c.in_ok-nodes.ensures)) (all_filter (IsNodeOf w) (nat_lt c.min.result) c.args.up.now (roll_nodes w c.args.up.now c.requires.up))

pub each_joins-requires-clause-known : goal.each_joins-requires-clause-known
each_joins-requires-clause-known g c =
    let w = g.C.Cluster.world c.args.cluster.now in
    subst (ArePlaced w c.args.leader) (sym (c.deref_mut.ensures.value ∙ c.in_ok-known.ensures)) (none_placed w c.args.leader c.nodes.result c.nodes.ensures.ids)
