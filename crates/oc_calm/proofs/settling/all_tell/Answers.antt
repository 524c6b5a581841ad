use Rattle.std.proofs.Common.{ℕ, length, sym, ap, subst, ◌∙◌, arith}
use Rattle.std.specs.List.{AllByRecursion}
use Rattle.oc_base.specs.Lawful.{IsNode}
use Rattle.oc_calm.specs.Cluster.{IsUpNode}
use Rattle.oc_calm.specs.Tree.{AreLengths}
use Rattle.oc_calm.proofs.RoundRuns.{roll_nodes, roll_ups}
use Rattle.oc_calm.proofs.TellingRuns.{sorted_deepest, sorted_nodes}
use Rattle.oc_calm.proofs.settling.all_tell.Goals as goal

pub sorted_by_length-requires-clause-nodes : goal.sorted_by_length-requires-clause-nodes
sorted_by_length-requires-clause-nodes g c =
    subst (λ (m : ℕ). AllByRecursion (IsNode m) c.args.up.now) (sym (ap length c.deref.ensures.value ∙ c.in_ok-lengths.ensures.lengths.places))
    (roll_nodes (g.C.Cluster.world c.args.cluster.now) c.args.up.now c.requires)

pub sorted_by_length-requires-clause-few : goal.sorted_by_length-requires-clause-few
sorted_by_length-requires-clause-few g c = omega (arith, ap length c.deref.ensures.value, c.in_ok-lengths.ensures.few)

pub each_tells-requires-clause-order : goal.each_tells-requires-clause-order
each_tells-requires-clause-order g c =
    let w = g.C.Cluster.world c.args.cluster.now in
    let ls = c.deref.result.now in
    c.deref-2.ensures.value
    ∙ (c.in_ok-nodes.ensures ∙ sorted_deepest w ls c.args.up.now (subst (AreLengths w) (sym c.deref.ensures.value) c.in_ok-lengths.ensures.lengths) c.requires)

pub each_tells-requires-clause-nodes : goal.each_tells-requires-clause-nodes
each_tells-requires-clause-nodes g c =
    let w = g.C.Cluster.world c.args.cluster.now in
    let ls = c.deref.result.now in
    subst (AllByRecursion (IsUpNode w)) (sym (c.deref-2.ensures.value ∙ c.in_ok-nodes.ensures)) (sorted_nodes (IsUpNode w) ls c.args.up.now (roll_ups w c.args.up.now c.requires) (length ls))
