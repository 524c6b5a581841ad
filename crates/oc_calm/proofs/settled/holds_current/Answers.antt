use Rattle.std.proofs.Common.{◌+◌, ◌∙◌, arith}
use Rattle.std.specs.List.{list_all}
use Rattle.oc_model.specs.World.{ids}
use Rattle.oc_calm.proofs.Currents.{current_at, current_is, currents_are}
use Rattle.oc_calm.proofs.Fitting.{all_more, all_fails, all_ends}
use Rattle.oc_calm.proofs.RoundRuns.{nodes_count, number_node}
use Rattle.oc_calm.proofs.settled.holds_current.Goals as goal

pub is_current-requires-clause-child : goal.is_current-requires-clause-child
is_current-requires-clause-child g c =
    number_node (g.C.Cluster.world c.args.cluster.now) c.nodes-number-end.result c.loop-number.number c.nodes-number-end.ensures.ids (omega arith) (omega arith)

pub loop-number-preserved : goal.loop-number-preserved
loop-number-preserved g c =
    let w = g.C.Cluster.world c.args.cluster.now in
    let y = c.args.node in
    let k = c.loop-number.number in
    record {
      same = all_more (current_at w y) k (c.nodes-number-end.result + 1) (list_all (current_at w y) (ids w)) (omega arith) (current_is w y k c.is_current.result c.is_current.ensures.current ∙ c.if-not-is_current.false) c.loop-number.invariant.same;
      strangers = λ _. c.is_current.ensures.strangers;
    }

pub returns-then-not-is_current : goal.returns-then-not-is_current
returns-then-not-is_current g c =
    let w = g.C.Cluster.world c.args.cluster.now in
    let y = c.args.node in
    let k = c.loop-number.number in
    let n = c.nodes-number-end.result in
    all_fails (current_at w y) k (n + 1) (list_all (current_at w y) (ids w)) (omega arith) (current_is w y k c.is_current.result c.is_current.ensures.current ∙ c.if-not-is_current.true) c.loop-number.invariant.same
    ∙ currents_are w y n c.nodes-number-end.ensures.ids (nodes_count w n c.nodes-number-end.ensures.ids) c.is_current.ensures.strangers

pub returns : goal.returns
returns g c =
    let w = g.C.Cluster.world c.args.cluster.now in
    let y = c.args.node in
    let n = c.nodes-number-end.result in
    let count = nodes_count w n c.nodes-number-end.ensures.ids in
    all_ends (current_at w y) c.loop-number.number (n + 1) (list_all (current_at w y) (ids w)) (omega arith) c.loop-number.invariant.same
    ∙ currents_are w y n c.nodes-number-end.ensures.ids count (c.loop-number.invariant.strangers (omega (arith, count, c.requires.0.0, c.requires.0.1, c.loop-number-test.false)))
