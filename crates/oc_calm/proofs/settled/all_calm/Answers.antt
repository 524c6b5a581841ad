use Rattle.std.proofs.Common.{sym, ◌+◌, ◌∙◌, arith}
use Rattle.std.specs.List.{list_all}
use Rattle.oc_model.specs.Ready.{is_calm}
use Rattle.oc_model.specs.World.{ids}
use Rattle.oc_calm.proofs.Fitting.{all_more, all_fails, all_ends}
use Rattle.oc_calm.proofs.RoundRuns.{number_node}
use Rattle.oc_calm.proofs.settled.all_calm.Goals as goal

pub is_calm-requires : goal.is_calm-requires
is_calm-requires g c =
    number_node (g.C.Cluster.world c.args.cluster.now) c.nodes-number-end.result c.loop-number.number c.nodes-number-end.ensures.ids (omega arith) (omega arith)

pub loop-number-preserved : goal.loop-number-preserved
loop-number-preserved g c =
    let w = g.C.Cluster.world c.args.cluster.now in
    all_more (is_calm w) c.loop-number.number (c.nodes-number-end.result + 1) (list_all (is_calm w) (ids w)) (omega arith) (sym c.is_calm.ensures ∙ c.if-not-is_calm.false) c.loop-number.invariant

pub returns-then-not-is_calm : goal.returns-then-not-is_calm
returns-then-not-is_calm g c =
    let w = g.C.Cluster.world c.args.cluster.now in
    all_fails (is_calm w) c.loop-number.number (c.nodes-number-end.result + 1) (list_all (is_calm w) (ids w)) (omega arith) (sym c.is_calm.ensures ∙ c.if-not-is_calm.true) c.loop-number.invariant

pub returns : goal.returns
returns g c =
    let w = g.C.Cluster.world c.args.cluster.now in
    all_ends (is_calm w) c.loop-number.number (c.nodes-number-end.result + 1) (list_all (is_calm w) (ids w)) (omega arith) c.loop-number.invariant
