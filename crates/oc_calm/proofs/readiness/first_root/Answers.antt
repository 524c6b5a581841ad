use Rattle.std.proofs.Common.{find, sym, ◌+◌, ◌∙◌, arith}
use Rattle.oc_model.specs.Ready.{is_root}
use Rattle.oc_model.specs.World.{ids}
use Rattle.oc_calm.proofs.Fitting.{find_more, find_here, find_ends}
use Rattle.oc_calm.proofs.RoundRuns.{number_node}
use Rattle.oc_calm.proofs.readiness.first_root.Goals as goal

pub is_root-requires : goal.is_root-requires
is_root-requires g c = number_node (g.C.Cluster.world c.args.cluster.now) c.nodes-number-end.result c.loop-number.number c.nodes-number-end.ensures.ids (omega arith) (omega arith)

pub loop-number-preserved : goal.loop-number-preserved
loop-number-preserved g c =
    let w = g.C.Cluster.world c.args.cluster.now in
    find_more (is_root w) c.loop-number.number (c.nodes-number-end.result + 1) (find (is_root w) (ids w)) (omega arith) (sym c.is_root.ensures ∙ c.if-is_root.false) c.loop-number.invariant

pub returns-then-is_root : goal.returns-then-is_root
returns-then-is_root g c =
    let w = g.C.Cluster.world c.args.cluster.now in
    find_here (is_root w) c.loop-number.number (c.nodes-number-end.result + 1) (find (is_root w) (ids w)) (omega arith) (sym c.is_root.ensures ∙ c.if-is_root.true) c.loop-number.invariant

pub returns : goal.returns
returns g c =
    let w = g.C.Cluster.world c.args.cluster.now in
    find_ends (is_root w) c.loop-number.number (c.nodes-number-end.result + 1) (find (is_root w) (ids w)) (omega arith) c.loop-number.invariant
