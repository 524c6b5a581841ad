use Rattle.std.proofs.Common.{sym, ◌+◌, ◌∙◌, arith}
use Rattle.std.specs.List.{list_all}
use Rattle.oc_model.specs.World.{ids}
use Rattle.oc_calm.specs.Tree.{fits_under}
use Rattle.oc_calm.proofs.Fitting.{all_more, all_fails, all_ends}
use Rattle.oc_calm.proofs.RoundRuns.{number_node}
use Rattle.oc_calm.proofs.readiness.all_fit.Goals as goal

pub fits_under-requires-clause-node : goal.fits_under-requires-clause-node
fits_under-requires-clause-node g c =
    number_node (g.C.Cluster.world c.args.cluster.now) c.nodes-number-end.result c.loop-number.number c.nodes-number-end.ensures.ids (omega arith) (omega arith)

pub loop-number-preserved : goal.loop-number-preserved
loop-number-preserved g c =
    let w = g.C.Cluster.world c.args.cluster.now in
    all_more (fits_under w c.args.root) c.loop-number.number (c.nodes-number-end.result + 1) (list_all (fits_under w c.args.root) (ids w)) (omega arith) (sym c.fits_under.ensures ∙ c.if-not-fits_under.false) c.loop-number.invariant

pub returns-then-not-fits_under : goal.returns-then-not-fits_under
returns-then-not-fits_under g c =
    let w = g.C.Cluster.world c.args.cluster.now in
    all_fails (fits_under w c.args.root) c.loop-number.number (c.nodes-number-end.result + 1) (list_all (fits_under w c.args.root) (ids w)) (omega arith) (sym c.fits_under.ensures ∙ c.if-not-fits_under.true) c.loop-number.invariant

pub returns : goal.returns
returns g c =
    let w = g.C.Cluster.world c.args.cluster.now in
    all_ends (fits_under w c.args.root) c.loop-number.number (c.nodes-number-end.result + 1) (list_all (fits_under w c.args.root) (ids w)) (omega arith) c.loop-number.invariant
