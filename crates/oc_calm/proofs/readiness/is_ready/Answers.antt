use Rattle.std.proofs.Common.{◌∙◌}
use Rattle.oc_calm.proofs.Fitting.{ready_fits, rootless}
use Rattle.oc_calm.proofs.readiness.is_ready.Goals as goal

pub returns-in-Some : goal.returns-in-Some
returns-in-Some g c = c.all_fit.ensures ∙ ready_fits (g.C.Cluster.world c.args.cluster.now) c.in-Some.root c.in-Some.ensures

pub returns-in-None : goal.returns-in-None
returns-in-None g c = rootless (g.C.Cluster.world c.args.cluster.now) c.in-None.ensures
