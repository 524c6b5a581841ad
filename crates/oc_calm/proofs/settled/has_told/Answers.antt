use Rattle.std.proofs.Common.{sym, ◌∙◌}
use Rattle.oc_calm.proofs.Currents.{told_joined, told_other}
use Rattle.oc_calm.proofs.settled.has_told.Goals as goal

pub returns-in-Joined : goal.returns-in-Joined
returns-in-Joined g c = told_joined (g.C.Cluster.world c.args.cluster.now) c.args.node c.in-Joined.field-0 c.waiting.result (sym c.in-Joined.ensures.mode) c.waiting.ensures

pub returns-in_default : goal.returns-in_default
returns-in_default g c = told_other (g.C.Cluster.world c.args.cluster.now) c.args.node (λ p e. c.in_default.not-Joined p (c.mode.ensures.mode ∙ e))
