use Rattle.std.proofs.Common.{sym, subst, ◌∙◌}
use Rattle.oc_model.specs.Lawful.{AreRecords}
use Rattle.oc_model.specs.Node.{Durable}
use Rattle.oc_state.specs.DurableView.{IsKept}
use Rattle.oc_state.proofs.Folding.{kept_all}
use Rattle.oc_node.proofs.Reaching.{reached_kept, reached_with}
use Rattle.oc_node.proofs.node.Node.recover.Goals as goal

pub invariant_of-self : goal.invariant_of-self
invariant_of-self c = rw c.in_err-recover.ensures.err c.self.invariant

pub invariant_of-self-2 : goal.invariant_of-self-2
invariant_of-self-2 c =
    let nodes = c.self.inside.nodes in
    let reached = c.self.invariant.1 in
    let lawful : AreRecords nodes c.args.list.now = rw (← c.self.view_is) at c.requires.lawful in
    let kept : IsKept nodes c.recover.new.self.kept = subst (λ (d : Durable). IsKept nodes d) (sym c.in_ok-recover.ensures.kept) (kept_all nodes c.self.inside.durable.kept c.args.list.now lawful (reached_kept _ reached)) in
    (c.recover.ensures.nodes ∙ c.self.invariant.0, reached_with _ c.recover.new.self.kept reached kept)
