use Rattle.std.proofs.Common.{◌≡◌, Bool, false, IfOk, ap, sym, subst, ◌∙◌}
use Rattle.oc_model.specs.Node.{Node}
use Rattle.oc_model.specs.declared.status.NodeStatus.{NodeStatus}
use Rattle.oc_model.specs.Status.{status_of}
use Rattle.oc_world.proofs.process.Process.status.Goals as goal

pub returns : goal.returns
returns c =
    let p = c.args.self.now.process in
    let same : status_of c.in_ok-load.field-0.node.control false ≡ status_of p.node.control p.up =
    ap (λ (n : Node). status_of n.control false) c.in_ok-load.ensures.node ∙ ap (λ (b : Bool). status_of p.node.control b) (sym c.if-is_up.false ∙ c.is_up.ensures.up) in
    subst (λ (s : NodeStatus). IfOk c.status_recovered.result (λ status. status ≡ s)) same c.status_recovered.ensures
