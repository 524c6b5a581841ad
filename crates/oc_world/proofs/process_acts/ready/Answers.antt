use Rattle.std.proofs.Common.{◌≡◌, ap, sym, subst, ◌∙◌}
use Rattle.std.specs.List.{AllByRecursion}
use Rattle.oc_keep.specs.KeptView.{node_of}
use Rattle.oc_keep.specs.ReadyView.{outcome_of}
use Rattle.oc_model.specs.Lawful.{IsMessage}
use Rattle.oc_model.specs.Node.{Node, Outcome}
use Rattle.oc_model.specs.Step.{step}
use Rattle.oc_world.proofs.process_acts.ready.Goals as goal

pub returns-clause-lawful : goal.returns-clause-lawful
returns-clause-lawful g c =
    let k = c.args.kept.now in
    let i = c.args.input.now in
    let leaves = c.lawful_nodes_stay_lawful.ensures.step k.node.control.nodes (node_of k) i c.requires.input c.recovers.ensures.short (c.recovers.ensures.lawful c.requires.open.honest) in
    let same : outcome_of (node_of c.turn_over.new.kept) c.in_ok-ready.ready ≡ step (node_of k) i = c.in_ok-ready.ensures.step ∙ ap (λ (n : Node). step n i) c.in_ok-turn_over.ensures.node in
    subst (AllByRecursion (IsMessage k.node.control.nodes)) (sym (ap (λ (o : Outcome). o.sends) same)) leaves.sends
