use Rattle.std.proofs.Common.{◌≡◌, ℕ, Some, None, refl, ap, sym, subst, ◌∙◌}
use Rattle.oc_model.specs.Checking.{ends_leases}
use Rattle.oc_model.specs.Leases.{start_all, next_ended}
use Rattle.oc_model.specs.Node.{Control}
use Rattle.oc_state.specs.declared.volatile.Volatile.{Volatile}
use Rattle.oc_step.specs.StepView.{StepView}
use Rattle.oc_step.specs.NodeView.{IsReached}
use Rattle.oc_node.proofs.Steps.{both}
use Rattle.oc_node.proofs.Ending.{ends_begin, ends_go_on, ends_fewer, ends_over}
use Rattle.oc_node.proofs.checking.end_leases.Goals as goal

pub loop-child-init : goal.loop-child-init
loop-child-init c =
    let n = c.args.step.now.base in
    let o = c.args.step.now.plan in
    let clock : o.node.soft.clock ≡ c.volatile-now.result.clock = sym (ap (λ (v : Volatile). v.clock) c.volatile-now.ensures.volatile) in
    let leases : o.node.leases ≡ start_all n.kept.table n.me n.leases c.volatile-now.result.clock = c.requires.leases ∙ ap (λ (t : ℕ). start_all n.kept.table n.me n.leases t) clock in
    (refl, ends_begin n o c.volatile-now.result.clock c.requires.reached c.requires.table c.requires.id clock leases)

pub loop-child-smaller : goal.loop-child-smaller
loop-child-smaller c =
    let b = c.loop-child.step.base in
    let same : c.end_lease.new.step.base ≡ b = ap (λ (d : StepView). d.base) c.in_ok-end_lease.ensures in
    let own : c.child.inside.0 ≡ c.in-Some.child = c.child.view_is in
    let next : next_ended b.kept.table b.me b.leases c.loop-child.after c.volatile-now.result.clock ≡ Some c.in-Some.child = sym c.next_ended.ensures ∙ c.in-Some.is in
    let reached : IsReached b = subst (λ (n : Control). IsReached n) (sym c.loop-child.invariant.0) c.requires.reached in
    rw (same, own) (ends_fewer b c.volatile-now.result.clock c.loop-child.after c.in-Some.child reached next)

pub loop-child-preserved : goal.loop-child-preserved
loop-child-preserved c =
    let b = c.loop-child.step.base in
    let same : c.end_lease.new.step.base ≡ b = ap (λ (d : StepView). d.base) c.in_ok-end_lease.ensures in
    let own : c.child.inside.0 ≡ c.in-Some.child = c.child.view_is in
    let next : next_ended b.kept.table b.me b.leases c.loop-child.after c.volatile-now.result.clock ≡ Some c.in-Some.child = sym c.next_ended.ensures ∙ c.in-Some.is in
    let reached : IsReached b = subst (λ (n : Control). IsReached n) (sym c.loop-child.invariant.0) c.requires.reached in (
      same ∙ c.loop-child.invariant.0,
      rw (same, own) (ends_go_on b c.volatile-now.result.clock c.loop-child.after c.in-Some.child c.loop-child.step.plan c.end_lease.new.step.plan (ends_leases c.args.step.now.plan) reached next (ap (λ (d : StepView). d.plan) c.in_ok-end_lease.ensures) c.loop-child.invariant.1),
    )

pub returns : goal.returns
returns c =
    let b = c.loop-child.step.base in
    let none : next_ended b.kept.table b.me b.leases c.loop-child.after c.volatile-now.result.clock ≡ None = sym c.next_ended.ensures ∙ c.in_default.is in
    let step : c.loop-child.step.plan ≡ ends_leases c.args.step.now.plan = ends_over b c.volatile-now.result.clock c.loop-child.after c.loop-child.step.plan (ends_leases c.args.step.now.plan) none c.loop-child.invariant.1 in
    both c.loop-child.step c.args.step.now (ends_leases c.args.step.now.plan) c.loop-child.invariant.0 step
