use Rattle.std.proofs.Common.{◌≡◌, true, ap, sym, subst, ◌∙◌}
use Rattle.std.specs.Prelude.{OnOk, filter, nat_lt}
use Rattle.oc_model.specs.declared.mode.Mode.{Mode}
use Rattle.oc_model.specs.Checking.{looks_at_each, looks_round}
use Rattle.oc_model.specs.Choice.{below}
use Rattle.oc_model.specs.Plan.{Plan, is_member}
use Rattle.oc_step.specs.StepView.{goes}
use Rattle.oc_node.proofs.Looks.{acting_looks}
use Rattle.oc_node.proofs.checking.look_round.Goals as goal

pub returns-then-is_member-2 : goal.returns-then-is_member-2
returns-then-is_member-2 c =
    let o = c.args.step.now.plan in
    let member : is_member o.node ≡ true = sym c.is_member-in-Acting.ensures ∙ c.if-is_member-2.true in
    let whole : looks_round c.args.mode o ≡ looks_at_each (filter (λ x. nat_lt 0 x) (below o.node.me)) o = ap (λ (m : Mode). looks_round m o) c.in-Acting.is ∙ acting_looks o member in
    subst (λ (q : Plan). OnOk c.look_at_earlier-then-is_member-2.result (c.look_at_earlier-then-is_member-2.new.step ≡ goes c.args.step.now q)) (sym whole) c.look_at_earlier-then-is_member-2.ensures
