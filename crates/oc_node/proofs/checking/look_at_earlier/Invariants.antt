use Rattle.std.proofs.Common.{◌≡◌}
use Rattle.std.specs.Prelude.{filter, nat_lt}
use Rattle.oc_model.specs.Checking.{looks_at_each}
use Rattle.oc_model.specs.Choice.{below}
use Rattle.oc_node.proofs.checking.look_at_earlier.Given as goal

abbrev pub invariant-loop-earlier : goal.invariant-loop-earlier
invariant-loop-earlier l =
    (l.step.base ≡ l.initial.step.base)
    × (looks_at_each (filter (λ x. nat_lt l.other x) (below l.earlier)) l.step.plan ≡ looks_at_each (filter (λ x. nat_lt l.other x) (below l.initial.step.plan.node.me)) l.initial.step.plan)
