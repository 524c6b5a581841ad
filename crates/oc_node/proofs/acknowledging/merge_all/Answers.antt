use Rattle.std.proofs.Common.{◌≡◌, List, [], ap, drop, sym, ◌∙◌}
use Rattle.std.proofs.Math.ListN.{drop_of_length-le}
use Rattle.oc_base.specs.declared.cert.Cert.{Cert}
use Rattle.oc_model.specs.Checking.{merges_all}
use Rattle.oc_step.specs.StepView.{StepView}
use Rattle.oc_node.proofs.Steps.{both}
use Rattle.oc_node.proofs.MergeAll.{merges_go_on}
use Rattle.oc_node.proofs.acknowledging.merge_all.Goals as goal

pub loop-cert-preserved : goal.loop-cert-preserved
loop-cert-preserved c = (
  ap (λ (d : StepView). d.base) c.in_ok-merge.ensures ∙ c.loop-cert.invariant.0,
  merges_go_on c.args.certs.now c.loop-cert.cert-index c.cert-item.result c.loop-cert.step.plan c.merge.new.step.plan _ c.loop-cert-test.true c.cert-item.is (ap (λ (d : StepView). d.plan) c.in_ok-merge.ensures) c.loop-cert.invariant.1,
)

pub returns : goal.returns
returns c =
    let certs = c.args.certs.now in
    let none : drop c.loop-cert.cert-index certs ≡ [] = drop_of_length-le certs c.loop-cert-test.false in
    both c.loop-cert.step c.args.step.now (merges_all certs c.args.step.now.plan) c.loop-cert.invariant.0 (sym (ap (λ (cs : List Cert). merges_all cs c.loop-cert.step.plan) none) ∙ c.loop-cert.invariant.1)
