use Rattle.std.proofs.Common.{◌≡◌, drop}
use Rattle.oc_model.specs.Checking.{merges_all}
use Rattle.oc_node.proofs.acknowledging.merge_all.Given as goal

abbrev pub invariant-loop-cert : goal.invariant-loop-cert
invariant-loop-cert l = (l.step.base ≡ l.initial.step.base) × (merges_all (drop l.cert-index l.certs) l.step.plan ≡ merges_all l.certs l.initial.step.plan)
