use Rattle.std.proofs.Common.{◌≡◌, ◌≤◌, ◌++◌, vec_len, take, drop}
use Rattle.oc_base.specs.declared.limits.TheConstants.{MAX_CHECK_IN_CERTS}
use Rattle.oc_step.specs.Since.{certs_in}
use Rattle.oc_step.proofs.next_certs.push_certs.Given as goal

abbrev pub invariant-loop-change : goal.invariant-loop-change
invariant-loop-change l =
    (take MAX_CHECK_IN_CERTS (l.certs.items ++ certs_in (drop l.change-index l.records)) ≡ take MAX_CHECK_IN_CERTS (l.initial.certs.items ++ certs_in l.records))
    × (vec_len l.certs ≤ MAX_CHECK_IN_CERTS)
