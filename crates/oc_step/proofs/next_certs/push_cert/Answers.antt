use Rattle.std.proofs.Common.{◌≡◌, ◌<◌, length, ◌∙◌, arith}
use Rattle.oc_base.specs.declared.limits.TheConstants.{MAX_CHECK_IN_CERTS}
use Rattle.oc_step.proofs.NextCerts.{pushed_full, pushed_none, pushed_one}
use Rattle.oc_step.proofs.next_certs.push_cert.Goals as goal

pub returns-then-len-eq-MAX_CHECK_IN_CERTS-clause-certs : goal.returns-then-len-eq-MAX_CHECK_IN_CERTS-clause-certs
returns-then-len-eq-MAX_CHECK_IN_CERTS-clause-certs c =
    let size : c.args.certs.now.len ≡ length c.args.certs.now.items = c.args.certs.now.ok.0 in
    pushed_full MAX_CHECK_IN_CERTS c.args.certs.now.items _ (omega arith) (omega arith)

pub returns-in_ok-push-clause-certs : goal.returns-in_ok-push-clause-certs
returns-in_ok-push-clause-certs c =
    let size : c.args.certs.now.len ≡ length c.args.certs.now.items = c.args.certs.now.ok.0 in
    let room : length c.args.certs.now.items < MAX_CHECK_IN_CERTS = omega arith in
    rw c.in-Some.is (c.in_ok-push.ensures.items ∙ pushed_one MAX_CHECK_IN_CERTS c.args.certs.now.items c.in-Some.cert room)

pub returns-in_default-clause-certs : goal.returns-in_default-clause-certs
returns-in_default-clause-certs c =
    let size : c.args.certs.now.len ≡ length c.args.certs.now.items = c.args.certs.now.ok.0 in
    rw c.in_default.is (pushed_none MAX_CHECK_IN_CERTS c.args.certs.now.items (omega arith))
