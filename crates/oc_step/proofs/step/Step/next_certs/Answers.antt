use Rattle.std.proofs.Common.{◌≡◌, ◌≤◌, true, List, ◌++◌, length, take, ap, sym, ◌∙◌, arith}
use Rattle.oc_base.specs.declared.cert.Cert.{Cert}
use Rattle.oc_base.specs.declared.limits.TheConstants.{MAX_CHECK_IN_CERTS}
use Rattle.oc_model.specs.declared.mode.Mode.{Mode}
use Rattle.oc_model.specs.declared.record.Record.{Record}
use Rattle.oc_model.specs.Node.{Log}
use Rattle.oc_model.specs.Records.{folded, is_joined}
use Rattle.oc_step.specs.Since.{AreTold, certs_in}
use Rattle.oc_step.proofs.NextCerts.{taken_few, take_twice}
use Rattle.oc_step.proofs.Folded.{mode_told, waiting_told}
use Rattle.oc_step.proofs.step.Step.next_certs.Goals as goal

pub push_certs-requires : goal.push_certs-requires
push_certs-requires c =
    let size : c.take.new.into.len ≡ length c.take.new.into.items = c.take.new.into.ok.0 in
    let taken = c.in_ok-take.ensures.certs ∙ ap (λ (cs : List Cert). cs ++ take MAX_CHECK_IN_CERTS c.log.result.now.log.waiting) c.new-certs.ensures.items in
    let few : length c.take.new.into.items ≤ MAX_CHECK_IN_CERTS = taken_few MAX_CHECK_IN_CERTS c.take.new.into.items c.log.result.now.log.waiting taken in
    omega arith

pub returns-clause-certs : goal.returns-clause-certs
returns-clause-certs c =
    let kept = c.self.inside.node.kept in
    let changes = c.self.inside.plan.records in
    let told : AreTold changes = rw (← c.self.view_is) at c.requires.told in
    let joined : is_joined (folded kept changes).mode ≡ true = rw (← c.self.view_is) at c.requires.joined in
    let was : is_joined kept.mode ≡ true = ap (λ (m : Mode). is_joined m) (sym (mode_told kept changes told)) ∙ joined in
    let taken : c.take.new.into.items ≡ take MAX_CHECK_IN_CERTS kept.log.waiting =
    c.in_ok-take.ensures.certs
    ∙ ap (λ (cs : List Cert). cs ++ take MAX_CHECK_IN_CERTS c.log.result.now.log.waiting) c.new-certs.ensures.items
    ∙ ap (λ (l : Log). take MAX_CHECK_IN_CERTS l.waiting) c.log.ensures in
    let made : c.push_certs.new.certs.items ≡ take MAX_CHECK_IN_CERTS (take MAX_CHECK_IN_CERTS kept.log.waiting ++ certs_in changes) =
    c.in_ok-push_certs.ensures.certs
    ∙ ap (λ (cs : List Cert). take MAX_CHECK_IN_CERTS (cs ++ certs_in c.records.result.now)) taken
    ∙ ap (λ (rs : List Record). take MAX_CHECK_IN_CERTS (take MAX_CHECK_IN_CERTS kept.log.waiting ++ certs_in rs)) c.records.ensures in
    rw (← c.self.view_is) (take_twice MAX_CHECK_IN_CERTS kept.log.waiting (certs_in changes) c.push_certs.new.certs.items (folded kept changes).log.waiting (waiting_told kept changes told was) made)
