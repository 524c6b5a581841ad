-- The request is that of the message's spelling.
use Rattle.std.proofs.Common.{◌≡◌, ℕ, List, IfOk, ap, ◌∙◌, subst, None, Some, sym}
use Rattle.oc_http.specs.Writing.{IsMac, request_with}
use Rattle.oc_policy.specs.Keys.{mac_digits}
use Rattle.oc_wire.specs.Spelling.{spelling}
use Rattle.oc_wire.proofs.Authentic.{is_mac}
use Rattle.oc_wire.proofs.http.to_http.Goals as goal

pub returns-in-None : goal.returns-in-None
returns-in-None c =
    let body = c.deref.ensures.value ∙ c.in_ok-body.ensures in
    rw c.in-None.is (subst (λ (b : List ℕ). IfOk c.write_request.result (λ text. text.items ≡ request_with None c.args.host.now b)) body c.write_request.ensures)

pub write_request-requires-in-Some-clause-mac : goal.write_request-requires-in-Some-clause-mac
write_request-requires-in-Some-clause-mac c =
    let key = c.in-Some.key.now in
    let body = c.deref-in-Some.result.now in
    subst IsMac (sym (c.digits.ensures.value ∙ c.mac_of-mac.ensures)) (is_mac key body (c.macs_are_digits.ensures.count key body) (c.macs_are_digits.ensures.digits key body))

pub returns : goal.returns
returns c =
    let key = c.in-Some.key.now in
    let spelled = spelling c.args.message.now in
    let body : c.deref-in-Some-2.result.now ≡ spelled = c.deref-in-Some-2.ensures.value ∙ c.in_ok-body.ensures in
    let mac : c.digits.result.now ≡ mac_digits key spelled = c.digits.ensures.value ∙ c.mac_of-mac.ensures ∙ ap (mac_digits key) (c.deref-in-Some.ensures.value ∙ c.in_ok-body.ensures) in
    rw c.in-Some.is
    (subst (λ (m : List ℕ). IfOk c.write_request-in-Some.result (λ text. text.items ≡ request_with (Some m) c.args.host.now spelled)) mac
    (subst (λ (b : List ℕ). IfOk c.write_request-in-Some.result (λ text. text.items ≡ request_with (Some c.digits.result.now) c.args.host.now b)) body c.write_request-in-Some.ensures))
