use Rattle.std.proofs.Common.{◌≡◌, refl, ap, ◌∙◌, subst, Ok, Err}
use Rattle.std.proofs.lemmas.Result.{err_from_is_err_and}
use Rattle.oc_http.specs.Lengths.{fault_or}
use Rattle.oc_http.specs.Requests.{head_of, head_fault}
use Rattle.oc_http.specs.declared.head.Method.{Method}
use Rattle.oc_http.proofs.Faults.{fault_or-ok, fault_or-err, Fails-same}
use Rattle.oc_http.proofs.BodyLengths.{length_is}
use Rattle.oc_http.proofs.requests.read_parts.Goals as goal

-- the fault of the length is the fault of the head
pub returns-in_err-length : goal.returns-in_err-length
returns-in_err-length c =
    let head = head_of c.args.method.now c.args.target.now c.args.minor c.args.fields.now in
    let fault = c.in_err-length.field-0.0 in
    let said = fault_or-err _ head _ fault (c.in_err-length.ensures ∙ length_is c.method_of-method.result c.args.minor c.args.fields.now) in
    let p = err_from_is_err_and c.from_residual.result c.from_residual.ensures.1 in
    rw (p.1, p.2) (Fails-same fault _ (subst (λ (v : Method). fault_or head (head_fault v c.args.minor c.args.fields.now) ≡ Err fault) c.method_of-method.ensures said))

-- a length without a fault means a head without one
pub returns : goal.returns
returns c =
    let head = head_of c.args.method.now c.args.target.now c.args.minor c.args.fields.now in
    let said = fault_or-ok _ head _ _ (c.in_ok-length.ensures ∙ length_is c.method_of-method.result c.args.minor c.args.fields.now) in
    let texts = c.in_ok-path.ensures in
    subst (λ (v : Method). fault_or head (head_fault v c.args.minor c.args.fields.now) ≡ Ok head) c.method_of-method.ensures said.1 ∙ ap Ok (rw (texts.0, texts.1, c.method_of-method.ensures, c.expects.ensures, c.closes.ensures, c.is_present-has_authorization.ensures, c.in_ok-authorization.ensures, c.in_ok-mac.ensures, c.in_ok-selectors.ensures, c.only.ensures, c.only-2.ensures, ← said.0) refl)
