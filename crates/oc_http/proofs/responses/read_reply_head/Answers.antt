use Rattle.std.proofs.Common.{refl, ap, ◌∙◌, Ok}
use Rattle.std.proofs.lemmas.Result.{err_from_is_err_and}
use Rattle.oc_http.specs.Responses.{reply_head_of}
use Rattle.oc_http.proofs.Faults.{fault_or-ok, fault_or-err, Fails-same}
use Rattle.oc_http.proofs.responses.read_reply_head.Goals as goal

-- the fault of the length is the fault of the head
pub returns-in_err-length : goal.returns-in_err-length
returns-in_err-length c =
    let fault = c.in_err-length.field-0.0 in
    let said = fault_or-err _ (reply_head_of c.args.status c.args.fields.now) _ fault c.in_err-length.ensures in
    let p = err_from_is_err_and c.from_residual.result c.from_residual.ensures.1 in
    rw (p.1, p.2) (Fails-same fault _ said)

-- a length without a fault means a head without one
pub returns : goal.returns
returns c =
    let said = fault_or-ok _ (reply_head_of c.args.status c.args.fields.now) _ _ c.in_ok-length.ensures in
    said.1 ∙ ap Ok (rw (c.in_ok-location.ensures, c.is_chunked.ensures, c.closes.ensures, c.group_length.ensures, c.in_ok-copy_some.ensures, c.only.ensures, ← said.0) refl)
