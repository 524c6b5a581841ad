-- The row of a code has the kind of that code.
use Rattle.std.proofs.Common.{Err, sym, subst, ap, ◌∙◌}
use Rattle.std.proofs.lemmas.Result.{err_from_is_err_and}
use Rattle.oc_wire.specs.MessageFaults.{fault_of, of_field}
use Rattle.oc_wire.specs.MessageReading.{Gives}
use Rattle.oc_wire.proofs.Lifts.{fault_given}
use Rattle.oc_wire.proofs.Rows.{body_in_row, body_in_no_row}
use Rattle.oc_wire.proofs.message_decoding.body_at.Goals as goal

pub returns-in_err-fields_at-in-Some : goal.returns-in_err-fields_at-in-Some
returns-in_err-fields_at-in-Some c =
    let p = err_from_is_err_and c.from_residual.result c.from_residual.ensures.1 in
    let fault = c.in_err-fields_at-in-Some.field-0.0 in
    let row = body_in_row c.args.code c.in-Some.row c.args.nodes c.args.bytes.now c.args.at (sym c.in-Some.ensures) in
    rw (p.1, p.2) (subst (Gives (Err (fault_of fault))) (sym row) (fault_given fault _ c.in_err-fields_at-in-Some.ensures))

pub returns-in_ok-fields_at-in-Some : goal.returns-in_ok-fields_at-in-Some
returns-in_ok-fields_at-in-Some c =
    body_in_row c.args.code c.in-Some.row c.args.nodes c.args.bytes.now c.args.at (sym c.in-Some.ensures) ∙ ap of_field c.in_ok-fields_at-in-Some.ensures

pub returns-in-None : goal.returns-in-None
returns-in-None c = body_in_no_row c.args.code c.args.nodes c.args.bytes.now c.args.at (sym c.in-None.ensures)
