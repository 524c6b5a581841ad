-- A fault in the body, after the head.
use Rattle.std.proofs.Common.{◌++◌, inr, refl, subst}
use Rattle.std.proofs.lemmas.Result.{err_from_is_err_and}
use Rattle.oc_http.proofs.Answered.{took_then}
use Rattle.oc_http.proofs.Stops.{Joins}
use Rattle.oc_http.specs.Taking.{Took}
use Rattle.oc_link.specs.ArrivedView.{ArrivedView, FailsBehind, GivesFront, GivesFront-fails, GivesFront-then}
use Rattle.oc_deeds.proofs.InPlace.{rest_is}
use Rattle.oc_deeds.proofs.reply_in_place.read_in_place.Goals as goal

pub returns-in_err-body : goal.returns-in_err-body
returns-in_err-body c =
    let p = err_from_is_err_and c.from_residual-in_err-body.result c.from_residual-in_err-body.ensures.1 in
    let joins : Joins GivesFront FailsBehind = record { both = GivesFront-then; last = GivesFront-fails } in
    let head = c.in_ok-head.ensures.read in
    let came = rw c.new-source.ensures at head.1 in
    let stopped = rw c.body_length.ensures at c.in_err-body.ensures.refused in
    let fault = c.in_err-body.field-0.0 in
    let placed = rest_is c.args.bytes.now head.0 c.args.coming c.read_response_start.new.source c.left.result came c.left.ensures in
    let last = subst (λ (s : ArrivedView). Took GivesFront FailsBehind s stopped.0 stopped.1 fault) placed stopped.2 in
    let took = took_then joins _ c.read_response_start.new.source stopped.1 head.0 stopped.0 came fault last in
    rw (p.1, p.2) (head.0 ++ stopped.0, stopped.1, took, inr (head.0, stopped.0, refl, record { head = c.in_ok-head.head; says = head.2; stops = stopped.3 }))
