-- A fault in the body, after the head.
use Rattle.std.proofs.Common.{◌++◌, inl, inr, refl, arith}
use Rattle.std.proofs.lemmas.Result.{err_from_is_err_and}
use Rattle.oc_http.proofs.Faults.{Rose-later, same_cause}
use Rattle.oc_http.proofs.Answered.{took_then}
use Rattle.oc_http.proofs.Stops.{Joins}
use Rattle.oc_http.proofs.head_reader.HeadReader.read_response.Goals as goal

pub returns-in_err-body-clause-refused : goal.returns-in_err-body-clause-refused
returns-in_err-body-clause-refused g c =
    let p = err_from_is_err_and c.from_residual-in_err-body.result c.from_residual-in_err-body.ensures.1 in
    let joins : Joins g.S.Source.gives g.S.Source.fails = record { both = g.met.S.Source.gives_then; last = g.met.S.Source.gives_fails } in
    let head = c.in_ok-head.ensures.read in
    let stopped = rw c.body_length-length.ensures at c.in_err-body.ensures.refused in
    let fault = c.in_err-body.field-0.0 in
    let took = took_then joins c.args.source.now c.read_response_start.new.source c.take_content.new.source head.0 stopped.0 head.1 fault stopped.1 in
    rw (p.1, p.2) (head.0 ++ stopped.0, took, inr (head.0, stopped.0, refl, record { head = c.in_ok-head.head; says = head.2; stops = stopped.2 }))

pub returns-in_err-head-clause-cause : goal.returns-in_err-head-clause-cause
returns-in_err-head-clause-cause g c =
    let p = err_from_is_err_and c.from_residual.result c.from_residual.ensures.1 in
    rw (p.1, p.2) (same_cause _ _ c.in_err-head.ensures.cause)

pub returns-in_err-head-clause-count : goal.returns-in_err-head-clause-count
returns-in_err-head-clause-count g c = c.read_response_start.ensures.count

pub returns-in_err-head-clause-refused : goal.returns-in_err-head-clause-refused
returns-in_err-head-clause-refused g c =
    let p = err_from_is_err_and c.from_residual.result c.from_residual.ensures.1 in
    let stopped = c.in_err-head.ensures.refused in
    rw (p.1, p.2) (stopped.0, stopped.1, inl stopped.2)

pub returns-in_err-body-clause-count : goal.returns-in_err-body-clause-count
returns-in_err-body-clause-count g c = omega (arith, c.read_response_start.ensures.count, c.take_content.ensures.count)

pub returns-in_err-body-clause-cause : goal.returns-in_err-body-clause-cause
returns-in_err-body-clause-cause g c =
    let p = err_from_is_err_and c.from_residual-in_err-body.result c.from_residual-in_err-body.ensures.1 in
    rw (p.1, p.2) (λ is. Rose-later _ _ _ c.read_response_start.ensures.count (same_cause _ _ c.in_err-body.ensures.cause is))

pub returns-clause-count : goal.returns-clause-count
returns-clause-count g c = omega (arith, c.read_response_start.ensures.count, c.take_content.ensures.count)

-- the head, and the body after it
pub returns-clause-read : goal.returns-clause-read
returns-clause-read g c =
    let head = c.in_ok-head.ensures.read in
    let body = c.in_ok-body.body.items in
    let told = rw c.body_length-length.ensures at c.in_ok-body.ensures in
    (head.0, body, g.met.S.Source.gives_then c.args.source.now c.read_response_start.new.source c.take_content.new.source head.0 body head.1 c.in_ok-body.ensures.gives, record { head = c.in_ok-head.head; says = head.2; long = told.long; whole = told.end; reply_is = rw c.of.ensures })
