-- A head that is read for a reader that understands chunks, and then tested.
use Rattle.std.proofs.Common.{sym}
use Rattle.std.proofs.lemmas.Result.{err_from_is_err_and}
use Rattle.oc_http.proofs.Faults.{same_cause}
use Rattle.oc_http.proofs.Wholes.{start_refuses, start_says, start_stops, left_never_source}
use Rattle.oc_http.proofs.head_reader.HeadReader.read_response_start.Goals as goal

pub returns-in_err-head-clause-refused : goal.returns-in_err-head-clause-refused
returns-in_err-head-clause-refused g c =
    let p = err_from_is_err_and c.from_residual.result c.from_residual.ensures.1 in
    let stopped = c.in_err-head.ensures.refused in
    rw (p.1, p.2) (stopped.0, stopped.1, start_refuses stopped.0 _ c.in_err-head.field-0.0 stopped.2)

pub returns-in_err-head-clause-cause : goal.returns-in_err-head-clause-cause
returns-in_err-head-clause-cause g c =
    let p = err_from_is_err_and c.from_residual.result c.from_residual.ensures.1 in
    rw (p.1, p.2) (same_cause _ _ c.in_err-head.ensures.cause)

pub returns-in_err-head-clause-count : goal.returns-in_err-head-clause-count
returns-in_err-head-clause-count g c = c.read_response_head.ensures.count

pub returns-in-None-clause-read : goal.returns-in-None-clause-read
returns-in-None-clause-read g c =
    let said = c.in_ok-head.ensures.read in
    (said.0, said.1, start_says said.0 c.in_ok-head.head said.2 (sym c.in-None.ensures))

pub returns-in-None-clause-count : goal.returns-in-None-clause-count
returns-in-None-clause-count g c = c.read_response_head.ensures.count

pub returns-in-Some-clause-refused : goal.returns-in-Some-clause-refused
returns-in-Some-clause-refused g c =
    let said = c.in_ok-head.ensures.read in
    start_stops g.S.Source.gives g.S.Source.fails c.args.source.now c.read_response_head.new.source _ said.0 c.in_ok-head.head c.in-Some.fault said.1 said.2 (sym c.in-Some.ensures)

pub returns-in-Some-clause-count : goal.returns-in-Some-clause-count
returns-in-Some-clause-count g c = c.read_response_head.ensures.count

pub returns-in-Some-clause-cause : goal.returns-in-Some-clause-cause
returns-in-Some-clause-cause g c = λ is. absurd (left_never_source c.in_ok-head.head c.in-Some.fault (sym c.in-Some.ensures) is)
