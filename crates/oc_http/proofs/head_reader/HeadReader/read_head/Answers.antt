-- The contents of the whole head are the answer.
use Rattle.std.proofs.Common.{◌∙◌, arith}
use Rattle.std.proofs.lemmas.List.{with_items_is}
use Rattle.std.proofs.lemmas.Result.{err_from_is_err_and}
use Rattle.httparse.specs.Grammar.{ReadsRequest}
use Rattle.oc_http.specs.Requests.{read_request}
use Rattle.oc_http.proofs.Faults.{same_cause}
use Rattle.oc_http.proofs.Answered.{request_fields, says, refuses, never_source, RefusesHead-stopped}
use Rattle.oc_http.proofs.head_reader.HeadReader.read_head.Goals as goal

-- an unfinished head is refused for that
pub returns-in_err-parts-clause-refused : goal.returns-in_err-parts-clause-refused
returns-in_err-parts-clause-refused g c =
    let p = err_from_is_err_and c.from_residual.result c.from_residual.ensures.1 in
    let stopped = c.in_err-parts.ensures.stops in
    rw (p.1, p.2) (stopped.0, stopped.1, RefusesHead-stopped ReadsRequest read_request stopped.0 _ c.in_err-parts.field-0.0 stopped.2)

pub returns-clause-read : goal.returns-clause-read
returns-clause-read g c =
    let taken = c.in_ok-parts.ensures.whole in
    let answered = rw c.deref.ensures.value at c.read_request.ensures in
    says g.S.Source.gives ReadsRequest read_request c.args.source.now c.take_request.new.source c.take_request.new.bytes.items answered.0 c.read_request.result taken.0 answered.1 taken.1.fits answered.2

pub returns-clause-refused : goal.returns-clause-refused
returns-clause-refused g c =
    let taken = c.in_ok-parts.ensures.whole in
    let answered = rw c.deref.ensures.value at c.read_request.ensures in
    refuses g.S.Source.gives g.S.Source.fails ReadsRequest read_request request_fields c.args.source.now c.take_request.new.source _ c.take_request.new.bytes.items answered.0 c.read_request.result taken.0 answered.1 taken.1.fits answered.2

-- no failed call is told after a whole head
pub returns-clause-cause : goal.returns-clause-cause
returns-clause-cause g c = λ is. absurd (never_source read_request request_fields c.read_request.ensures.0 c.read_request.result c.read_request.ensures.2 is)

pub returns-in_err-parts-clause-cause : goal.returns-in_err-parts-clause-cause
returns-in_err-parts-clause-cause g c =
    let p = err_from_is_err_and c.from_residual.result c.from_residual.ensures.1 in
    rw (p.1, p.2) (same_cause _ _ c.in_err-parts.ensures.cause)

-- calls that failed
pub returns-in_err-parts-clause-count : goal.returns-in_err-parts-clause-count
returns-in_err-parts-clause-count g c = c.take_request.ensures.count

pub returns-clause-count : goal.returns-clause-count
returns-clause-count g c = c.take_request.ensures.count

-- the room of the reader
pub take_request-requires : goal.take_request-requires
take_request-requires g c = record {
  bytes = c.args.self.now.bytes_fit;
  spans = omega (arith, c.deref_mut.ensures.len, c.args.self.now.spans_fit);
}

pub invariant_of-self : goal.invariant_of-self
invariant_of-self g c = record {
  bytes_fit = c.take_request.ensures.room;
  spans_fit = c.args.self.now.spans_fit;
}

pub invariant_of-self-2 : goal.invariant_of-self-2
invariant_of-self-2 g c = record {
  bytes_fit = c.take_request.ensures.room;
  spans_fit = c.args.self.now.spans_fit;
}

-- the head that was taken is the one that is read
pub read_request-requires : goal.read_request-requires
read_request-requires g c =
    let kept = with_items_is c.args.self.now.spans c.take_request.new.spans (omega (arith, c.take_request.auto.spans, c.deref_mut.ensures.len)) in
    rw (c.deref.ensures.value, c.deref-2.ensures.value ∙ kept) c.in_ok-parts.ensures.whole.1
