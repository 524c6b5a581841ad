-- The contents of the whole head are the answer.
use Rattle.std.proofs.Common.{◌∙◌, arith}
use Rattle.std.proofs.lemmas.List.{with_items_is}
use Rattle.std.proofs.lemmas.Result.{err_from_is_err_and}
use Rattle.httparse.specs.Grammar.{ReadsResponse}
use Rattle.oc_http.specs.Responses.{read_reply_head}
use Rattle.oc_http.proofs.Faults.{same_cause}
use Rattle.oc_http.proofs.Answered.{reply_head_fields, says, refuses, never_source, RefusesHead-stopped}
use Rattle.oc_http.proofs.head_reader.HeadReader.read_response_head.Goals as goal

-- an unfinished head is refused for that
pub returns-in_err-parts-clause-refused : goal.returns-in_err-parts-clause-refused
returns-in_err-parts-clause-refused g c =
    let p = err_from_is_err_and c.from_residual.result c.from_residual.ensures.1 in
    let stopped = c.in_err-parts.ensures.stops in
    rw (p.1, p.2) (stopped.0, stopped.1, RefusesHead-stopped ReadsResponse read_reply_head stopped.0 _ c.in_err-parts.field-0.0 stopped.2)

pub returns-clause-read : goal.returns-clause-read
returns-clause-read g c =
    let taken = c.in_ok-parts.ensures.whole in
    let answered = rw c.deref.ensures.value at c.read_response_head.ensures in
    says g.S.Source.gives ReadsResponse read_reply_head c.args.source.now c.take_response.new.source c.take_response.new.bytes.items answered.0 c.read_response_head.result taken.0 answered.1 taken.1.fits answered.2

pub returns-clause-refused : goal.returns-clause-refused
returns-clause-refused g c =
    let taken = c.in_ok-parts.ensures.whole in
    let answered = rw c.deref.ensures.value at c.read_response_head.ensures in
    refuses g.S.Source.gives g.S.Source.fails ReadsResponse read_reply_head reply_head_fields c.args.source.now c.take_response.new.source _ c.take_response.new.bytes.items answered.0 c.read_response_head.result taken.0 answered.1 taken.1.fits answered.2

-- no failed call is told after a whole head
pub returns-clause-cause : goal.returns-clause-cause
returns-clause-cause g c = λ is. absurd (never_source read_reply_head reply_head_fields c.read_response_head.ensures.0 c.read_response_head.result c.read_response_head.ensures.2 is)

pub returns-in_err-parts-clause-cause : goal.returns-in_err-parts-clause-cause
returns-in_err-parts-clause-cause g c =
    let p = err_from_is_err_and c.from_residual.result c.from_residual.ensures.1 in
    rw (p.1, p.2) (same_cause _ _ c.in_err-parts.ensures.cause)

-- calls that failed
pub returns-in_err-parts-clause-count : goal.returns-in_err-parts-clause-count
returns-in_err-parts-clause-count g c = c.take_response.ensures.count

pub returns-clause-count : goal.returns-clause-count
returns-clause-count g c = c.take_response.ensures.count

-- the room of the reader
pub take_response-requires : goal.take_response-requires
take_response-requires g c = record {
  bytes = c.args.self.now.bytes_fit;
  spans = omega (arith, c.deref_mut.ensures.len, c.args.self.now.spans_fit);
}

pub invariant_of-self : goal.invariant_of-self
invariant_of-self g c = record {
  bytes_fit = c.take_response.ensures.room;
  spans_fit = c.args.self.now.spans_fit;
}

pub invariant_of-self-2 : goal.invariant_of-self-2
invariant_of-self-2 g c = record {
  bytes_fit = c.take_response.ensures.room;
  spans_fit = c.args.self.now.spans_fit;
}

-- the head that was taken is the one that is read
pub read_response_head-requires : goal.read_response_head-requires
read_response_head-requires g c =
    let kept = with_items_is c.args.self.now.spans c.take_response.new.spans (omega (arith, c.take_response.auto.spans, c.deref_mut.ensures.len)) in
    rw (c.deref.ensures.value, c.deref-2.ensures.value ∙ kept) c.in_ok-parts.ensures.whole.1
