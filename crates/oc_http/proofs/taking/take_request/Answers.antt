-- At the end of each line of the head of a request.
use Rattle.std.proofs.Common.{ℕ, List, length, subst, sym, ap, Result, Err, arith}
use Rattle.std.proofs.lemmas.Result.{err_from_is_err_and}
use Rattle.httparse.specs.declared.Error.{Error}
use Rattle.httparse.specs.declared.Status.{Status}
use Rattle.httparse.specs.declared.spans.RequestSpans.{RequestSpans}
use Rattle.oc_http.proofs.Heads.{IsUnfinished-none}
use Rattle.oc_http.proofs.Forms.{request_form}
use Rattle.oc_http.proofs.Faults.{Rose-later, same_cause}
use Rattle.oc_http.proofs.LineEnds.{longer}
use Rattle.oc_http.proofs.Stops.{Joins, cut_head}
use Rattle.oc_http.proofs.TakenRequests.{taken_request, open_request, hopeless_request}
use Rattle.oc_http.proofs.taking.take_request.Goals as goal

pub lines-init : goal.lines-init
lines-init g c = rw c.clear.ensures.items (record {
  came = g.met.S.Source.gives_nothing c.args.source.now;
  unfinished = IsUnfinished-none request_form;
  fits = omega arith;
  room = omega arith;
  spans = c.requires.spans;
  count = omega arith;
})

pub returns-in_err-take_line-clause-stops : goal.returns-in_err-take_line-clause-stops
returns-in_err-take_line-clause-stops g c =
    let p = err_from_is_err_and c.from_residual.result c.from_residual.ensures.1 in
    let joins : Joins g.S.Source.gives g.S.Source.fails = record { both = g.met.S.Source.gives_then; last = g.met.S.Source.gives_fails } in
    let cut = cut_head joins request_form c.args.source.now c.lines.source c.take_line.new.source c.lines.bytes.items _ c.lines.invariant.came c.lines.invariant.unfinished c.in_err-take_line.field-0.0 c.in_err-take_line.ensures.cut in
    rw (p.1, p.2) (cut.taken, cut.took, cut.stops)

pub returns-in-Ok-Complete-clause-whole : goal.returns-in-Ok-Complete-clause-whole
returns-in-Ok-Complete-clause-whole g c =
    let bytes = c.take_line.new.bytes.items in
    let before = c.lines.invariant in
    let line = c.in_ok-take_line.ensures.line in
    let found = rw c.in-Ok-Complete.field-0-is at c.in-Ok-Complete.ensures in
    let came = g.met.S.Source.gives_then c.args.source.now c.lines.source c.take_line.new.source c.lines.bytes.items _ before.came line.came in (
      subst (λ (x : List ℕ). g.S.Source.gives c.args.source.now x c.take_line.new.source) (sym line.grown) came,
      taken_request bytes c.lines.bytes.items line.line c.parse_request.new.headers c.in-Ok-Complete.parts line.grown before.unfinished line.one line.fits (rw c.deref.ensures.value at found.within) (rw c.deref.ensures.value at found.complete),
    )

pub lines-preserved : goal.lines-preserved
lines-preserved g c =
    let bytes = c.take_line.new.bytes.items in
    let before = c.lines.invariant in
    let line = c.in_ok-take_line.ensures.line in
    let found = rw c.in-Ok-Partial.field-0-is at c.in-Ok-Partial.ensures in
    let came = g.met.S.Source.gives_then c.args.source.now c.lines.source c.take_line.new.source c.lines.bytes.items _ before.came line.came in
    record {
      came = subst (λ (x : List ℕ). g.S.Source.gives c.args.source.now x c.take_line.new.source) (sym line.grown) came;
      unfinished = open_request bytes c.lines.bytes.items line.line line.grown (rw c.deref.ensures.value at found.partial) (rw c.deref.ensures.value at found.unfinished);
      fits = omega (arith, line.fits, c.take_line.new.bytes.ok.0);
      room = c.take_line.ensures.room;
      spans = omega (arith, before.spans);
      count = omega arith;
    }

pub returns-in-Err-clause-stops : goal.returns-in-Err-clause-stops
returns-in-Err-clause-stops g c =
    let bytes = c.take_line.new.bytes.items in
    let before = c.lines.invariant in
    let line = c.in_ok-take_line.ensures.line in
    let came = g.met.S.Source.gives_then c.args.source.now c.lines.source c.take_line.new.source c.lines.bytes.items _ before.came line.came in
    let failed = λ (e : Error). let r : Result (Status RequestSpans) Error = Err e in r in (
      bytes,
      subst (λ (x : List ℕ). g.S.Source.gives c.args.source.now x c.take_line.new.source) (sym line.grown) came,
      (
        hopeless_request bytes c.lines.bytes.items line.line (length c.lines.spans) c.in-Err.field-0 line.grown before.unfinished line.one line.fits before.spans (rw c.deref.ensures.value at c.in-Err.ensures.invalid) (λ same. (rw c.deref.ensures.value at c.in-Err.ensures.too_many) (ap failed same)),
        line.fits,
      ),
    )

pub lines-smaller : goal.lines-smaller
lines-smaller g c =
    let line = c.in_ok-take_line.ensures.line in
    omega (arith, longer c.lines.bytes.items line.line c.take_line.new.bytes.items line.grown, c.lines.bytes.ok.0, c.take_line.new.bytes.ok.0, line.fits)

pub take_line-requires : goal.take_line-requires
take_line-requires g c = record { short = c.lines.invariant.fits; room = c.lines.invariant.room }

-- the room stays
pub returns-in_err-take_line-clause-room : goal.returns-in_err-take_line-clause-room
returns-in_err-take_line-clause-room g c = c.take_line.ensures.room

pub returns-in-Ok-Complete-clause-room : goal.returns-in-Ok-Complete-clause-room
returns-in-Ok-Complete-clause-room g c = c.take_line.ensures.room

pub returns-in-Err-clause-room : goal.returns-in-Err-clause-room
returns-in-Err-clause-room g c = c.take_line.ensures.room

-- calls that failed
pub returns-in_err-take_line-clause-count : goal.returns-in_err-take_line-clause-count
returns-in_err-take_line-clause-count g c = omega (arith, c.lines.invariant.count, c.take_line.ensures.count)

pub returns-in-Ok-Complete-clause-count : goal.returns-in-Ok-Complete-clause-count
returns-in-Ok-Complete-clause-count g c = omega (arith, c.lines.invariant.count, c.take_line.ensures.count)

pub returns-in-Err-clause-count : goal.returns-in-Err-clause-count
returns-in-Err-clause-count g c = omega (arith, c.lines.invariant.count, c.take_line.ensures.count)

pub returns-in_err-take_line-clause-cause : goal.returns-in_err-take_line-clause-cause
returns-in_err-take_line-clause-cause g c =
    let p = err_from_is_err_and c.from_residual.result c.from_residual.ensures.1 in
    rw (p.1, p.2) (λ is. Rose-later _ _ _ c.lines.invariant.count (same_cause _ _ c.in_err-take_line.ensures.cause is))

pub returns-in-Err-clause-cause : goal.returns-in-Err-clause-cause
returns-in-Err-clause-cause g c = λ is. cc
