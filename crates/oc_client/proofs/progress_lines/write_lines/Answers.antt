use Rattle.std.proofs.Common.{◌≡◌, ℕ, ◌+◌, ◌*◌, ◌-◌, List, sym, subst, arith}
use Rattle.std.proofs.lemmas.Result.{err_from_is_err_and}
use Rattle.oc_client.specs.Lines.{WritesFront, progress_line, lines_after}
use Rattle.oc_client.specs.declared.progress_lines.TheConstants.{PROGRESS_STEP}
use Rattle.oc_client.proofs.Telling.{fails_behind, fails_of_more, line_more, lines_begin}
use Rattle.oc_client.proofs.progress_lines.write_lines.Goals as goal

pub lines-init : goal.lines-init
lines-init g c =
    let none : c.args.done - c.args.done ≡ 0 = omega arith in
    record {
      ahead = omega arith;
      within = c.requires.ahead;
      written = subst (λ (n : ℕ). g.E.Sink.takes c.args.sink.now (lines_after c.args.done n) c.args.sink.now) (sym none) (g.met.E.Sink.takes_nothing c.args.sink.now);
    }

pub lines-preserved : goal.lines-preserved
lines-preserved g c =
    let before = c.lines.invariant in
    let line = c.in_ok-write_line.ensures.written in
    record {
      ahead = omega (arith, before.ahead);
      within = omega (arith, c.lines-test.true);
      written = subst (λ (x : List ℕ). g.E.Sink.takes c.args.sink.now x c.write_line.new.sink) (sym (line_more c.args.done c.lines.at before.ahead))
          (g.met.E.Sink.takes_then _ _ _ _ _ before.written line);
    }

pub returns-in_err-write_line-clause-front : goal.returns-in_err-write_line-clause-front
returns-in_err-write_line-clause-front g c =
    let p = err_from_is_err_and c.from_residual.result c.from_residual.ensures.1 in
    let before = c.lines.invariant in
    let at = c.lines.at in
    let front = fails_behind g.E.Sink.takes g.E.Sink.fails g.met.E.Sink.takes_fails c.args.sink.now c.lines.sink c.write_line.new.sink (lines_after c.args.done (at - c.args.done)) (progress_line ((at + 1) * PROGRESS_STEP)) before.written c.in_err-write_line.ensures.front in
    let to_here = subst (WritesFront g.E.Sink.fails c.args.sink.now c.write_line.new.sink) (sym (line_more c.args.done at before.ahead)) front in
    let more = fails_of_more g.E.Sink.fails c.args.sink.now c.write_line.new.sink (lines_after c.args.done ((at + 1) - c.args.done)) (lines_after (at + 1) (c.args.last - (at + 1))) to_here in
    rw (p.1) (subst (WritesFront g.E.Sink.fails c.args.sink.now c.write_line.new.sink) (sym (lines_begin c.args.done (at + 1) c.args.last (omega (arith, before.ahead)) (omega (arith, c.lines-test.true)))) more)

pub returns-clause-written : goal.returns-clause-written
returns-clause-written g c =
    let before = c.lines.invariant in
    let same : c.lines.at - c.args.done ≡ c.args.last - c.args.done = omega (arith, before.within, c.lines-test.false) in
    subst (λ (n : ℕ). g.E.Sink.takes c.args.sink.now (lines_after c.args.done n) c.lines.sink) same before.written
