use Rattle.std.proofs.Common.{◌-◌, length, take, drop, [], subst, arith}
use Rattle.std.proofs.lemmas.List.{append-nil}
use Rattle.std.proofs.lemmas.Result.{err_from_is_err_and}
use Rattle.oc_io.proofs.Fronts.{length-rest, next-front, next-within}
use Rattle.oc_io.proofs.writing.write_all.Goals as goal

-- the bytes taken before, and then a call that took none and failed
pub returns-in_err-done-clause-fails : goal.returns-in_err-done-clause-fails
returns-in_err-done-clause-fails g c =
    let front = take c.loop-done.done c.args.bytes.now in
    let failed = g.met.K.Sink.takes_fails c.args.sink.now c.loop-done.sink c.write.new.self front [] c.loop-done.invariant.taken c.in_err-done.ensures.fails in
    let p = err_from_is_err_and c.from_residual.result c.from_residual.ensures.1 in
    rw p.1 (c.loop-done.done, omega arith, subst (λ bytes. g.K.Sink.fails c.args.sink.now bytes c.write.new.self) (append-nil front) failed)

-- the bytes taken before, and the front of the rest that was taken now
pub loop-done-preserved : goal.loop-done-preserved
loop-done-preserved g c =
    let bytes = c.args.bytes.now in
    let done = c.loop-done.done in
    let n = c.in_ok-done.field-0 in
    let more = take n (take (length bytes - done) (drop done bytes)) in
    let both = g.met.K.Sink.takes_then c.args.sink.now c.loop-done.sink c.write.new.self (take done bytes) more c.loop-done.invariant.taken c.in_ok-done.ensures.takes in
    record {
      taken = subst (λ front. g.K.Sink.takes c.args.sink.now front c.write.new.self) (next-front done n bytes) both;
      within = next-within done n bytes c.loop-done.invariant.within c.in_ok-done.ensures.within;
      calls = omega (arith, c.write.ensures.turn, c.loop-done.invariant.calls, c.in_ok-done.ensures.some (omega (arith, length-rest done bytes)));
      count = omega arith;
    }
