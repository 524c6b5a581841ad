use Rattle.std.proofs.Common.{List, ℕ, [], ◌+◌, length, take, get_or, subst, inr, arith}
use Rattle.std.specs.Borrow.{Bor}
use Rattle.oc_io.proofs.Counts.{Rose-after}
use Rattle.oc_http.specs.Parts.{joined}
use Rattle.oc_http.proofs.Parts.{joined_more}
use Rattle.oc_io.specs.Faults.{Rose}
use Rattle.oc_replay.specs.Pieces.{SomeFront}
use Rattle.oc_commands.proofs.Parts.{joined_front, on_err}
use Rattle.oc_commands.proofs.telling.write_parts.Goals as goal

-- the part after the last one
abbrev no_part : Bor (List ℕ)
no_part = record { ref_ptr = (0, 0); now = [] }

pub returns-in_err-write_all-clause-told : goal.returns-in_err-write_all-clause-told
returns-in_err-write_all-clause-told g c =
    let parts : List (Bor (List ℕ)) = c.args.parts.now in
    let i : ℕ = c.loop-part.part-index in
    let before : List ℕ = joined (take i parts) in
    let (n, few, fails) = c.in_err-write_all.ensures.fails in
    inr (
      ((
        length before + n,
        subst (λ (l : List ℕ). g.K.Sink.fails c.args.sink.now l c.write_all.new.sink) (joined_front parts i n no_part c.loop-part-test.true few)
            (g.met.K.Sink.takes_fails c.args.sink.now c.loop-part.sink c.write_all.new.sink before (take n (get_or parts i no_part).now) c.loop-part.invariant.taken fails),
      )),
      Rose-after (g.K.Sink.faults c.args.sink.now) (g.K.Sink.faults c.loop-part.sink) (g.K.Sink.faults c.write_all.new.sink) c.loop-part.invariant.count c.in_err-write_all.ensures.cause,
    )

pub returns-in_err-write_all-clause-fails : goal.returns-in_err-write_all-clause-fails
returns-in_err-write_all-clause-fails g c =
    let parts : List (Bor (List ℕ)) = c.args.parts.now in
    let i : ℕ = c.loop-part.part-index in
    let before : List ℕ = joined (take i parts) in
    let (n, few, fails) = c.in_err-write_all.ensures.fails in
    on_err c.from_residual.result (SomeFront (joined parts) (λ front. g.K.Sink.fails c.args.sink.now front c.write_all.new.sink)) (
      length before + n,
      subst (λ (l : List ℕ). g.K.Sink.fails c.args.sink.now l c.write_all.new.sink) (joined_front parts i n no_part c.loop-part-test.true few)
          (g.met.K.Sink.takes_fails c.args.sink.now c.loop-part.sink c.write_all.new.sink before (take n (get_or parts i no_part).now) c.loop-part.invariant.taken fails),
    )

pub returns-in_err-write_all-clause-cause : goal.returns-in_err-write_all-clause-cause
returns-in_err-write_all-clause-cause g c =
    on_err c.from_residual.result (Rose (g.K.Sink.faults c.args.sink.now) (g.K.Sink.faults c.write_all.new.sink))
    (Rose-after (g.K.Sink.faults c.args.sink.now) (g.K.Sink.faults c.loop-part.sink) (g.K.Sink.faults c.write_all.new.sink) c.loop-part.invariant.count c.in_err-write_all.ensures.cause)

pub loop-part-preserved : goal.loop-part-preserved
loop-part-preserved g c =
    let parts : List (Bor (List ℕ)) = c.args.parts.now in
    let i : ℕ = c.loop-part.part-index in record {
      taken = subst (λ (l : List ℕ). g.K.Sink.takes c.args.sink.now l c.write_all.new.sink) (joined_more parts i no_part c.loop-part-test.true)
          (g.met.K.Sink.takes_then c.args.sink.now c.loop-part.sink c.write_all.new.sink (joined (take i parts)) (get_or parts i no_part).now c.loop-part.invariant.taken c.in_ok-write_all.ensures.takes);
      count = omega (arith, c.loop-part.invariant.count, c.write_all.ensures.count);
    }
