use Rattle.std.proofs.Common.{ℕ, ◌≡◌, ◌≤◌, ◌<◌, ◌+◌, List, length, take, ◌++◌, [], ap, subst, arith, length-append}
use Rattle.std.proofs.lemmas.List.{append-nil, length-take-le}
use Rattle.std.proofs.lemmas.Grind.{common_steps}
use Rattle.oc_io.proofs.Counts.{Rose-after}
use Rattle.oc_io.proofs.gathering.read_all.Goals as goal

-- nothing came yet
pub loop-buffer-init : goal.loop-buffer-init
loop-buffer-init g c = record {
  came = rw c.new-bytes.ensures.items (g.met.S.Source.gives_nothing c.args.source.now);
  within = omega arith;
  room = omega (arith, c.in_ok-buffer.ensures);
  calls = omega arith;
  count = omega arith;
}

-- the bytes so far, and then a call without bytes that failed
pub returns-in_err-count-clause-failed : goal.returns-in_err-count-clause-failed
returns-in_err-count-clause-failed g c = λ _.
    let bytes = c.loop-buffer.bytes.items in
    let failed = g.met.S.Source.gives_fails c.args.source.now c.loop-buffer.source c.read.new.self bytes [] c.loop-buffer.invariant.came c.in_err-count.ensures.fails in
    (bytes, subst (λ came. g.S.Source.fails c.args.source.now came c.read.new.self) (append-nil bytes) failed, omega (arith, c.loop-buffer.bytes.ok.0))

pub returns-in_err-count-clause-cause : goal.returns-in_err-count-clause-cause
returns-in_err-count-clause-cause g c = λ _.
    Rose-after _ _ _ c.loop-buffer.invariant.count c.in_err-count.ensures.cause

-- the bytes so far, and then the end
pub returns-then-count-eq0-clause-gives : goal.returns-then-count-eq0-clause-gives
returns-then-count-eq0-clause-gives g c =
    let bytes = c.loop-buffer.bytes.items in
    let nothing = subst (λ n. g.S.Source.gives c.loop-buffer.source (take n c.read.new.buf) c.read.new.self) c.if-count-eq0.true c.in_ok-count.ensures.gives in
    let both = g.met.S.Source.gives_then c.args.source.now c.loop-buffer.source c.read.new.self bytes [] c.loop-buffer.invariant.came nothing in
    subst (λ came. g.S.Source.gives c.args.source.now came c.read.new.self) (append-nil bytes) both

-- the length of the bytes with a prefix of the buffer after them
length-piece : (bytes buffer : List ℕ) (n : ℕ) → n ≤ length buffer → length (bytes ++ take n buffer) ≡ length bytes + n
length-piece bytes buffer n fits =
    omega (arith, length-append bytes (take n buffer), length-take-le n buffer fits)

-- the bytes so far, and more than are allowed
pub returns-then-count-most-clause-too_many : goal.returns-then-count-most-clause-too_many
returns-then-count-most-clause-too_many g c = λ _.
    let bytes = c.loop-buffer.bytes.items in
    let piece = take c.in_ok-count.count c.read.new.buf in
    let both = g.met.S.Source.gives_then c.args.source.now c.loop-buffer.source c.read.new.self bytes piece c.loop-buffer.invariant.came c.in_ok-count.ensures.gives in
    let fits : c.in_ok-count.count ≤ length c.read.new.buf = omega (arith, c.in_ok-count.ensures.within, c.read.auto.buf) in
    let long : c.args.most < length (bytes ++ piece) = omega (arith, length-piece bytes c.read.new.buf c.in_ok-count.count fits, c.loop-buffer.bytes.ok.0) in
    (bytes ++ piece, both, long)

-- the bytes so far, and a piece that is kept
pub loop-buffer-preserved : goal.loop-buffer-preserved
loop-buffer-preserved g c =
    let bytes = c.loop-buffer.bytes.items in
    let piece = take c.in_ok-count.count c.read.new.buf in
    let both = g.met.S.Source.gives_then c.args.source.now c.loop-buffer.source c.read.new.self bytes piece c.loop-buffer.invariant.came c.in_ok-count.ensures.gives in
    let fits : c.in_ok-count.count ≤ length c.read.new.buf = omega (arith, c.in_ok-count.ensures.within, c.read.auto.buf) in
    let grown : bytes ++ piece ≡ c.extend_from_slice.new.self.items = grind (arith, common_steps) in
    record {
      came = subst (λ came. g.S.Source.gives c.args.source.now came c.read.new.self) grown both;
      within = omega (arith, ap length grown, length-piece bytes c.read.new.buf c.in_ok-count.count fits, c.loop-buffer.bytes.ok.0, c.extend_from_slice.new.self.ok.0);
      room = omega arith;
      calls = omega (arith, ap length grown, length-piece bytes c.read.new.buf c.in_ok-count.count fits, c.loop-buffer.bytes.ok.0, c.extend_from_slice.new.self.ok.0, c.read.ensures.turn, c.loop-buffer.invariant.calls);
      count = omega arith;
    }

-- the bytes so far, and a piece for which there was no memory
pub returns-in_err-extend_from_slice-clause-memory : goal.returns-in_err-extend_from_slice-clause-memory
returns-in_err-extend_from_slice-clause-memory g c = λ _.
    let bytes = c.loop-buffer.bytes.items in
    let piece = take c.in_ok-count.count c.read.new.buf in
    let both = g.met.S.Source.gives_then c.args.source.now c.loop-buffer.source c.read.new.self bytes piece c.loop-buffer.invariant.came c.in_ok-count.ensures.gives in
    let fits : c.in_ok-count.count ≤ length c.read.new.buf = omega (arith, c.in_ok-count.ensures.within, c.read.auto.buf) in
    let long : length (bytes ++ piece) ≤ c.args.most = omega (arith, length-piece bytes c.read.new.buf c.in_ok-count.count fits, c.loop-buffer.bytes.ok.0) in
    (bytes ++ piece, both, long)
