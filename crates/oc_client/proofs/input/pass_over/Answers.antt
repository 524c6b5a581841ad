use Rattle.std.proofs.Common.{rules, ◌≡◌, ◌≤◌, [], ◌++◌, length, take, arith, length-append}
use Rattle.std.proofs.lemmas.List.{length-take, length-take-le}
use Rattle.oc_client.proofs.input.pass_over.Goals as goal

pub returns-in_default-clause-passes : goal.returns-in_default-clause-passes
returns-in_default-clause-passes g c =
    let before = c.pieces.invariant in (
      before.bytes ++ [],
      g.met.S.Source.gives_fails c.args.input.now c.pieces.input c.read.new.self before.bytes [] before.came c.in_default.ensures.fails,
      omega (arith, before.all, c.pieces-test.true, length-append before.bytes []),
    )

pub returns-then-passed-eq0-clause-passes : goal.returns-then-passed-eq0-clause-passes
returns-then-passed-eq0-clause-passes g c =
    let before = c.pieces.invariant in
    let part = take c.in-Ok.passed c.read.new.buf in
    let inside : c.in-Ok.passed ≤ length c.read.new.buf = omega (arith, c.in-Ok.ensures.within, c.read.auto.buf) in
    let long : length part ≡ c.in-Ok.passed = length-take-le c.in-Ok.passed c.read.new.buf inside in (
      before.bytes ++ part,
      g.met.S.Source.gives_then c.args.input.now c.pieces.input c.read.new.self before.bytes part before.came c.in-Ok.ensures.gives,
      omega (arith, before.all, c.pieces-test.true, length-append before.bytes part, long, c.if-passed-eq0.true),
      c.in-Ok.ensures.end c.if-passed-eq0.true (omega (arith, length-take c.min-most.result c.pieces.buffer, c.pieces-test.true, before.room)),
    )

pub pieces-preserved : goal.pieces-preserved
pieces-preserved g c =
    let before = c.pieces.invariant in
    let part = take c.in-Ok.passed c.read.new.buf in
    let inside : c.in-Ok.passed ≤ length c.read.new.buf = omega (arith, c.in-Ok.ensures.within, c.read.auto.buf) in
    let long : length part ≡ c.in-Ok.passed = length-take-le c.in-Ok.passed c.read.new.buf inside in
    record {
      bytes = before.bytes ++ part;
      came = g.met.S.Source.gives_then c.args.input.now c.pieces.input c.read.new.self before.bytes part before.came c.in-Ok.ensures.gives;
      all = omega (arith, before.all, long, length-append before.bytes part, c.in-Ok.ensures.within, length-take c.min-most.result c.pieces.buffer);
      room = search rules;
      count = omega (arith, before.count, c.read.ensures.count);
    }
