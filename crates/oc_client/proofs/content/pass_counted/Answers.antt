use Rattle.std.proofs.Common.{◌≡◌, ◌+◌, ◌-◌, ◌≤◌, length, take, subst, arith}
use Rattle.std.proofs.lemmas.List.{length-take}
use Rattle.std.proofs.lemmas.Result.{err_from_is_err_and}
use Rattle.oc_client.specs.Passing.{IsMoved}
use Rattle.oc_client.proofs.Moving.{moved_then, moved_halted, halted_within, counted_halted, counted_ended}
use Rattle.oc_client.proofs.content.pass_counted.Goals as goal

pub returns-in_err-moved-clause-stopped : goal.returns-in_err-moved-clause-stopped
returns-in_err-moved-clause-stopped g c =
    let p = err_from_is_err_and c.from_residual.result c.from_residual.ensures.1 in
    let most = length (take c.min-most.result c.pieces.buffer) in
    let halted = moved_halted g.S.Source.gives g.S.Source.fails g.K.Sink.takes g.K.Sink.fails g.met.S.Source.gives_then g.met.S.Source.gives_fails g.met.K.Sink.takes_then g.met.K.Sink.takes_fails c.args.source.now c.pieces.source c.move_piece.new.source c.args.sink.now c.pieces.sink c.move_piece.new.sink (c.args.count - c.pieces.left) most c.in_err-moved.field-0.0 c.pieces.invariant.moved c.in_err-moved.ensures.halted in
    let fits : (c.args.count - c.pieces.left) + most ≤ c.args.count = omega (arith, length-take c.min-most.result c.pieces.buffer, c.min-most.ensures, c.pieces.invariant.within) in
    rw (p.1, p.2) (counted_halted g.S.Source.gives g.S.Source.fails g.S.Source.ended g.K.Sink.takes g.K.Sink.fails c.args.count c.args.source.now c.move_piece.new.source c.args.sink.now c.move_piece.new.sink _ (halted_within g.S.Source.gives g.S.Source.fails g.K.Sink.takes g.K.Sink.fails _ c.args.count _ _ _ _ _ fits halted))

pub returns-then-moved-eq0-clause-stopped : goal.returns-then-moved-eq0-clause-stopped
returns-then-moved-eq0-clause-stopped g c =
    let moved = moved_then g.S.Source.gives g.K.Sink.takes g.met.S.Source.gives_then g.met.K.Sink.takes_then c.args.source.now c.pieces.source c.move_piece.new.source c.args.sink.now c.pieces.sink c.move_piece.new.sink (c.args.count - c.pieces.left) c.in_ok-moved.moved c.pieces.invariant.moved c.in_ok-moved.ensures.moved in
    counted_ended g.S.Source.gives g.S.Source.fails g.S.Source.ended g.K.Sink.takes g.K.Sink.fails c.args.count c.args.source.now c.move_piece.new.source c.args.sink.now c.move_piece.new.sink _ moved (omega (arith, c.if-moved-eq0.true)) (c.in_ok-moved.ensures.end c.if-moved-eq0.true)

pub pieces-preserved : goal.pieces-preserved
pieces-preserved g c =
    let moved = moved_then g.S.Source.gives g.K.Sink.takes g.met.S.Source.gives_then g.met.K.Sink.takes_then c.args.source.now c.pieces.source c.move_piece.new.source c.args.sink.now c.pieces.sink c.move_piece.new.sink (c.args.count - c.pieces.left) c.in_ok-moved.moved c.pieces.invariant.moved c.in_ok-moved.ensures.moved in
    let within : c.in_ok-moved.moved ≤ c.pieces.left = omega (arith, length-take c.min-most.result c.pieces.buffer, c.min-most.ensures, c.in_ok-moved.ensures.within) in
    let counts : (c.args.count - c.pieces.left) + c.in_ok-moved.moved ≡ c.args.count - (c.pieces.left - c.in_ok-moved.moved) = omega (arith, within, c.pieces.invariant.within) in
    record {
      moved = subst (λ n. IsMoved g.S.Source.gives g.K.Sink.takes c.args.source.now c.move_piece.new.source c.args.sink.now c.move_piece.new.sink n) counts moved;
      within = omega (arith, c.pieces.invariant.within);
      source_count = omega arith;
      sink_count = omega arith;
    }
