use Rattle.std.proofs.Common.{◌≡◌, ◌+◌, length, subst, arith}
use Rattle.std.proofs.lemmas.Result.{err_from_is_err_and}
use Rattle.oc_client.specs.Passing.{IsMoved}
use Rattle.oc_client.proofs.Moving.{moved_then, moved_halted, open_halted, open_ended, open_passed}
use Rattle.oc_client.proofs.content.pass_open.Goals as goal

pub returns-in_err-moved-clause-stopped : goal.returns-in_err-moved-clause-stopped
returns-in_err-moved-clause-stopped g c =
    let p = err_from_is_err_and c.from_residual.result c.from_residual.ensures.1 in
    let halted = moved_halted g.S.Source.gives g.S.Source.fails g.K.Sink.takes g.K.Sink.fails g.met.S.Source.gives_then g.met.S.Source.gives_fails g.met.K.Sink.takes_then g.met.K.Sink.takes_fails c.args.source.now c.pieces.source c.move_piece.new.source c.args.sink.now c.pieces.sink c.move_piece.new.sink c.pieces.moved_bytes (length c.pieces.buffer) c.in_err-moved.field-0.0 c.pieces.invariant.moved c.in_err-moved.ensures.halted in
    rw (p.1, p.2) (open_halted g.S.Source.gives g.S.Source.fails g.S.Source.ended g.K.Sink.takes g.K.Sink.fails _ c.args.source.now c.move_piece.new.source c.args.sink.now c.move_piece.new.sink _ halted)

pub returns-then-moved-eq0-clause-passed : goal.returns-then-moved-eq0-clause-passed
returns-then-moved-eq0-clause-passed g c =
    let moved = moved_then g.S.Source.gives g.K.Sink.takes g.met.S.Source.gives_then g.met.K.Sink.takes_then c.args.source.now c.pieces.source c.move_piece.new.source c.args.sink.now c.pieces.sink c.move_piece.new.sink c.pieces.moved_bytes c.in_ok-moved.moved c.pieces.invariant.moved c.in_ok-moved.ensures.moved in
    let counts : c.pieces.moved_bytes + c.in_ok-moved.moved ≡ c.pieces.moved_bytes = omega (arith, c.if-moved-eq0.true) in
    open_ended g.S.Source.gives g.S.Source.ended g.K.Sink.takes c.args.source.now c.move_piece.new.source c.args.sink.now c.move_piece.new.sink _
    (subst (λ n. IsMoved g.S.Source.gives g.K.Sink.takes c.args.source.now c.move_piece.new.source c.args.sink.now c.move_piece.new.sink n) counts moved) c.pieces.invariant.within (c.in_ok-moved.ensures.end c.if-moved-eq0.true)

pub returns-then-moved-moved_bytes-clause-stopped : goal.returns-then-moved-moved_bytes-clause-stopped
returns-then-moved-moved_bytes-clause-stopped g c =
    let moved = moved_then g.S.Source.gives g.K.Sink.takes g.met.S.Source.gives_then g.met.K.Sink.takes_then c.args.source.now c.pieces.source c.move_piece.new.source c.args.sink.now c.pieces.sink c.move_piece.new.sink c.pieces.moved_bytes c.in_ok-moved.moved c.pieces.invariant.moved c.in_ok-moved.ensures.moved in
    open_passed g.S.Source.gives g.S.Source.fails g.S.Source.ended g.K.Sink.takes g.K.Sink.fails c.args.source.now c.move_piece.new.source c.args.sink.now c.move_piece.new.sink _ moved (omega (arith, c.if-moved-moved_bytes.true, c.pieces.invariant.within))

pub pieces-preserved : goal.pieces-preserved
pieces-preserved g c =
    let moved = moved_then g.S.Source.gives g.K.Sink.takes g.met.S.Source.gives_then g.met.K.Sink.takes_then c.args.source.now c.pieces.source c.move_piece.new.source c.args.sink.now c.pieces.sink c.move_piece.new.sink c.pieces.moved_bytes c.in_ok-moved.moved c.pieces.invariant.moved c.in_ok-moved.ensures.moved in
    record {
      moved = moved;
      within = omega arith;
      source_count = omega arith;
      sink_count = omega arith;
    }
