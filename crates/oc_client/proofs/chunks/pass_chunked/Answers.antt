use Rattle.std.proofs.Common.{◌+◌, ◌<◌, ◌≤◌, ℕ, List, [], length, take, sym, ap, ◌∙◌, subst, arith, length-append}
use Rattle.std.proofs.lemmas.Result.{err_from_is_err_and}
use Rattle.oc_client.proofs.ChunkSteps.{passed_then, passed_put, passed_whole, passed_ends, passed_starved, passed_too_long, passed_unsent, still, wanted_none, wanted_some}
use Rattle.oc_client.proofs.chunks.pass_chunked.Goals as goal
use Rattle.oc_client.specs.Chunks.{EndsWritten, IsPut}
use Rattle.oc_client.specs.declared.reply_framing.TheConstants.{MAX_OPEN_BYTES}
use Rattle.oc_io.proofs.Counts.{Rose-after}

pub returns-in_err-last-clause-stopped : goal.returns-in_err-last-clause-stopped
returns-in_err-last-clause-stopped g c =
    let p = err_from_is_err_and c.from_residual-in_err-last.result c.from_residual-in_err-last.ensures.1 in
    let unsent = c.in_err-last.ensures.unsent in
    let of_content = subst (λ (xs : List ℕ). g.K.Sink.fails c.pieces.sink (take unsent.0 xs) c.put.new.sink) c.deref.ensures.value unsent.1 in
    rw (p.1, p.2, c.in_err-last.ensures.end) (passed_unsent g.S.Source.gives g.S.Source.fails g.S.Source.ended g.K.Sink.takes g.K.Sink.fails g.met.K.Sink.takes_fails c.args.source.now c.pieces.source c.args.sink.now c.pieces.sink c.put.new.sink c.pieces.unchunker c.pieces.passed c.pieces.content.items unsent.0 c.pieces.invariant.has of_content)

pub returns-then-wanted-eq0-clause-passed : goal.returns-then-wanted-eq0-clause-passed
returns-then-wanted-eq0-clause-passed g c =
    let put = subst (λ (xs : List ℕ). IsPut g.K.Sink.takes c.pieces.sink c.put.new.sink xs [] c.in_ok-last.last) c.deref.ensures.value c.in_ok-last.ensures.put in
    let has = passed_put g.S.Source.gives g.K.Sink.takes g.met.K.Sink.takes_then c.args.source.now c.pieces.source c.args.sink.now c.pieces.sink c.put.new.sink c.pieces.unchunker c.pieces.passed c.in_ok-last.last c.pieces.content.items [] c.pieces.invariant.has put in
    let split = ap length put.split in
    let fits : c.pieces.passed + c.in_ok-last.last ≤ MAX_OPEN_BYTES = omega (arith, c.pieces.invariant.within, put.long, split, length-append put.written []) in
    passed_whole g.S.Source.gives g.S.Source.ended g.K.Sink.takes c.args.source.now c.pieces.source c.args.sink.now c.put.new.sink c.pieces.unchunker (c.pieces.passed + c.in_ok-last.last) has fits (wanted_none c.pieces.unchunker (sym c.wanted-wanted.ensures.said ∙ c.if-wanted-eq0.true))

pub returns-in-Err-clause-stopped : goal.returns-in-Err-clause-stopped
returns-in-Err-clause-stopped g c =
    let written = subst (λ (xs : List ℕ). EndsWritten g.K.Sink.takes g.K.Sink.fails c.pieces.sink c.put_before.new.sink xs c.in-Err.end c.put_before.result) (c.deref-in-Err.ensures.value ∙ c.in-Err.ensures.unused) c.put_before.ensures.written in
    passed_ends g.S.Source.gives g.S.Source.fails g.S.Source.ended g.K.Sink.takes g.K.Sink.fails g.met.S.Source.gives_then g.met.S.Source.gives_fails g.met.K.Sink.takes_then g.met.K.Sink.takes_fails c.args.source.now c.pieces.source c.take_piece.new.source c.args.sink.now c.pieces.sink c.put_before.new.sink c.pieces.unchunker c.pieces.passed c.pieces.content.items c.in-Err.end c.put_before.result c.pieces.invariant.has (wanted_some c.pieces.unchunker (omega (arith, c.wanted-wanted.ensures.said, c.if-wanted-eq0.false))) c.in-Err.ensures.stops written

pub returns-then-len-passed-clause-stopped : goal.returns-then-len-passed-clause-stopped
returns-then-len-passed-clause-stopped g c =
    let came = c.in_default.ensures.takes in
    let content = c.take_piece.new.content.items in
    let has = passed_then g.S.Source.gives g.K.Sink.takes g.met.S.Source.gives_then c.args.source.now c.pieces.source c.take_piece.new.source c.args.sink.now c.pieces.sink c.pieces.unchunker c.take_piece.new.unchunker c.pieces.passed c.pieces.content.items came.0 content c.pieces.invariant.has came.1 came.2 in
    let long : MAX_OPEN_BYTES < c.pieces.passed + length content = omega (arith, c.len.ensures, c.if-len-passed.true, c.pieces.invariant.within, c.take_piece.new.content.ok.0) in
    passed_too_long g.S.Source.gives g.S.Source.fails g.S.Source.ended g.K.Sink.takes g.K.Sink.fails c.args.source.now c.take_piece.new.source c.args.sink.now c.pieces.sink c.take_piece.new.unchunker c.pieces.passed content has long

pub returns-in_err-passed-clause-stopped : goal.returns-in_err-passed-clause-stopped
returns-in_err-passed-clause-stopped g c =
    let p = err_from_is_err_and c.from_residual-in_err-passed.result c.from_residual-in_err-passed.ensures.1 in
    let came = c.in_default.ensures.takes in
    let content = c.take_piece.new.content.items in
    let has = passed_then g.S.Source.gives g.K.Sink.takes g.met.S.Source.gives_then c.args.source.now c.pieces.source c.take_piece.new.source c.args.sink.now c.pieces.sink c.pieces.unchunker c.take_piece.new.unchunker c.pieces.passed c.pieces.content.items came.0 content c.pieces.invariant.has came.1 came.2 in
    let unsent = c.in_err-passed.ensures.unsent in
    rw (p.1, p.2, c.in_err-passed.ensures.end) (passed_unsent g.S.Source.gives g.S.Source.fails g.S.Source.ended g.K.Sink.takes g.K.Sink.fails g.met.K.Sink.takes_fails c.args.source.now c.take_piece.new.source c.args.sink.now c.pieces.sink c.put_piece.new.sink c.take_piece.new.unchunker c.pieces.passed content unsent.0 has unsent.1)

pub pieces-preserved : goal.pieces-preserved
pieces-preserved g c =
    let came = c.in_default.ensures.takes in
    let content = c.take_piece.new.content.items in
    let has = passed_then g.S.Source.gives g.K.Sink.takes g.met.S.Source.gives_then c.args.source.now c.pieces.source c.take_piece.new.source c.args.sink.now c.pieces.sink c.pieces.unchunker c.take_piece.new.unchunker c.pieces.passed c.pieces.content.items came.0 content c.pieces.invariant.has came.1 came.2 in
    let put = c.in_ok-passed.ensures.put in
    let left = c.put_piece.new.content.items in
    let split = ap length put.split in
    record {
      has = passed_put g.S.Source.gives g.K.Sink.takes g.met.K.Sink.takes_then c.args.source.now c.take_piece.new.source c.args.sink.now c.pieces.sink c.put_piece.new.sink c.take_piece.new.unchunker c.pieces.passed c.in_ok-passed.field-0 content left has put;
      within = omega (arith, c.len.ensures, c.if-len-passed.false, c.take_piece.new.content.ok.0, c.pieces.invariant.within, put.long, split, length-append put.written left);
      short = c.in_ok-passed.ensures.short;
      source_count = still _ _ _ c.pieces.invariant.source_count c.in_default.ensures.count;
      sink_count = still _ _ _ c.pieces.invariant.sink_count c.in_ok-passed.ensures.count;
    }

pub returns-clause-stopped : goal.returns-clause-stopped
returns-clause-stopped g c =
    passed_starved g.S.Source.gives g.S.Source.fails g.S.Source.ended g.K.Sink.takes g.K.Sink.fails c.args.source.now c.pieces.source c.args.sink.now c.pieces.sink c.pieces.unchunker c.pieces.passed c.pieces.content.items c.pieces.invariant.has

-- The counts of faults

pub returns-in_err-last-clause-sink_count : goal.returns-in_err-last-clause-sink_count
returns-in_err-last-clause-sink_count g c = still _ _ _ c.pieces.invariant.sink_count c.in_err-last.ensures.count

pub returns-in_err-last-clause-sink_cause : goal.returns-in_err-last-clause-sink_cause
returns-in_err-last-clause-sink_cause g c = λ _. Rose-after _ _ _ c.pieces.invariant.sink_count c.in_err-last.ensures.cause

pub returns-then-wanted-eq0-clause-sink_count : goal.returns-then-wanted-eq0-clause-sink_count
returns-then-wanted-eq0-clause-sink_count g c = still _ _ _ c.pieces.invariant.sink_count c.in_ok-last.ensures.count

pub returns-in-Err-clause-source_count : goal.returns-in-Err-clause-source_count
returns-in-Err-clause-source_count g c = still _ _ _ c.pieces.invariant.source_count c.in-Err.ensures.count

pub returns-in-Err-clause-sink_count : goal.returns-in-Err-clause-sink_count
returns-in-Err-clause-sink_count g c = still _ _ _ c.pieces.invariant.sink_count c.put_before.ensures.count

pub returns-then-len-passed-clause-source_count : goal.returns-then-len-passed-clause-source_count
returns-then-len-passed-clause-source_count g c = still _ _ _ c.pieces.invariant.source_count c.in_default.ensures.count

pub returns-in_err-passed-clause-source_count : goal.returns-in_err-passed-clause-source_count
returns-in_err-passed-clause-source_count g c = still _ _ _ c.pieces.invariant.source_count c.in_default.ensures.count

pub returns-in_err-passed-clause-sink_count : goal.returns-in_err-passed-clause-sink_count
returns-in_err-passed-clause-sink_count g c = still _ _ _ c.pieces.invariant.sink_count c.in_err-passed.ensures.count

pub returns-in_err-passed-clause-sink_cause : goal.returns-in_err-passed-clause-sink_cause
returns-in_err-passed-clause-sink_cause g c = λ _. Rose-after _ _ _ c.pieces.invariant.sink_count c.in_err-passed.ensures.cause
