use Rattle.std.proofs.Common.{◌≡◌, ◌≤◌, ℕ, true, false, Err, List, [], ◌∷◌, ◌++◌, inl, inr, length, refl, sym, ap, ◌∙◌, subst, arith, append-nil}
use Rattle.std.proofs.lemmas.Result.{err_from_is_err_and}
use Rattle.oc_io.proofs.Counts.{Rose-after}
use Rattle.oc_client.specs.Jobs.{goal_of}
use Rattle.oc_client.specs.Places.{least_piece}
use Rattle.oc_client.specs.Publishing.{joined}
use Rattle.oc_client.specs.declared.put_end.PutEnd.TheVariants as ends
use Rattle.oc_client.proofs.Carried.{least_some, not_nil, no_bytes, refuses_of_turns, came_of_turns}
use Rattle.oc_client.proofs.Lines.{Laws, grew_none, grew_then, grew_piece, told_cut, told_front}
use Rattle.oc_client.proofs.Pieces.{carried_none, carried_more, carried_all, carried_last, cut_between, refused_at}
use Rattle.oc_client.proofs.Published.{Joins, refused_no_input}
use Rattle.oc_client.specs.PutRequests.{bytes}
use Rattle.oc_client.proofs.publishing.carry.Goals as goal

pub pieces-init : goal.pieces-init
pieces-init g c =
    let laws : Laws g.E.Sink.takes g.E.Sink.fails = record { none = g.met.E.Sink.takes_nothing; both = g.met.E.Sink.takes_then; last = g.met.E.Sink.takes_fails } in record {
      pieces = [];
      has = carried_none g.S.Source.gives g.met.S.Source.gives_nothing c.args.job.now.plan (goal_of c.args.job.now) c.args.found (g.L.Dialler.story c.args.link.now) c.args.input.now;
      first = λ e. (sym c.sends_empty-may_be_empty.ensures ∙ e, refl);
      later = λ e. inl (sym c.sends_empty-may_be_empty.ensures ∙ e);
      grew = grew_none g.E.Sink.takes g.E.Sink.fails laws c.args.aside.now.lines;
      link_count = omega arith;
      input_count = omega arith;
    }

-- no next piece comes

pub returns-in_err-piece-clause-stopped : goal.returns-in_err-piece-clause-stopped
returns-in_err-piece-clause-stopped g c =
    let p = err_from_is_err_and c.from_residual.result c.from_residual.ensures.1 in
    let before = c.pieces.invariant in
    rw (p.1, p.2) (inl (cut_between g.S.Source.gives g.S.Source.fails g.met.S.Source.gives_then g.met.S.Source.gives_fails c.args.job.now.plan (goal_of c.args.job.now) c.args.found c.pieces.reached (g.L.Dialler.story c.args.link.now) (g.L.Dialler.story c.pieces.link) c.args.input.now c.pieces.input c.next_piece.new.input before.pieces c.in_err-piece.field-0.0 before.has c.in_err-piece.ensures.cut))

pub returns-in_err-piece-clause-link_count : goal.returns-in_err-piece-clause-link_count
returns-in_err-piece-clause-link_count g c = c.pieces.invariant.link_count

pub returns-in_err-piece-clause-input_count : goal.returns-in_err-piece-clause-input_count
returns-in_err-piece-clause-input_count g c = omega (arith, c.pieces.invariant.input_count, c.next_piece.ensures.count)

pub returns-in_err-piece-clause-input_cause : goal.returns-in_err-piece-clause-input_cause
returns-in_err-piece-clause-input_cause g c = λ e.
    let p = err_from_is_err_and c.from_residual.result c.from_residual.ensures.1 in
    let same : c.in_err-piece.field-0.0 ≡ ends.Input = cc (sym p.1 ∙ e, p.2) in
    Rose-after (g.S.Source.faults c.args.input.now) (g.S.Source.faults c.pieces.input) (g.S.Source.faults c.next_piece.new.input) c.pieces.invariant.input_count (c.in_err-piece.ensures.cause (ap Err same))

-- the input is over

pub returns-then-is_left_out-clause-carried : goal.returns-then-is_left_out-clause-carried
returns-then-is_left_out-clause-carried g c =
    let before = c.pieces.invariant in
    let out = c.if-is_left_out.ensures.left_out refl in
    let none : length c.in_ok-piece.piece ≡ 0 = omega (arith, out.0, ap (λ (x : List ℕ). length x) c.items-count.ensures) in
    carried_all g.S.Source.gives g.S.Source.ended g.met.S.Source.gives_then c.args.job.now.plan (goal_of c.args.job.now) c.args.found c.pieces.reached (g.L.Dialler.story c.args.link.now) (g.L.Dialler.story c.pieces.link) c.args.input.now c.pieces.input c.next_piece.new.input before.pieces c.in_ok-piece.piece before.has c.in_ok-piece.ensures.piece.came (no_bytes c.in_ok-piece.piece none) (c.in_ok-piece.ensures.piece.end (omega (arith, none, least_some c.args.job.now.plan.live))) (before.later out.1)

pub returns-then-is_left_out-clause-link_count : goal.returns-then-is_left_out-clause-link_count
returns-then-is_left_out-clause-link_count g c = c.pieces.invariant.link_count

pub returns-then-is_left_out-clause-input_count : goal.returns-then-is_left_out-clause-input_count
returns-then-is_left_out-clause-input_count g c = omega (arith, c.pieces.invariant.input_count, c.next_piece.ensures.count)

-- a piece is not taken

pub returns-in_err-reached-clause-stopped : goal.returns-in_err-reached-clause-stopped
returns-in_err-reached-clause-stopped g c =
    let p = err_from_is_err_and c.from_residual-in_err-reached.result c.from_residual-in_err-reached.ensures.1 in
    let before = c.pieces.invariant in
    rw (p.1, p.2) (inr (refused_at g.S.Source.gives g.met.S.Source.gives_then c.args.job.now.plan (goal_of c.args.job.now) c.args.found c.pieces.reached (g.L.Dialler.story c.args.link.now) (g.L.Dialler.story c.pieces.link) (g.L.Dialler.story c.send.new.link) c.args.input.now c.pieces.input c.next_piece.new.input before.pieces c.in_ok-piece.piece c.in_err-reached.field-0.0 before.has c.in_ok-piece.ensures.piece.came c.in_ok-piece.ensures.piece.within (λ none. before.first (c.if-is_left_out.ensures.sent refl (omega (arith, none, ap (λ (x : List ℕ). length x) c.items-count.ensures)))) c.in_err-reached.ensures.stopped))

pub returns-in_err-reached-clause-link_count : goal.returns-in_err-reached-clause-link_count
returns-in_err-reached-clause-link_count g c = omega (arith, c.pieces.invariant.link_count, c.send.ensures.count)

pub returns-in_err-reached-clause-input_count : goal.returns-in_err-reached-clause-input_count
returns-in_err-reached-clause-input_count g c = omega (arith, c.pieces.invariant.input_count, c.next_piece.ensures.count)

pub returns-in_err-reached-clause-link_cause : goal.returns-in_err-reached-clause-link_cause
returns-in_err-reached-clause-link_cause g c = λ e.
    let p = err_from_is_err_and c.from_residual-in_err-reached.result c.from_residual-in_err-reached.ensures.1 in
    let same : c.in_err-reached.field-0.0 ≡ ends.Link = cc (sym p.1 ∙ e, p.2) in
    Rose-after (g.L.Dialler.faults c.args.link.now) (g.L.Dialler.faults c.pieces.link) (g.L.Dialler.faults c.send.new.link) c.pieces.invariant.link_count (c.in_err-reached.ensures.cause (ap Err same))

pub returns-in_err-reached-clause-input_cause : goal.returns-in_err-reached-clause-input_cause
returns-in_err-reached-clause-input_cause g c = λ e.
    let p = err_from_is_err_and c.from_residual-in_err-reached.result c.from_residual-in_err-reached.ensures.1 in
    let same : c.in_err-reached.field-0.0 ≡ ends.Input = cc (sym p.1 ∙ e, p.2) in
    absurd (refused_no_input (goal_of c.args.job.now) _ c.pieces.reached (g.L.Dialler.story c.pieces.link) (g.L.Dialler.story c.send.new.link) c.in_err-reached.field-0.0 c.in_err-reached.ensures.stopped same)

-- the last piece is taken

pub returns-then-count-least_piece-clause-carried : goal.returns-then-count-least_piece-clause-carried
returns-then-count-least_piece-clause-carried g c =
    let before = c.pieces.invariant in
    carried_last g.S.Source.gives g.S.Source.ended g.met.S.Source.gives_then c.args.job.now.plan (goal_of c.args.job.now) c.args.found c.pieces.reached c.in_ok-reached.reached (g.L.Dialler.story c.args.link.now) (g.L.Dialler.story c.pieces.link) (g.L.Dialler.story c.send.new.link) c.args.input.now c.pieces.input c.next_piece.new.input before.pieces c.in_ok-piece.piece before.has c.in_ok-piece.ensures.piece.came c.in_ok-piece.ensures.piece.within (λ none. before.first (c.if-is_left_out.ensures.sent refl (omega (arith, none, ap (λ (x : List ℕ). length x) c.items-count.ensures)))) (c.in_ok-piece.ensures.piece.end (omega (arith, c.if-count-least_piece.true, c.least_piece.ensures, ap (λ (x : List ℕ). length x) c.items-count.ensures))) c.in_ok-reached.ensures.sent

pub returns-then-count-least_piece-clause-link_count : goal.returns-then-count-least_piece-clause-link_count
returns-then-count-least_piece-clause-link_count g c = omega (arith, c.pieces.invariant.link_count, c.send.ensures.count)

pub returns-then-count-least_piece-clause-input_count : goal.returns-then-count-least_piece-clause-input_count
returns-then-count-least_piece-clause-input_count g c = omega (arith, c.pieces.invariant.input_count, c.next_piece.ensures.count)

-- a piece is taken after which others may come

pub pieces-preserved : goal.pieces-preserved
pieces-preserved g c =
    let before = c.pieces.invariant in
    let laws : Laws g.E.Sink.takes g.E.Sink.fails = record { none = g.met.E.Sink.takes_nothing; both = g.met.E.Sink.takes_then; last = g.met.E.Sink.takes_fails } in
    let piece = c.in_ok-piece.piece in
    let least : least_piece c.args.job.now.plan.live ≤ length piece = omega (arith, c.if-count-least_piece.false, c.least_piece.ensures, ap (λ (x : List ℕ). length x) c.items-count.ensures) in
    record {
      pieces = before.pieces ++ piece ∷ [];
      has = carried_more g.S.Source.gives g.met.S.Source.gives_then c.args.job.now.plan (goal_of c.args.job.now) c.args.found c.pieces.reached c.in_ok-reached.reached (g.L.Dialler.story c.args.link.now) (g.L.Dialler.story c.pieces.link) (g.L.Dialler.story c.send.new.link) c.args.input.now c.pieces.input c.next_piece.new.input before.pieces piece before.has c.in_ok-piece.ensures.piece.came (least, c.in_ok-piece.ensures.piece.within) c.in_ok-reached.ensures.sent;
      first = λ e. absurd (let x : false ≡ true = e in cc);
      later = λ e. inr (not_nil before.pieces piece);
      grew = grew_piece g.E.Sink.takes g.E.Sink.fails laws c.args.aside.now.lines c.pieces.aside.lines c.add.new.self before.pieces piece (length c.items-count.result.now) (ap (λ (x : List ℕ). length x) c.items-count.ensures) before.grew c.add.ensures;
      link_count = omega (arith, before.link_count, c.send.ensures.count);
      input_count = omega (arith, before.input_count, c.next_piece.ensures.count);
    }

pub pieces-smaller : goal.pieces-smaller
pieces-smaller g c =
    let least : least_piece c.args.job.now.plan.live ≤ length c.in_ok-piece.piece = omega (arith, c.if-count-least_piece.false, c.least_piece.ensures, ap (λ (x : List ℕ). length x) c.items-count.ensures) in
    omega (arith, c.in_ok-reached.ensures.length, c.in_ok-reached.ensures.sent.sends.0, least, least_some c.args.job.now.plan.live, c.in_ok-piece.ensures.piece.within)

-- The progress lines

pub returns-in_err-piece-clause-within : goal.returns-in_err-piece-clause-within
returns-in_err-piece-clause-within g c =
    let p = err_from_is_err_and c.from_residual.result c.from_residual.ensures.1 in
    let before = c.pieces.invariant in
    let joins : Joins g.S.Source.gives g.S.Source.fails = record { none = g.met.S.Source.gives_nothing; both = g.met.S.Source.gives_then; last = g.met.S.Source.gives_fails } in
    rw (p.1, p.2) (told_cut g.S.Source.gives g.S.Source.fails g.E.Sink.takes g.E.Sink.fails joins c.args.input.now c.pieces.input c.next_piece.new.input c.args.aside.now.lines c.pieces.aside.lines (joined before.pieces) c.in_err-piece.field-0.0 before.has.came c.in_err-piece.ensures.cut before.grew)

pub returns-in_err-reached-clause-within : goal.returns-in_err-reached-clause-within
returns-in_err-reached-clause-within g c =
    let p = err_from_is_err_and c.from_residual-in_err-reached.result c.from_residual-in_err-reached.ensures.1 in
    let before = c.pieces.invariant in
    let came = g.met.S.Source.gives_then _ _ _ _ _ before.has.came c.in_ok-piece.ensures.piece.came in
    let refused = c.in_err-reached.ensures.stopped in
    let of_turns = refuses_of_turns (bytes c.in_ok-piece.piece) c.pieces.reached refused.turns c.in_err-reached.field-0.0 refused.refuses in
    rw (p.1, p.2) (told_front g.S.Source.gives g.S.Source.fails g.E.Sink.takes g.E.Sink.fails c.args.input.now c.next_piece.new.input c.args.aside.now.lines c.pieces.aside.lines (joined before.pieces) c.in_ok-piece.piece c.in_err-reached.field-0.0 (came_of_turns g.S.Source.gives g.S.Source.fails c.args.input.now c.next_piece.new.input (joined before.pieces ++ c.in_ok-piece.piece) c.in_err-reached.field-0.0 of_turns came) before.grew)

pub returns-then-is_left_out-clause-told : goal.returns-then-is_left_out-clause-told
returns-then-is_left_out-clause-told g c =
    let before = c.pieces.invariant in
    let out = c.if-is_left_out.ensures.left_out refl in
    let none : length c.in_ok-piece.piece ≡ 0 = omega (arith, out.0, ap (λ (x : List ℕ). length x) c.items-count.ensures) in
    let came = g.met.S.Source.gives_then _ _ _ _ _ before.has.came c.in_ok-piece.ensures.piece.came in
    (joined before.pieces, subst (λ (x : List ℕ). g.S.Source.gives c.args.input.now x c.next_piece.new.input) (ap (λ (x : List ℕ). joined before.pieces ++ x) (no_bytes c.in_ok-piece.piece none) ∙ append-nil (joined before.pieces)) came, before.grew)

pub returns-then-count-least_piece-clause-told : goal.returns-then-count-least_piece-clause-told
returns-then-count-least_piece-clause-told g c =
    let before = c.pieces.invariant in
    let laws : Laws g.E.Sink.takes g.E.Sink.fails = record { none = g.met.E.Sink.takes_nothing; both = g.met.E.Sink.takes_then; last = g.met.E.Sink.takes_fails } in
    let came = g.met.S.Source.gives_then _ _ _ _ _ before.has.came c.in_ok-piece.ensures.piece.came in
    (joined before.pieces ++ c.in_ok-piece.piece, came, grew_then g.E.Sink.takes g.E.Sink.fails laws c.args.aside.now.lines c.pieces.aside.lines c.add.new.self (joined before.pieces) c.in_ok-piece.piece (length (joined before.pieces)) (length c.items-count.result.now) refl (ap (λ (x : List ℕ). length x) c.items-count.ensures) before.grew c.add.ensures)
