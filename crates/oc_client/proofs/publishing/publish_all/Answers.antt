use Rattle.std.proofs.Common.{◌≡◌, [], ◌++◌, length, refl, sym, ◌∙◌}
use Rattle.oc_client.proofs.Lines.{Laws, grew_then, passed_length, untold, told_after, told_unsealed}
use Rattle.oc_client.proofs.Published.{Joins, stopped_not_done, refused_not_done, unplaced_not_done, uncarried_not_done, stopped_no_input, refused_no_input, no_memory, not_found, not_carried, not_sealed, all_done}
use Rattle.oc_client.proofs.publishing.publish_all.Goals as goal
use Rattle.oc_client.specs.Efforts.{finding}
use Rattle.oc_client.specs.Jobs.{goal_of}
use Rattle.oc_client.specs.PutRequests.{nothing, seal}
use Rattle.oc_client.specs.declared.put_end.PutEnd.TheVariants as ends
use Rattle.std.proofs.lemmas.Result.{err_from_is_err_and, IfErr-weaker, on_ok_weaker}

pub returns-in_err-room-clause-stopped : goal.returns-in_err-room-clause-stopped
returns-in_err-room-clause-stopped g c =
    let p = err_from_is_err_and c.from_residual.result c.from_residual.ensures.1 in
    rw (p.1, p.2) (no_memory g.S.Source.gives g.S.Source.fails g.S.Source.ended c.args.job.now.plan (goal_of c.args.job.now) (g.L.Dialler.story c.args.link.now) c.args.input.now (g.met.S.Source.gives_nothing c.args.input.now))

pub returns-in_err-found-clause-stopped : goal.returns-in_err-found-clause-stopped
returns-in_err-found-clause-stopped g c =
    let p = err_from_is_err_and c.from_residual-in_err-found.result c.from_residual-in_err-found.ensures.1 in
    rw (p.1, p.2) (not_found g.S.Source.gives g.S.Source.fails g.S.Source.ended c.args.job.now.plan (goal_of c.args.job.now) (g.L.Dialler.story c.args.link.now) (g.L.Dialler.story c.find.new.link) c.args.input.now c.in_err-found.field-0.0 (g.met.S.Source.gives_nothing c.args.input.now) c.in_err-found.ensures.stopped)

pub returns-in_err-reached-clause-stopped : goal.returns-in_err-reached-clause-stopped
returns-in_err-reached-clause-stopped g c =
    let p = err_from_is_err_and c.from_residual-in_err-reached.result c.from_residual-in_err-reached.ensures.1 in
    let joins : Joins g.S.Source.gives g.S.Source.fails = record { none = g.met.S.Source.gives_nothing; both = g.met.S.Source.gives_then; last = g.met.S.Source.gives_fails } in
    rw (p.1, p.2) (not_carried g.S.Source.gives g.S.Source.fails g.S.Source.ended joins c.args.job.now.plan (goal_of c.args.job.now) (g.L.Dialler.story c.args.link.now) (g.L.Dialler.story c.find.new.link) (g.L.Dialler.story c.carry.new.link) c.args.input.now c.go_to_place.new.input c.carry.new.input c.in_ok-found.found c.in_err-reached.field-0.0 c.in_ok-found.ensures.found c.in_ok-go_to_place.ensures.placed c.in_err-reached.ensures.stopped)

pub returns-clause-done : goal.returns-clause-done
returns-clause-done g c =
    let joins : Joins g.S.Source.gives g.S.Source.fails = record { none = g.met.S.Source.gives_nothing; both = g.met.S.Source.gives_then; last = g.met.S.Source.gives_fails } in
    on_ok_weaker c.close.result (λ h. all_done g.S.Source.gives g.S.Source.fails g.S.Source.ended joins c.args.job.now.plan (goal_of c.args.job.now) (g.L.Dialler.story c.args.link.now) (g.L.Dialler.story c.find.new.link) (g.L.Dialler.story c.carry.new.link) (g.L.Dialler.story c.close.new.link) c.args.input.now c.go_to_place.new.input c.carry.new.input c.in_ok-found.found c.in_ok-reached.reached c.in_ok-found.ensures.found c.in_ok-go_to_place.ensures.placed c.in_ok-reached.ensures.carried h) c.close.ensures.sealed

pub returns-clause-stopped : goal.returns-clause-stopped
returns-clause-stopped g c =
    let joins : Joins g.S.Source.gives g.S.Source.fails = record { none = g.met.S.Source.gives_nothing; both = g.met.S.Source.gives_then; last = g.met.S.Source.gives_fails } in
    IfErr-weaker c.close.result _ _ (λ end h. not_sealed g.S.Source.gives g.S.Source.fails g.S.Source.ended joins c.args.job.now.plan (goal_of c.args.job.now) (g.L.Dialler.story c.args.link.now) (g.L.Dialler.story c.find.new.link) (g.L.Dialler.story c.carry.new.link) (g.L.Dialler.story c.close.new.link) c.args.input.now c.go_to_place.new.input c.carry.new.input c.in_ok-found.found c.in_ok-reached.reached end c.in_ok-found.ensures.found c.in_ok-go_to_place.ensures.placed c.in_ok-reached.ensures.carried h) c.close.ensures.stopped

-- no request ends with a failure of the input
pub returns-in_err-found-clause-input_cause : goal.returns-in_err-found-clause-input_cause
returns-in_err-found-clause-input_cause g c = λ e.
    let p = err_from_is_err_and c.from_residual-in_err-found.result c.from_residual-in_err-found.ensures.1 in
    let same : c.in_err-found.field-0.0 ≡ ends.Input = cc (sym p.1 ∙ e, p.2) in
    absurd (stopped_no_input (goal_of c.args.job.now) nothing finding (g.L.Dialler.story c.args.link.now) (g.L.Dialler.story c.find.new.link) c.in_err-found.field-0.0 c.in_err-found.ensures.stopped same)

pub returns-clause-input_cause : goal.returns-clause-input_cause
returns-clause-input_cause g c = λ e.
    let stopped = rw e at c.close.ensures.stopped in
    absurd (refused_no_input (goal_of c.args.job.now) seal c.in_ok-reached.reached (g.L.Dialler.story c.carry.new.link) (g.L.Dialler.story c.close.new.link) ends.Input stopped.refused refl)

-- The progress lines

pub returns-in_err-room-clause-within : goal.returns-in_err-room-clause-within
returns-in_err-room-clause-within g c =
    let p = err_from_is_err_and c.from_residual.result c.from_residual.ensures.1 in
    let laws : Laws g.E.Sink.takes g.E.Sink.fails = record { none = g.met.E.Sink.takes_nothing; both = g.met.E.Sink.takes_then; last = g.met.E.Sink.takes_fails } in
    rw (p.1, p.2) (untold g.S.Source.gives g.S.Source.fails g.E.Sink.takes g.E.Sink.fails laws c.args.input.now c.args.input.now c.args.aside.now.lines [] ends.Memory (g.met.S.Source.gives_nothing c.args.input.now))

pub returns-in_err-found-clause-within : goal.returns-in_err-found-clause-within
returns-in_err-found-clause-within g c =
    let p = err_from_is_err_and c.from_residual-in_err-found.result c.from_residual-in_err-found.ensures.1 in
    let laws : Laws g.E.Sink.takes g.E.Sink.fails = record { none = g.met.E.Sink.takes_nothing; both = g.met.E.Sink.takes_then; last = g.met.E.Sink.takes_fails } in
    let at = not_found g.S.Source.gives g.S.Source.fails g.S.Source.ended c.args.job.now.plan (goal_of c.args.job.now) (g.L.Dialler.story c.args.link.now) (g.L.Dialler.story c.find.new.link) c.args.input.now c.in_err-found.field-0.0 (g.met.S.Source.gives_nothing c.args.input.now) c.in_err-found.ensures.stopped in
    rw (p.1, p.2) (untold g.S.Source.gives g.S.Source.fails g.E.Sink.takes g.E.Sink.fails laws c.args.input.now c.args.input.now c.args.aside.now.lines at.input c.in_err-found.field-0.0 at.came)

pub returns-in_err-go_to_place-clause-within : goal.returns-in_err-go_to_place-clause-within
returns-in_err-go_to_place-clause-within g c =
    let p = err_from_is_err_and c.from_residual-in_err-go_to_place.result c.from_residual-in_err-go_to_place.ensures.1 in
    let laws : Laws g.E.Sink.takes g.E.Sink.fails = record { none = g.met.E.Sink.takes_nothing; both = g.met.E.Sink.takes_then; last = g.met.E.Sink.takes_fails } in
    let off = c.in_err-go_to_place.ensures.placed in
    rw (p.1, p.2) (untold g.S.Source.gives g.S.Source.fails g.E.Sink.takes g.E.Sink.fails laws c.args.input.now c.go_to_place.new.input c.args.aside.now.lines off.input c.in_err-go_to_place.field-0.0 off.came)

pub returns-in_err-reached-clause-within : goal.returns-in_err-reached-clause-within
returns-in_err-reached-clause-within g c =
    let p = err_from_is_err_and c.from_residual-in_err-reached.result c.from_residual-in_err-reached.ensures.1 in
    let laws : Laws g.E.Sink.takes g.E.Sink.fails = record { none = g.met.E.Sink.takes_nothing; both = g.met.E.Sink.takes_then; last = g.met.E.Sink.takes_fails } in
    let joins : Joins g.S.Source.gives g.S.Source.fails = record { none = g.met.S.Source.gives_nothing; both = g.met.S.Source.gives_then; last = g.met.S.Source.gives_fails } in
    let at = c.in_ok-go_to_place.ensures.placed in
    let passed = c.passed_over.ensures ∙ passed_length c.args.job.now.plan.place c.in_ok-found.found.length at.before at.begins in
    rw (p.1, p.2) (told_after g.S.Source.gives g.S.Source.fails g.E.Sink.takes g.E.Sink.fails laws joins c.args.input.now c.go_to_place.new.input c.carry.new.input c.args.aside.now.lines c.add.new.self c.carry.new.aside.lines at.before _ c.in_err-reached.field-0.0 passed at.came c.add.ensures c.in_err-reached.ensures.within)

pub returns-clause-within : goal.returns-clause-within
returns-clause-within g c =
    let laws : Laws g.E.Sink.takes g.E.Sink.fails = record { none = g.met.E.Sink.takes_nothing; both = g.met.E.Sink.takes_then; last = g.met.E.Sink.takes_fails } in
    let joins : Joins g.S.Source.gives g.S.Source.fails = record { none = g.met.S.Source.gives_nothing; both = g.met.S.Source.gives_then; last = g.met.S.Source.gives_fails } in
    let at = c.in_ok-go_to_place.ensures.placed in
    let told = c.in_ok-reached.ensures.told in
    let passed = c.passed_over.ensures ∙ passed_length c.args.job.now.plan.place c.in_ok-found.found.length at.before at.begins in
    IfErr-weaker c.close.result _ _ (λ end h. told_unsealed g.S.Source.gives g.S.Source.fails g.E.Sink.takes g.E.Sink.fails laws joins c.args.input.now c.go_to_place.new.input c.carry.new.input c.args.aside.now.lines c.add.new.self c.carry.new.aside.lines at.before told.0 _ (goal_of c.args.job.now) c.args.job.now.plan.seal c.in_ok-reached.reached (g.L.Dialler.story c.carry.new.link) (g.L.Dialler.story c.close.new.link) end passed at.came c.add.ensures told.1 told.2 h) c.close.ensures.stopped

pub returns-clause-told : goal.returns-clause-told
returns-clause-told g c =
    let laws : Laws g.E.Sink.takes g.E.Sink.fails = record { none = g.met.E.Sink.takes_nothing; both = g.met.E.Sink.takes_then; last = g.met.E.Sink.takes_fails } in
    let at = c.in_ok-go_to_place.ensures.placed in
    let told = c.in_ok-reached.ensures.told in
    let passed = c.passed_over.ensures ∙ passed_length c.args.job.now.plan.place c.in_ok-found.found.length at.before at.begins in
    on_ok_weaker c.close.result (λ _. (at.before ++ told.0, g.met.S.Source.gives_then _ _ _ _ _ at.came told.1, grew_then g.E.Sink.takes g.E.Sink.fails laws c.args.aside.now.lines c.add.new.self c.carry.new.aside.lines at.before told.0 _ (length told.0) passed refl c.add.ensures told.2)) c.close.ensures.sealed

-- An end of another kind is not `Done`

pub returns-in_err-found-clause-unfinished : goal.returns-in_err-found-clause-unfinished
returns-in_err-found-clause-unfinished g c = λ e.
    let p = err_from_is_err_and c.from_residual-in_err-found.result c.from_residual-in_err-found.ensures.1 in
    let same : c.in_err-found.field-0.0 ≡ ends.Done = cc (sym p.1 ∙ e, p.2) in
    stopped_not_done (goal_of c.args.job.now) nothing finding (g.L.Dialler.story c.args.link.now) (g.L.Dialler.story c.find.new.link) c.in_err-found.field-0.0 c.in_err-found.ensures.stopped same

pub returns-in_err-reached-clause-unfinished : goal.returns-in_err-reached-clause-unfinished
returns-in_err-reached-clause-unfinished g c = λ e.
    let p = err_from_is_err_and c.from_residual-in_err-reached.result c.from_residual-in_err-reached.ensures.1 in
    let same : c.in_err-reached.field-0.0 ≡ ends.Done = cc (sym p.1 ∙ e, p.2) in
    uncarried_not_done g.S.Source.gives g.S.Source.fails c.args.job.now.plan (goal_of c.args.job.now) c.in_ok-found.found (g.L.Dialler.story c.find.new.link) (g.L.Dialler.story c.carry.new.link) c.go_to_place.new.input c.carry.new.input c.in_err-reached.field-0.0 c.in_err-reached.ensures.stopped same

pub returns-clause-unfinished : goal.returns-clause-unfinished
returns-clause-unfinished g c = λ e.
    let stopped = rw e at c.close.ensures.stopped in
    refused_not_done (goal_of c.args.job.now) seal c.in_ok-reached.reached (g.L.Dialler.story c.carry.new.link) (g.L.Dialler.story c.close.new.link) ends.Done stopped.refused refl

pub returns-in_err-go_to_place-clause-unfinished : goal.returns-in_err-go_to_place-clause-unfinished
returns-in_err-go_to_place-clause-unfinished g c = λ e.
    let p = err_from_is_err_and c.from_residual-in_err-go_to_place.result c.from_residual-in_err-go_to_place.ensures.1 in
    let same : c.in_err-go_to_place.field-0.0 ≡ ends.Done = cc (sym p.1 ∙ e, p.2) in
    unplaced_not_done g.S.Source.gives g.S.Source.fails g.S.Source.ended c.args.job.now.plan.place c.in_ok-found.found.length c.args.input.now c.go_to_place.new.input c.in_err-go_to_place.field-0.0 c.in_err-go_to_place.ensures.placed same
