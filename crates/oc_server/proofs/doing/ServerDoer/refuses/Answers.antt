use Rattle.std.proofs.Common.{List, ℕ, Option, ap, refl, rules, subst, ◌∙◌}
use Rattle.std.specs.Prelude.{is_some, unwrap_or}
use Rattle.std.proofs.lemmas.Result.{err_from_is_err_and}
use Rattle.oc_link.specs.Told.{AddsAll}
use Rattle.oc_routes.specs.Refusals.{why_text}
use Rattle.oc_routes.specs.Tallies.{TallyView}
use Rattle.oc_deeds.specs.Counted.{message_fault, with_refused_by}
use Rattle.oc_server.specs.Scenes.{running}
use Rattle.oc_deeds.specs.Deeds.{Refuses, note_line, refuses}
use Rattle.oc_server.proofs.Steps.{did_line, put_first}
use Rattle.oc_server.proofs.Parts.{does_one}
use Rattle.oc_server.proofs.Stopping.{memory_stops, line_stops}
use Rattle.oc_deeds.specs.Parts.{one}
use Rattle.oc_server.proofs.doing.ServerDoer.refuses.Goals as goal

pub returns-clause-did : goal.returns-clause-did
returns-clause-did g c =
    let s = c.args.self.now in
    does_one g.D.Disk.view g.K.Sink.takes g.K.Sink.fails g.K.Sink.faults g.L.Link.story g.L.Link.counts (Refuses c.args.connection c.args.count c.args.refusal) (one (Refuses c.args.connection c.args.count c.args.refusal)) s _ (λ honest. refl)
    (did_line g.D.Disk.view g.K.Sink.takes g.K.Sink.fails g.K.Sink.faults g.L.Link.story g.L.Link.counts (Refuses c.args.connection c.args.count c.args.refusal) s c.write_line.new.sink s.works c.refuse.new.link c.count_refusal.new.tally refl refl c.requires.is_open c.refuse.ensures.counts
    (subst (λ (t : List ℕ). g.K.Sink.takes s.sink t c.write_line.new.sink) (c.deref.ensures.value ∙ put_first c.new-line.result.items (note_line (why_text c.args.refusal.why)) _ (search rules) c.in_ok-put_refusal_line.ensures) c.in_ok-write_line.ensures.wrote) c.write_line.ensures.count (λ all. all)
    (ap (λ (t : TallyView). record (running s) { tally = t }) (c.count_refusal.ensures ∙ ap (λ (text : Option (List ℕ)). with_refused_by (message_fault c.args.refusal.why) c.args.refusal.asker text s.tally) c.in_ok-reply.ensures))
    (subst (λ (reply : Option (List ℕ)). AddsAll (refuses c.args.connection (unwrap_or c.args.refusal.kept c.args.count) (is_some c.args.refusal.kept) reply) (g.L.Link.story s.link) (g.L.Link.story c.refuse.new.link)) c.in_ok-reply.ensures c.refuse.ensures.calls))

pub returns-in_err-reply-clause-breaks : goal.returns-in_err-reply-clause-breaks
returns-in_err-reply-clause-breaks g c =
    let p = err_from_is_err_and c.from_residual.result c.from_residual.ensures.1 in
    rw (p.1, p.2) (memory_stops g.D.Disk.view g.K.Sink.takes g.K.Sink.fails g.K.Sink.faults g.L.Link.story g.L.Link.counts g.met.K.Sink.takes_nothing (one (Refuses c.args.connection c.args.count c.args.refusal)) c.args.self.now _ c.requires.is_open refl refl refl refl (c.recovers.ensures.survives c.requires.is_open))

pub returns-in_err-put_refusal_line-clause-breaks : goal.returns-in_err-put_refusal_line-clause-breaks
returns-in_err-put_refusal_line-clause-breaks g c =
    let p = err_from_is_err_and c.from_residual-in_err-put_refusal_line.result c.from_residual-in_err-put_refusal_line.ensures.1 in
    rw (p.1, p.2) (memory_stops g.D.Disk.view g.K.Sink.takes g.K.Sink.fails g.K.Sink.faults g.L.Link.story g.L.Link.counts g.met.K.Sink.takes_nothing (one (Refuses c.args.connection c.args.count c.args.refusal)) c.args.self.now _ c.requires.is_open refl refl refl refl (c.recovers.ensures.survives c.requires.is_open))

pub returns-in_err-write_line-clause-breaks : goal.returns-in_err-write_line-clause-breaks
returns-in_err-write_line-clause-breaks g c =
    let p = err_from_is_err_and c.from_residual-in_err-write_line.result c.from_residual-in_err-write_line.ensures.1 in
    rw (p.1, p.2) (line_stops g.D.Disk.view g.K.Sink.takes g.K.Sink.fails g.K.Sink.faults g.L.Link.story g.L.Link.counts g.met.K.Sink.takes_nothing c.in_err-write_line.field-0.0 _ (note_line (why_text c.args.refusal.why)) (Refuses c.args.connection c.args.count c.args.refusal) (one (Refuses c.args.connection c.args.count c.args.refusal)) c.args.self.now _ c.requires.is_open (λ honest. refl) refl (c.deref.ensures.value ∙ put_first c.new-line.result.items (note_line (why_text c.args.refusal.why)) _ (search rules) c.in_ok-put_refusal_line.ensures) refl refl refl c.in_err-write_line.ensures.stops (c.recovers.ensures.survives c.requires.is_open))
