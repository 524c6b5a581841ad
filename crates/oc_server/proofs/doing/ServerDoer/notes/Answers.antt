use Rattle.std.proofs.Common.{◌≡◌, List, [], ℕ, refl, rules, subst, ◌∙◌}
use Rattle.std.proofs.lemmas.Result.{err_from_is_err_and}
use Rattle.oc_link.proofs.Stories.{adds-none}
use Rattle.oc_deeds.specs.Deeds.{Notes, note_line}
use Rattle.oc_deeds.proofs.Results.{done_then, err_then}
use Rattle.oc_server.proofs.Steps.{did_line, put_first}
use Rattle.oc_server.proofs.Parts.{does_one}
use Rattle.oc_server.proofs.Stopping.{memory_stops, line_stops}
use Rattle.oc_deeds.specs.Parts.{one}
use Rattle.oc_server.proofs.doing.ServerDoer.notes.Goals as goal

pub returns-clause-did : goal.returns-clause-did
returns-clause-did g c =
    let s = c.args.self.now in
    done_then c.write_line.result (λ wrote. does_one g.D.Disk.view g.K.Sink.takes g.K.Sink.fails g.K.Sink.faults g.L.Link.story g.L.Link.counts (Notes c.args.why.now) (one (Notes c.args.why.now)) s _ (λ honest. refl)
    (did_line g.D.Disk.view g.K.Sink.takes g.K.Sink.fails g.K.Sink.faults g.L.Link.story g.L.Link.counts (Notes c.args.why.now) s c.write_line.new.sink s.works s.link s.tally refl refl c.requires.is_open refl
    (subst (λ (t : List ℕ). g.K.Sink.takes s.sink t c.write_line.new.sink) (c.deref.ensures.value ∙ put_first c.new-line.result.items (note_line c.args.why.now) _ (search rules) c.in_ok-put_note.ensures) wrote) c.write_line.ensures.count (λ all. all) refl (adds-none (g.L.Link.story s.link)))) c.write_line.ensures.wrote

pub returns-clause-breaks : goal.returns-clause-breaks
returns-clause-breaks g c =
    let s = c.args.self.now in
    let text = note_line c.args.why.now in
    let none : c.new-line.result.items ≡ [] = search rules in
    let is : c.deref.result.now ≡ text = c.deref.ensures.value ∙ put_first c.new-line.result.items text _ none c.in_ok-put_note.ensures in
    err_then c.write_line.result (λ end stops. line_stops g.D.Disk.view g.K.Sink.takes g.K.Sink.fails g.K.Sink.faults g.L.Link.story g.L.Link.counts g.met.K.Sink.takes_nothing end c.deref.result.now text (Notes c.args.why.now) (one (Notes c.args.why.now)) s (record s { sink = c.write_line.new.sink }) c.requires.is_open (λ honest. refl) refl is refl refl refl stops (c.recovers.ensures.survives c.requires.is_open)) c.write_line.ensures.stops

pub returns-in_err-put_note-clause-breaks : goal.returns-in_err-put_note-clause-breaks
returns-in_err-put_note-clause-breaks g c =
    let p = err_from_is_err_and c.from_residual.result c.from_residual.ensures.1 in
    rw (p.1, p.2) (memory_stops g.D.Disk.view g.K.Sink.takes g.K.Sink.fails g.K.Sink.faults g.L.Link.story g.L.Link.counts g.met.K.Sink.takes_nothing (one (Notes c.args.why.now)) c.args.self.now _ c.requires.is_open refl refl refl refl (c.recovers.ensures.survives c.requires.is_open))
