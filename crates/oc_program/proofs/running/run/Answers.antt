use Rattle.std.proofs.Common.{ℕ, List, ◌∙◌, ap, arith, subst, sym}
use Rattle.oc_commands.specs.Run.{IsWrittenOrCut}
use Rattle.oc_words.specs.Status.{number_of}
use Rattle.oc_words.specs.Words.{asked, texts_of}
use Rattle.oc_words.proofs.PlainWords.{plain_asks}
use Rattle.oc_commands.proofs.Statuses.{only_misused}
use Rattle.oc_program.specs.Seen.{seen}
use Rattle.oc_program.specs.StatusFor.{StatusFor}
use Rattle.oc_program.proofs.Named.{line_named}
use Rattle.oc_program.proofs.Statuses.{status_for}
use Rattle.oc_program.proofs.running.run.Goals as goal

pub returns-clause-ended : goal.returns-clause-ended
returns-clause-ended g c =
    let (usage, written) = c.tell_of.ensures.told in
    let words = asked (texts_of c.args.words.now) in
    let told = c.perform-end.result.1.error in
    let line = line_named c.read_words-given.result words c.perform-end.result.0 usage c.read_words-given.ensures.answers c.perform-end.ensures.no_memory in (
      c.perform-end.result.0,
      usage,
      told,
      c.number.ensures ∙ ap number_of c.status.ensures,
      subst (λ (text : List ℕ). IsWrittenOrCut g.E.Sink.takes g.E.Sink.fails g.E.Sink.faults told c.tell_of.new.err text) line written,
      c.perform-end.ensures.happened,
    )

pub returns-clause-status_for : goal.returns-clause-status_for
returns-clause-status_for g c =
    let words = asked (texts_of c.args.words.now) in
    subst (λ n. StatusFor g.S.Source.gives g.S.Source.ended g.S.Source.faults g.K.Sink.faults g.D.Disk.view g.L.Dialler.story g.L.Dialler.faults g.N.Link.counts c.args.outside c.perform-end.result.1 words n)
    (sym (c.number.ensures ∙ ap number_of c.status.ensures))
    (status_for g.S.Source.gives g.S.Source.fails g.S.Source.ended g.S.Source.faults g.K.Sink.takes g.K.Sink.fails g.K.Sink.faults g.E.Sink.takes g.E.Sink.fails g.E.Sink.faults g.T.Stage.world g.D.Disk.view
    g.L.Dialler.story g.L.Dialler.faults g.N.Link.story g.N.Link.counts c.args.outside c.perform-end.result.1.error c.perform-end.result.1 words c.perform-end.result.0 c.perform-end.ensures.happened c.perform-end.ensures.misused)

pub returns-clause-only_misused : goal.returns-clause-only_misused
returns-clause-only_misused g c = λ is.
    only_misused (seen g.S.Source.gives g.S.Source.fails g.S.Source.ended g.S.Source.faults g.K.Sink.takes g.K.Sink.fails g.K.Sink.faults g.E.Sink.takes g.E.Sink.fails g.E.Sink.faults g.T.Stage.world g.D.Disk.view
    g.L.Dialler.story g.L.Dialler.faults g.N.Link.story g.N.Link.counts (asked (texts_of c.args.words.now)) c.args.outside c.perform-end.result.1.error c.perform-end.result.1)
    c.perform-end.result.0 (sym (c.number.ensures ∙ ap number_of c.status.ensures) ∙ is) c.perform-end.ensures.happened

pub returns-clause-plain : goal.returns-clause-plain
returns-clause-plain g c = λ plain is.
    plain_asks (texts_of c.args.words.now) plain
    (only_misused (seen g.S.Source.gives g.S.Source.fails g.S.Source.ended g.S.Source.faults g.K.Sink.takes g.K.Sink.fails g.K.Sink.faults g.E.Sink.takes g.E.Sink.fails g.E.Sink.faults g.T.Stage.world g.D.Disk.view
    g.L.Dialler.story g.L.Dialler.faults g.N.Link.story g.N.Link.counts (asked (texts_of c.args.words.now)) c.args.outside c.perform-end.result.1.error c.perform-end.result.1)
    c.perform-end.result.0 (sym (c.number.ensures ∙ ap number_of c.status.ensures) ∙ is) c.perform-end.ensures.happened)

pub returns-clause-input_count : goal.returns-clause-input_count
returns-clause-input_count g c = c.perform-end.ensures.input_count

pub returns-clause-error_count : goal.returns-clause-error_count
returns-clause-error_count g c = omega (arith, c.perform-end.ensures.error_count, c.tell_of.ensures.count)

pub returns-clause-output_count : goal.returns-clause-output_count
returns-clause-output_count g c = c.perform-end.ensures.output_count

pub returns-clause-done_count : goal.returns-clause-done_count
returns-clause-done_count g c = λ is. c.perform-end.ensures.done_count (sym (c.number.ensures ∙ ap number_of c.status.ensures) ∙ is)
