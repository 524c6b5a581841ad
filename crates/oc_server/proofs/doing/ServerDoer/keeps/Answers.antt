use Rattle.std.proofs.Common.{◌≡◌, true, List, [], ◌∷◌, ℕ, refl, rules, subst, ◌∙◌}
use Rattle.std.proofs.lemmas.Result.{err_from_is_err_and}
use Rattle.oc_link.specs.Told.{AddsAll}
use Rattle.oc_link.specs.declared.call.Call.TheVariants as acts
use Rattle.oc_deeds.specs.Deeds.{Keeps}
use Rattle.oc_deeds.specs.Unfit.{unfit_line}
use Rattle.oc_server.proofs.Steps.{did_told, put_first}
use Rattle.oc_server.proofs.Parts.{does_one}
use Rattle.oc_server.proofs.Stopping.{memory_stops}
use Rattle.oc_deeds.specs.Parts.{one}
use Rattle.oc_server.proofs.doing.ServerDoer.keeps.Goals as goal

pub returns-clause-did : goal.returns-clause-did
returns-clause-did g c =
    let s = c.args.self.now in
    let why = c.args.why in
    let none : c.new-line.result.items ≡ [] = search rules in
    let is = c.deref.ensures.value ∙ put_first c.new-line.result.items (unfit_line why) _ none c.in_ok-put_unfit_line.ensures in
    does_one g.D.Disk.view g.K.Sink.takes g.K.Sink.fails g.K.Sink.faults g.L.Link.story g.L.Link.counts (Keeps why) (one (Keeps why)) s _ (λ honest. refl)
    (did_told g.D.Disk.view g.K.Sink.takes g.K.Sink.fails g.K.Sink.faults g.L.Link.story g.L.Link.counts g.met.K.Sink.takes_nothing (Keeps why) s (record s.about { refused = true }) c.report.new.self refl refl refl c.requires.is_open c.report.ensures.counts refl
    (subst (λ (t : List ℕ). AddsAll (acts.Report t ∷ []) (g.L.Link.story s.link) (g.L.Link.story c.report.new.self)) is c.report.ensures.story))

pub returns-in_err-put_unfit_line-clause-breaks : goal.returns-in_err-put_unfit_line-clause-breaks
returns-in_err-put_unfit_line-clause-breaks g c =
    let p = err_from_is_err_and c.from_residual.result c.from_residual.ensures.1 in
    rw (p.1, p.2) (memory_stops g.D.Disk.view g.K.Sink.takes g.K.Sink.fails g.K.Sink.faults g.L.Link.story g.L.Link.counts g.met.K.Sink.takes_nothing (one (Keeps c.args.why)) c.args.self.now _ c.requires.is_open refl refl refl refl (c.recovers.ensures.survives c.requires.is_open))
