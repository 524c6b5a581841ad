use Rattle.std.proofs.Common.{◌≡◌, ◌∙◌, ◌∷◌, [], List, refl, sym, ap, subst}
use Rattle.std.specs.Prelude.{All}
use Rattle.std.proofs.lemmas.Result.{err_from_is_err_and}
use Rattle.oc_base.specs.declared.shelf.Shelf.{Shelf}
use Rattle.oc_config.specs.Settings.{Settings}
use Rattle.oc_model.specs.Node.{Header}
use Rattle.oc_deeds.specs.Brief.{told_first}
use Rattle.oc_deeds.specs.Deeds.{Deed, Says, Setting}
use Rattle.oc_server.specs.Parts.{Stops}
use Rattle.oc_deeds.specs.Parts.{one, ◌>>◌}
use Rattle.oc_server.specs.Scenes.{Did, setting}
use Rattle.oc_server.proofs.Parts.{does_one, stops_as, stops_behind, stops_in}
use Rattle.oc_deeds.proofs.Results.{done_then, err_then}
use Rattle.oc_server.proofs.Scenes.{did_then, setting_stays, still_serving}
use Rattle.oc_server.proofs.Stopping.{note_stops}
use Rattle.oc_updown.specs.MeasureLines.{IsMeasure}
use Rattle.oc_service.specs.Measuring.{begins_with, takes_own_measures}
use Rattle.oc_service.specs.WhatNodeDoes.{begins_on, own_measures}
use Rattle.oc_service.proofs.measuring.begin.Goals as goal

pub take_measures-requires-clause-serving : goal.take_measures-requires-clause-serving
take_measures-requires-clause-serving g c =
    let s = c.args.server.now in
    still_serving g.D.Disk.view g.K.Sink.takes g.K.Sink.fails g.K.Sink.faults g.L.Link.story g.L.Link.counts (Says (told_first s.log s.kept.node.control s.kept.content.shelves) ∷ []) s c.says_first.new.self c.in_ok-says_first.ensures.did c.requires.serving

pub take_measures-requires-clause-lawful : goal.take_measures-requires-clause-lawful
take_measures-requires-clause-lawful g c =
    let s = c.args.server.now in
    let first = c.in_ok-says_first.ensures.did in
    subst (λ (x : Settings). All (IsMeasure c.says_first.new.self.kept.node.control.nodes) x.measures) (sym first.config)
    (subst (λ (h : Header). All (IsMeasure h.nodes) s.config.measures) (sym first.same.header) c.requires.lawful)

-- the lines of the beginning come first, and then the measures are taken
pub returns-clause-did : goal.returns-clause-did
returns-clause-did g c =
    let s = c.args.server.now in
    let b = c.says_first.new.self in
    let e = c.take_measures.new.server in
    let first = c.in_ok-says_first.ensures.did in
    let says = Says (told_first s.log s.kept.node.control s.kept.content.shelves) in
    let same : own_measures (setting b) b.config.measures ≡ own_measures (setting s) s.config.measures =
    ap (λ (x : Setting). own_measures x b.config.measures) (setting_stays g.D.Disk.view g.K.Sink.takes g.K.Sink.fails g.K.Sink.faults g.L.Link.story g.L.Link.counts s b first.same first.log) ∙ ap (λ (x : Settings). own_measures (setting s) x.measures) first.config in
    done_then c.take_measures.result (λ did. subst (λ (ds : List Deed). Did g.D.Disk.view g.K.Sink.takes g.K.Sink.faults g.L.Link.story g.L.Link.counts (says ∷ ds) s e) same
    (did_then g.D.Disk.view g.K.Sink.takes g.K.Sink.fails g.K.Sink.faults g.L.Link.story g.L.Link.counts g.met.K.Sink.takes_then (says ∷ []) (own_measures (setting b) b.config.measures) s b e first did)) c.take_measures.ensures.did

pub returns-clause-stops : goal.returns-clause-stops
returns-clause-stops g c =
    let s = c.args.server.now in
    let b = c.says_first.new.self in
    let e = c.take_measures.new.server in
    let first = c.in_ok-says_first.ensures.did in
    let says = Says (told_first s.log s.kept.node.control s.kept.content.shelves) in
    let ms = s.config.measures in
    err_then c.take_measures.result (λ end stops. stops_as g.D.Disk.view g.K.Sink.takes g.K.Sink.fails g.K.Sink.faults g.L.Link.story g.L.Link.counts end (one says >> takes_own_measures ms) (begins_with ms) s e (λ honest. ap (λ (ls : List Shelf). begins_on (setting s) ms s.kept.node.control ls) (sym (c.recovers.ensures.groups honest)))
    (stops_behind g.D.Disk.view g.K.Sink.takes g.K.Sink.fails g.K.Sink.faults g.L.Link.story g.L.Link.counts g.met.K.Sink.takes_then end (one says) (takes_own_measures ms) s b e
    (does_one g.D.Disk.view g.K.Sink.takes g.K.Sink.fails g.K.Sink.faults g.L.Link.story g.L.Link.counts says (one says) s b (λ honest. refl) first)
    (subst (λ (x : Settings). Stops g.D.Disk.view g.K.Sink.takes g.K.Sink.fails g.K.Sink.faults g.L.Link.story g.L.Link.counts end (takes_own_measures x.measures) b e) first.config stops))) c.take_measures.ensures.stops

pub returns-in_err-says_first-clause-stops : goal.returns-in_err-says_first-clause-stops
returns-in_err-says_first-clause-stops g c =
    let p = err_from_is_err_and c.from_residual.result c.from_residual.ensures.1 in
    let s = c.args.server.now in
    let b = c.says_first.new.self in
    let end = c.in_err-says_first.field-0.0 in
    let told = told_first s.log s.kept.node.control s.kept.content.shelves in
    let ms = s.config.measures in
    rw (p.1, p.2) (stops_as g.D.Disk.view g.K.Sink.takes g.K.Sink.fails g.K.Sink.faults g.L.Link.story g.L.Link.counts end (one (Says told) >> takes_own_measures ms) (begins_with ms) s b (λ honest. ap (λ (ls : List Shelf). begins_on (setting s) ms s.kept.node.control ls) (sym (c.recovers.ensures.groups honest)))
    (stops_in g.D.Disk.view g.K.Sink.takes g.K.Sink.fails g.K.Sink.faults g.L.Link.story g.L.Link.counts end (one (Says told)) (takes_own_measures ms) s b
    (note_stops g.D.Disk.view g.K.Sink.takes g.K.Sink.fails g.K.Sink.faults g.L.Link.story g.L.Link.counts g.met.K.Sink.takes_nothing end told (Says told) (one (Says told)) s b c.requires.serving.is_open (λ honest. refl) refl c.in_err-says_first.ensures.breaks)))
