use Rattle.std.proofs.Common.{◌≡◌, ◌∙◌, ◌++◌, [], List, drop, refl, rules, subst, suc, sym}
use Rattle.std.specs.Prelude.{All}
use Rattle.oc_updown.specs.MeasureLines.{IsMeasure}
use Rattle.std.proofs.lemmas.Result.{err_from_is_err_and}
use Rattle.oc_config.specs.Settings.{Settings}
use Rattle.oc_keep.specs.KeptView.{IsHonest}
use Rattle.oc_model.specs.Node.{Header}
use Rattle.oc_deeds.specs.Deeds.{Deed, Setting}
use Rattle.oc_deeds.specs.Under.{Cuts}
use Rattle.oc_server.specs.Scenes.{Did, setting}
use Rattle.oc_service.specs.WhatNodeDoes.{own_measure, own_measures}
use Rattle.oc_deeds.proofs.Cuts.{cuts_behind, cuts_more}
use Rattle.oc_server.proofs.Scenes.{breaks_then, did_none, did_then, setting_stays, still_honest, still_serving}
use Rattle.oc_service.proofs.Measured.{all_measured, measure_more, measures_here, own_config}
use Rattle.oc_service.proofs.measuring.take_measures.Goals as goal

pub measures-init : goal.measures-init
measures-init g c =
    let s = c.args.server.now in
    record {
      serving = c.requires.serving;
      config = refl;
      lawful = c.requires.lawful;
      far = ([], refl, did_none g.D.Disk.view g.K.Sink.takes g.K.Sink.fails g.K.Sink.faults g.L.Link.story g.L.Link.counts g.met.K.Sink.takes_nothing s c.requires.serving.is_open);
    }

pub returns-in_err-take_measure-clause-stops : goal.returns-in_err-take_measure-clause-stops
returns-in_err-take_measure-clause-stops g c =
    let p = err_from_is_err_and c.from_residual.result c.from_residual.ensures.1 in
    let s = c.args.server.now in
    let l = c.measures in
    let m = c.index-measure.result.now in
    let far = l.invariant.far in
    let stops = c.in_err-take_measure.ensures.stops in
    let same : setting l.server ≡ setting s = setting_stays g.D.Disk.view g.K.Sink.takes g.K.Sink.fails g.K.Sink.faults g.L.Link.story g.L.Link.counts s l.server far.2.same far.2.log in
    let here = own_measure (setting s) m in
    let more = own_measures (setting s) (drop (suc l.place) s.config.measures) in
    let cut : IsHonest g.D.Disk.view s.kept → Cuts here stops.deeds stops.under =
    λ honest. subst (λ (x : Setting). Cuts (own_measure x m) stops.deeds stops.under) same (stops.cut (still_honest g.D.Disk.view g.K.Sink.takes g.K.Sink.fails g.K.Sink.faults g.L.Link.story g.L.Link.counts far.0 s l.server far.2 honest)) in
    rw (p.1, p.2) (record {
      deeds = far.0 ++ stops.deeds;
      under = stops.under;
      breaks = breaks_then g.D.Disk.view g.K.Sink.takes g.K.Sink.fails g.K.Sink.faults g.L.Link.story g.L.Link.counts g.met.K.Sink.takes_then far.0 stops.deeds stops.under c.in_err-take_measure.field-0.0 s l.server c.take_measure.new.server far.2 stops.breaks;
      cut = λ honest.
          subst (λ (ds : List Deed). Cuts ds (far.0 ++ stops.deeds) stops.under) (sym (measures_here (setting s) s.config.measures l.place m far.0 (search rules) (search rules) far.1))
          (cuts_behind far.0 (here ++ more) stops.deeds stops.under (cuts_more here more stops.deeds stops.under (cut honest)));
    })

pub measures-preserved : goal.measures-preserved
measures-preserved g c =
    let s = c.args.server.now in
    let l = c.measures in
    let t = c.take_measure.new.server in
    let m = c.index-measure.result.now in
    let far = l.invariant.far in
    let did = c.in_ok-take_measure.ensures.did in
    let same : setting l.server ≡ setting s = setting_stays g.D.Disk.view g.K.Sink.takes g.K.Sink.fails g.K.Sink.faults g.L.Link.story g.L.Link.counts s l.server far.2.same far.2.log in
    let stays : t.config ≡ l.server.config = did.config ∙ own_config (setting l.server) m l.server.config in
    record {
      serving = still_serving g.D.Disk.view g.K.Sink.takes g.K.Sink.fails g.K.Sink.faults g.L.Link.story g.L.Link.counts (own_measure (setting l.server) m) l.server t did l.invariant.serving;
      config = stays ∙ l.invariant.config;
      lawful = subst (λ (x : Settings). All (IsMeasure t.kept.node.control.nodes) x.measures) (sym stays)
          (subst (λ (h : Header). All (IsMeasure h.nodes) l.server.config.measures) (sym did.same.header) l.invariant.lawful);
      far = (
        far.0 ++ own_measure (setting s) m,
        measure_more (setting s) s.config.measures l.place m far.0 (search rules) (search rules) far.1,
        did_then g.D.Disk.view g.K.Sink.takes g.K.Sink.fails g.K.Sink.faults g.L.Link.story g.L.Link.counts g.met.K.Sink.takes_then far.0 (own_measure (setting s) m) s l.server t far.2
            (subst (λ (x : Setting). Did g.D.Disk.view g.K.Sink.takes g.K.Sink.faults g.L.Link.story g.L.Link.counts (own_measure x m) l.server t) same did),
      );
    }

pub returns-clause-did : goal.returns-clause-did
returns-clause-did g c =
    let s = c.args.server.now in
    let l = c.measures in
    let far = l.invariant.far in
    subst (λ (ds : List Deed). Did g.D.Disk.view g.K.Sink.takes g.K.Sink.faults g.L.Link.story g.L.Link.counts ds s l.server)
    (all_measured (setting s) s.config.measures l.place far.0 (search rules) far.1) far.2
