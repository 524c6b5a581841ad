use Rattle.std.proofs.Common.{◌≡◌, ◌∙◌, List, [], ◌∷◌, ℕ, false, refl, ap, sym, subst, arith}
use Rattle.oc_keep.specs.KeptView.{going_by}
use Rattle.oc_deeds.specs.Areas.{areas_among}
use Rattle.oc_deeds.specs.Deeds.{Rereads}
use Rattle.oc_deeds.specs.Parts.{one}
use Rattle.oc_deeds.proofs.Areas.{areas_many}
use Rattle.oc_server.specs.Scenes.{Did}
use Rattle.oc_server.proofs.Parts.{does_one}
use Rattle.oc_server.proofs.Places.{placed}
use Rattle.oc_server.proofs.Steps.{did_reread}
use Rattle.oc_server.proofs.doing.ServerDoer.rereads.Goals as goal

pub set_areas-requires-clause-many : goal.set_areas-requires-clause-many
set_areas-requires-clause-many g c = areas_many c.args.self.now.kept.node.control.nodes c.args.config.areas c.args.areas.items c.requires.areas (omega (arith, c.requires.config.places.areas, c.requires.nodes))

pub set_areas-requires-clause-bytes : goal.set_areas-requires-clause-bytes
set_areas-requires-clause-bytes g c = c.requires.bytes

pub returns : goal.returns
returns g c =
    let s = c.args.self.now in
    let config = c.args.config in
    let kept : c.set_areas.new.self ≡ going_by (areas_among s.kept.node.control.nodes config.areas) s.kept = c.set_areas.ensures ∙ ap (λ (areas : List ℕ). going_by areas s.kept) c.requires.areas in
    does_one g.D.Disk.view g.K.Sink.takes g.K.Sink.fails g.K.Sink.faults g.L.Link.story g.L.Link.counts (Rereads config) (one (Rereads config)) s _ (λ honest. refl)
    (subst (λ k. Did g.D.Disk.view g.K.Sink.takes g.K.Sink.faults g.L.Link.story g.L.Link.counts (Rereads config ∷ []) s (record s { kept = k; config = config; about = record s.about { refused = false }; link = c.report.new.self })) (sym kept)
    (did_reread g.D.Disk.view g.K.Sink.takes g.K.Sink.fails g.K.Sink.faults g.L.Link.story g.L.Link.counts g.met.K.Sink.takes_nothing s config c.report.new.self c.requires.serving.is_open
    (placed s.kept.node.control.nodes config c.requires.config c.requires.nodes) c.requires.config.rules (λ is. sym c.requires.areas ∙ c.requires.recorded is) c.report.ensures.story c.report.ensures.counts))
