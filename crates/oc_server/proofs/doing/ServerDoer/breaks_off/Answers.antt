use Rattle.std.proofs.Common.{List, refl, ap, subst, sym}
use Rattle.std.specs.List.{AllByRecursion}
use Rattle.oc_keep.specs.KeptView.{node_of}
use Rattle.oc_routes.specs.Sights.{about_of}
use Rattle.oc_deeds.specs.Deeds.{BreaksOff}
use Rattle.oc_deeds.specs.Lawful.{IsLawfulWork}
use Rattle.oc_deeds.specs.declared.work.Work.{Work}
use Rattle.oc_deeds.proofs.Lawful.{works_without}
use Rattle.oc_server.proofs.Steps.{did_works}
use Rattle.oc_server.proofs.Parts.{does_one}
use Rattle.oc_deeds.specs.Parts.{one}
use Rattle.oc_server.proofs.doing.ServerDoer.breaks_off.Goals as goal

pub returns : goal.returns
returns g c =
    let s = c.args.self.now in
    let x = c.args.connection in
    let nodes = s.kept.node.control.nodes in
    let me = s.kept.node.control.me in
    let is = c.take-gone.ensures.rest in
    does_one g.D.Disk.view g.K.Sink.takes g.K.Sink.fails g.K.Sink.faults g.L.Link.story g.L.Link.counts (BreaksOff c.args.connection) (one (BreaksOff c.args.connection)) s _ (λ honest. refl)
    (did_works g.D.Disk.view g.K.Sink.takes g.K.Sink.fails g.K.Sink.faults g.L.Link.story g.L.Link.counts g.met.K.Sink.takes_nothing (BreaksOff x) s c.take-gone.new.self c.break_off.new.self refl refl refl c.requires.is_open c.break_off.ensures.counts
    (λ all. subst (λ (ws : List Work). AllByRecursion (IsLawfulWork nodes me) ws) (sym is) (works_without nodes me x s.works all))
    (ap (λ (ws : List Work). record { node = node_of s.kept; outbox = s.outbox; works = ws; dials = s.dials; config = s.config; tally = s.tally; about = about_of s.about }) is)
    c.break_off.ensures.story)
