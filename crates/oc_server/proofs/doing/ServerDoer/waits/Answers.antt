use Rattle.std.proofs.Common.{refl, ap, subst, sym, List}
use Rattle.std.proofs.lemmas.Result.{err_from_is_err_and}
use Rattle.std.specs.List.{AllByRecursion}
use Rattle.oc_keep.specs.KeptView.{node_of}
use Rattle.oc_routes.specs.Sights.{about_of}
use Rattle.oc_deeds.specs.Deeds.{Waits}
use Rattle.oc_deeds.specs.Lawful.{IsLawfulWork}
use Rattle.oc_deeds.specs.declared.work.Work.{Work}
use Rattle.oc_deeds.specs.declared.work.Work.TheVariants as works
use Rattle.oc_deeds.proofs.Lawful.{works_with}
use Rattle.oc_server.proofs.Steps.{did_works}
use Rattle.oc_server.proofs.Parts.{does_one}
use Rattle.oc_server.proofs.Stopping.{memory_stops}
use Rattle.oc_deeds.specs.Parts.{one}
use Rattle.oc_server.proofs.doing.ServerDoer.waits.Goals as goal

pub returns-clause-did : goal.returns-clause-did
returns-clause-did g c =
    let s = c.args.self.now in
    does_one g.D.Disk.view g.K.Sink.takes g.K.Sink.fails g.K.Sink.faults g.L.Link.story g.L.Link.counts (Waits c.args.waiting) (one (Waits c.args.waiting)) s _ (λ honest. refl)
    (did_works g.D.Disk.view g.K.Sink.takes g.K.Sink.fails g.K.Sink.faults g.L.Link.story g.L.Link.counts g.met.K.Sink.takes_nothing (Waits c.args.waiting) s c.begin.new.self c.take.new.self refl refl refl c.requires.serving.is_open c.take.ensures.counts
    (λ all. subst (λ (ws : List Work). AllByRecursion (IsLawfulWork s.kept.node.control.nodes s.kept.node.control.me) ws) (sym c.in_ok-begin.ensures.begun)
    (works_with s.kept.node.control.nodes s.kept.node.control.me s.works (works.Waits c.args.waiting) all c.requires.waiting))
    (ap (λ (ws : List Work). record { node = node_of s.kept; outbox = s.outbox; works = ws; dials = s.dials; config = s.config; tally = s.tally; about = about_of s.about }) c.in_ok-begin.ensures.begun)
    c.take.ensures.story)

pub returns-in_err-begin-clause-breaks : goal.returns-in_err-begin-clause-breaks
returns-in_err-begin-clause-breaks g c =
    let p = err_from_is_err_and c.from_residual.result c.from_residual.ensures.1 in
    rw (p.1, p.2) (memory_stops g.D.Disk.view g.K.Sink.takes g.K.Sink.fails g.K.Sink.faults g.L.Link.story g.L.Link.counts g.met.K.Sink.takes_nothing (one (Waits c.args.waiting)) c.args.self.now _ c.requires.serving.is_open refl refl refl refl (c.recovers.ensures.survives c.requires.serving.is_open))
