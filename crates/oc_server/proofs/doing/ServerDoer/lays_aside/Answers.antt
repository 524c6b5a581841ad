use Rattle.std.proofs.Common.{◌≡◌, ◌∷◌, ◌++◌, [], List, refl, ap, subst, sym, ◌∙◌}
use Rattle.std.proofs.lemmas.Result.{err_from_is_err_and}
use Rattle.std.specs.List.{AllByRecursion}
use Rattle.oc_link.proofs.Stories.{adds-none}
use Rattle.oc_keep.specs.KeptView.{node_of}
use Rattle.oc_routes.specs.Sights.{about_of}
use Rattle.oc_deeds.specs.Deeds.{LaysAside}
use Rattle.oc_deeds.specs.Lawful.{IsLawfulWork}
use Rattle.oc_deeds.specs.Works.{without_work}
use Rattle.oc_deeds.specs.declared.work.Work.{Work}
use Rattle.oc_deeds.specs.declared.work.Work.TheVariants as works
use Rattle.oc_deeds.proofs.Lawful.{works_with, works_without}
use Rattle.oc_server.proofs.Steps.{did_works}
use Rattle.oc_server.proofs.Parts.{does_one}
use Rattle.oc_server.proofs.Stopping.{memory_stops}
use Rattle.oc_deeds.specs.Parts.{one}
use Rattle.oc_server.proofs.doing.ServerDoer.lays_aside.Goals as goal

pub returns-clause-did : goal.returns-clause-did
returns-clause-did g c =
    let s = c.args.self.now in
    let p = c.args.transfer in
    let nodes = s.kept.node.control.nodes in
    let me = s.kept.node.control.me in
    let is : c.begin.new.self ≡ without_work p.connection s.works ++ works.Aside p ∷ [] = c.in_ok-begin.ensures.begun ∙ ap (λ (ws : List Work). ws ++ works.Aside p ∷ []) c.take-content.ensures.rest in
    does_one g.D.Disk.view g.K.Sink.takes g.K.Sink.fails g.K.Sink.faults g.L.Link.story g.L.Link.counts (LaysAside c.args.transfer) (one (LaysAside c.args.transfer)) s _ (λ honest. refl)
    (did_works g.D.Disk.view g.K.Sink.takes g.K.Sink.fails g.K.Sink.faults g.L.Link.story g.L.Link.counts g.met.K.Sink.takes_nothing (LaysAside p) s c.begin.new.self s.link refl refl refl c.requires.is_open refl
    (λ all. subst (λ (ws : List Work). AllByRecursion (IsLawfulWork nodes me) ws) (sym is) (works_with nodes me (without_work p.connection s.works) (works.Aside p) (works_without nodes me p.connection s.works all) tt))
    (ap (λ (ws : List Work). record { node = node_of s.kept; outbox = s.outbox; works = ws; dials = s.dials; config = s.config; tally = s.tally; about = about_of s.about }) is)
    (adds-none (g.L.Link.story s.link)))

pub returns-in_err-begin-clause-breaks : goal.returns-in_err-begin-clause-breaks
returns-in_err-begin-clause-breaks g c =
    let p = err_from_is_err_and c.from_residual.result c.from_residual.ensures.1 in
    rw (p.1, p.2) (memory_stops g.D.Disk.view g.K.Sink.takes g.K.Sink.fails g.K.Sink.faults g.L.Link.story g.L.Link.counts g.met.K.Sink.takes_nothing (one (LaysAside c.args.transfer)) c.args.self.now _ c.requires.is_open refl refl refl refl (c.recovers.ensures.survives c.requires.is_open))
