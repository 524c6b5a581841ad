use Rattle.std.proofs.Common.{List, refl, ap, subst, sym, arith}
use Rattle.std.specs.List.{AllByRecursion}
use Rattle.oc_keep.specs.KeptView.{node_of}
use Rattle.oc_routes.specs.Sights.{about_of}
use Rattle.oc_deeds.specs.Deeds.{Sees}
use Rattle.oc_deeds.specs.Lawful.{IsLawfulDial}
use Rattle.oc_deeds.specs.declared.dials.Dialling.{Dialling}
use Rattle.oc_deeds.proofs.Lawful.{dials_seen}
use Rattle.oc_server.proofs.Lawful.{lawful_of}
use Rattle.oc_server.proofs.Looking.{looks_none}
use Rattle.oc_server.proofs.Steps.{did_step, event_bytes, link_breaks}
use Rattle.oc_server.proofs.server.Server.sees.Goals as goal

pub returns-in-Ok-clause-did : goal.returns-in-Ok-clause-did
returns-in-Ok-clause-did g c =
    let s = c.args.self.now in
    let e = c.in-Ok.event in
    let told = event_bytes e (g.L.Link.lends c.next.new.self) (g.L.Link.story s.link) (g.L.Link.story c.next.new.self) c.in-Ok.ensures.story in
    let is = c.errand_in-errand.ensures.rest in (
      told.0,
      did_step g.D.Disk.view g.K.Sink.takes g.K.Sink.fails g.K.Sink.faults g.L.Link.story g.L.Link.counts (Sees e c.args.wait told.0) s _ refl refl refl refl (g.met.K.Sink.takes_nothing s.sink) (omega arith)
          (g.L.Link.counts c.next.new.self, c.in-Ok.ensures.counts, refl) (looks_none g.D.Disk.view s.kept c.requires.is_open)
          (lawful_of s _ (record { me = refl; header = refl }) (λ all. all) (λ all. all)
          (λ all. subst (λ (ds : List Dialling). AllByRecursion (IsLawfulDial s.kept.node.control.nodes) ds) (sym is) (dials_seen s.kept.node.control.nodes e s.dials all)))
          (λ honest. ap (λ (ds : List Dialling). record { node = node_of s.kept; outbox = s.outbox; works = s.works; dials = ds; config = s.config; tally = s.tally; about = about_of s.about }) is) (λ honest. told.1),
    )

pub returns-in-Err-clause-breaks : goal.returns-in-Err-clause-breaks
returns-in-Err-clause-breaks g c =
    (refl, link_breaks g.D.Disk.view g.K.Sink.takes g.K.Sink.fails g.K.Sink.faults g.L.Link.story g.L.Link.counts g.met.K.Sink.takes_nothing c.args.self.now _ refl refl c.in-Err.ensures.story c.in-Err.ensures.counts.0 (c.recovers.ensures.survives c.requires.is_open))
