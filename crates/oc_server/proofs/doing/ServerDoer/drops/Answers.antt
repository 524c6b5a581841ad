use Rattle.std.proofs.Common.{List, refl, ap, subst, sym, codes, Bool}
use Rattle.std.proofs.lemmas.Result.{err_from_is_err_and}
use Rattle.std.specs.List.{AllByRecursion}
use Rattle.oc_link.proofs.Stories.{adds-none}
use Rattle.oc_keep.specs.KeptView.{node_of}
use Rattle.oc_routes.specs.Sights.{about_of}
use Rattle.oc_deeds.specs.Deeds.{Drops, note_line}
use Rattle.oc_deeds.specs.Lawful.{IsLawfulWork}
use Rattle.oc_deeds.specs.declared.work.Work.{Work}
use Rattle.oc_deeds.proofs.Lawful.{works_without}
use Rattle.oc_server.proofs.Steps.{did_line}
use Rattle.oc_server.proofs.Parts.{does_one}
use Rattle.oc_server.proofs.Stopping.{line_stops}
use Rattle.oc_deeds.specs.Parts.{one}
use Rattle.oc_deeds.specs.Under.{under_of}
use Rattle.oc_server.proofs.doing.ServerDoer.drops.Goals as goal

pub returns-clause-did : goal.returns-clause-did
returns-clause-did g c =
    let s = c.args.self.now in
    let x = c.args.connection in
    let nodes = s.kept.node.control.nodes in
    let me = s.kept.node.control.me in
    let is = c.take-gone.ensures.rest in
    does_one g.D.Disk.view g.K.Sink.takes g.K.Sink.fails g.K.Sink.faults g.L.Link.story g.L.Link.counts (Drops c.args.connection c.args.told) (one (Drops c.args.connection c.args.told)) s _ (λ honest. refl)
    (did_line g.D.Disk.view g.K.Sink.takes g.K.Sink.fails g.K.Sink.faults g.L.Link.story g.L.Link.counts (Drops x c.args.told) s c.write_told.new.sink c.take-gone.new.self s.link s.tally refl refl c.requires.is_open refl c.in_ok-write_told.ensures.wrote c.write_told.ensures.count
    (λ all. subst (λ (ws : List Work). AllByRecursion (IsLawfulWork nodes me) ws) (sym is) (works_without nodes me x s.works all))
    (ap (λ (ws : List Work). record { node = node_of s.kept; outbox = s.outbox; works = ws; dials = s.dials; config = s.config; tally = s.tally; about = about_of s.about }) is)
    (adds-none (g.L.Link.story s.link)))

pub returns-in_err-write_told-clause-breaks : goal.returns-in_err-write_told-clause-breaks
returns-in_err-write_told-clause-breaks g c =
    let p = err_from_is_err_and c.from_residual.result c.from_residual.ensures.1 in
    let stops = c.in_err-write_told.ensures.stops in
    rw (p.1, p.2) (line_stops g.D.Disk.view g.K.Sink.takes g.K.Sink.fails g.K.Sink.faults g.L.Link.story g.L.Link.counts g.met.K.Sink.takes_nothing c.in_err-write_told.field-0.0 (note_line (codes "write")) (note_line (codes "write")) (Drops c.args.connection c.args.told) (one (Drops c.args.connection c.args.told)) c.args.self.now _ c.requires.is_open (λ honest. refl) (ap (λ (b : Bool). under_of (Drops c.args.connection b)) (sym stops.0)) refl refl refl refl stops.1 (c.recovers.ensures.survives c.requires.is_open))
