use Rattle.std.proofs.Common.{ap, arith, refl}
use Rattle.oc_link.proofs.Stories.{adds-none}
use Rattle.oc_io.specs.Faults.{NoFall}
use Rattle.oc_routes.specs.Tallies.{TallyView}
use Rattle.oc_deeds.specs.Deeds.{Rejects}
use Rattle.oc_server.specs.Scenes.{running}
use Rattle.oc_server.proofs.Steps.{did_line}
use Rattle.oc_server.proofs.Parts.{does_one}
use Rattle.oc_deeds.specs.Parts.{one}
use Rattle.oc_server.proofs.doing.ServerDoer.rejects.Goals as goal

pub returns : goal.returns
returns g c =
    let s = c.args.self.now in
    does_one g.D.Disk.view g.K.Sink.takes g.K.Sink.fails g.K.Sink.faults g.L.Link.story g.L.Link.counts (Rejects c.args.fault) (one (Rejects c.args.fault)) s _ (λ honest. refl)
    (did_line g.D.Disk.view g.K.Sink.takes g.K.Sink.fails g.K.Sink.faults g.L.Link.story g.L.Link.counts (Rejects c.args.fault) s s.sink s.works s.link c.refuses.new.self refl refl c.requires.is_open refl
    (g.met.K.Sink.takes_nothing s.sink) (omega arith) (λ all. all) (ap (λ (t : TallyView). record (running s) { tally = t }) c.refuses.ensures) (adds-none (g.L.Link.story s.link)))
