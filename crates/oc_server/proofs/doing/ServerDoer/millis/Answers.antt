use Rattle.std.proofs.Common.{refl}
use Rattle.oc_deeds.specs.Deeds.{Reads}
use Rattle.oc_server.proofs.Steps.{did_works}
use Rattle.oc_server.proofs.Parts.{does_one}
use Rattle.oc_deeds.specs.Parts.{one}
use Rattle.oc_server.proofs.doing.ServerDoer.millis.Goals as goal

pub returns : goal.returns
returns g c =
    let s = c.args.self.now in
    does_one g.D.Disk.view g.K.Sink.takes g.K.Sink.fails g.K.Sink.faults g.L.Link.story g.L.Link.counts (Reads c.millis.result) (one (Reads c.millis.result)) s _ (λ honest. refl)
    (did_works g.D.Disk.view g.K.Sink.takes g.K.Sink.fails g.K.Sink.faults g.L.Link.story g.L.Link.counts g.met.K.Sink.takes_nothing (Reads c.millis.result) s s.works c.millis.new.self refl refl refl c.requires.is_open c.millis.ensures.counts (λ all. all) refl c.millis.ensures.story)
