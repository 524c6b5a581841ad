use Rattle.std.proofs.Common.{ap, refl}
use Rattle.oc_routes.specs.Sights.{AboutView}
use Rattle.oc_deeds.specs.Deeds.{Looks}
use Rattle.oc_deeds.specs.Parts.{one}
use Rattle.oc_server.specs.Scenes.{running}
use Rattle.oc_server.proofs.Steps.{did_told}
use Rattle.oc_server.proofs.Parts.{does_one}
use Rattle.oc_server.proofs.doing.ServerDoer.looks.Goals as goal

pub returns : goal.returns
returns g c =
    let s = c.args.self.now in
    let look = c.look-look.result in
    does_one g.D.Disk.view g.K.Sink.takes g.K.Sink.fails g.K.Sink.faults g.L.Link.story g.L.Link.counts (Looks look) (one (Looks look)) s _ (λ honest. refl)
    (did_told g.D.Disk.view g.K.Sink.takes g.K.Sink.fails g.K.Sink.faults g.L.Link.story g.L.Link.counts g.met.K.Sink.takes_nothing (Looks look) s c.when_seen-self.result c.look-look.new.self refl refl refl c.requires.is_open c.look-look.ensures.counts
    (ap (λ (x : AboutView). record (running s) { about = x }) c.when_seen-self.ensures) c.look-look.ensures.story)
