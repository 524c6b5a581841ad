use Rattle.std.proofs.Common.{refl}
use Rattle.oc_server.proofs.Steps.{memory_breaks}
use Rattle.oc_server.proofs.Stopping.{stops_idle}
use Rattle.oc_deeds.specs.declared.ends.TurnEnd.TheVariants as ends
use Rattle.oc_server.proofs.doing.ServerDoer.may_end.Goals as goal

pub returns : goal.returns
returns g c = λ p.
    let s = c.args.self.now in
    stops_idle g.D.Disk.view g.K.Sink.takes g.K.Sink.fails g.K.Sink.faults g.L.Link.story g.L.Link.counts g.met.K.Sink.takes_nothing ends.Memory p s s c.requires.is_open (memory_breaks g.D.Disk.view g.K.Sink.takes g.K.Sink.fails g.K.Sink.faults g.L.Link.story g.L.Link.counts g.met.K.Sink.takes_nothing s s refl refl refl refl (c.recovers.ensures.survives c.requires.is_open))
