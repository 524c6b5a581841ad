use Rattle.std.proofs.Common.{refl}
use Rattle.oc_deeds.specs.Parts.{nothing}
use Rattle.oc_deeds.proofs.Results.{done_then, err_then}
use Rattle.oc_server.proofs.Responding.{looked_on}
use Rattle.oc_server.proofs.Stopping.{look_stops}
use Rattle.oc_server.proofs.doing.ServerDoer.has_to_wait.Goals as goal

pub returns-clause-did : goal.returns-clause-did
returns-clause-did g c =
    done_then c.has_to_wait.result (λ looks. looked_on g.D.Disk.view g.K.Sink.takes g.K.Sink.fails g.K.Sink.faults g.L.Link.story g.L.Link.counts g.met.K.Sink.takes_nothing c.args.self.now c.has_to_wait.new.kept looks) c.has_to_wait.ensures.looks

pub returns-clause-breaks : goal.returns-clause-breaks
returns-clause-breaks g c =
    err_then c.has_to_wait.result (λ end stops. look_stops g.D.Disk.view g.K.Sink.takes g.K.Sink.fails g.K.Sink.faults g.L.Link.story g.L.Link.counts g.met.K.Sink.takes_nothing end nothing c.args.self.now _ c.requires.serving.is_open refl refl refl stops) c.has_to_wait.ensures.stops
