use Rattle.std.proofs.Common.{refl}
use Rattle.oc_server.proofs.Lawful.{lawful_of, seat_of}
use Rattle.oc_deeds.proofs.Results.{done_then, err_then}
use Rattle.oc_server.proofs.Steps.{did_look, look_breaks}
use Rattle.oc_server.proofs.server.Server.tidies.Goals as goal

pub returns-clause-did : goal.returns-clause-did
returns-clause-did g c =
    done_then c.tidy.result (λ looks. did_look g.D.Disk.view g.K.Sink.takes g.K.Sink.fails g.K.Sink.faults g.L.Link.story g.L.Link.counts g.met.K.Sink.takes_nothing c.args.self.now _ refl refl refl refl refl refl refl refl refl (lawful_of c.args.self.now _ (seat_of _ _ looks.same) (λ all. all) (λ all. all) (λ all. all)) looks) c.tidy.ensures.looks

pub returns-clause-breaks : goal.returns-clause-breaks
returns-clause-breaks g c =
    err_then c.tidy.result (λ end stops. look_breaks g.D.Disk.view g.K.Sink.takes g.K.Sink.fails g.K.Sink.faults g.L.Link.story g.L.Link.counts g.met.K.Sink.takes_nothing end c.args.self.now _ refl refl refl stops) c.tidy.ensures.stops
