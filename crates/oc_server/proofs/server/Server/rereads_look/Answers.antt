use Rattle.std.proofs.Common.{refl}
use Rattle.std.proofs.lemmas.Result.{err_from_is_err_and}
use Rattle.oc_server.proofs.Steps.{memory_breaks}
use Rattle.oc_server.proofs.server.Server.rereads_look.Goals as goal

pub returns-in_err-reread-clause-breaks : goal.returns-in_err-reread-clause-breaks
returns-in_err-reread-clause-breaks g c =
    let p = err_from_is_err_and c.from_residual.result c.from_residual.ensures.1 in
    rw (p.1, p.2) (refl, memory_breaks g.D.Disk.view g.K.Sink.takes g.K.Sink.fails g.K.Sink.faults g.L.Link.story g.L.Link.counts g.met.K.Sink.takes_nothing c.args.self.now c.args.self.now refl refl refl refl (c.recovers.ensures.survives c.requires.is_open))
