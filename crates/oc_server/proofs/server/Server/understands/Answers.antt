use Rattle.std.proofs.Common.{refl, ap}
use Rattle.std.proofs.lemmas.Result.{err_from_is_err_and}
use Rattle.oc_server.proofs.Steps.{memory_breaks}
use Rattle.oc_server.proofs.server.Server.understands.Goals as goal

pub meaning_of-requires-clause-set : goal.meaning_of-requires-clause-set
meaning_of-requires-clause-set g c = c.requires.serving.set

pub returns-in_err-meaning_of-clause-breaks : goal.returns-in_err-meaning_of-clause-breaks
returns-in_err-meaning_of-clause-breaks g c =
    let p = err_from_is_err_and c.from_residual.result c.from_residual.ensures.1 in
    let same = c.meaning_of.ensures.same in
    rw (p.1, p.2) (
      refl,
      memory_breaks g.D.Disk.view g.K.Sink.takes g.K.Sink.fails g.K.Sink.faults g.L.Link.story g.L.Link.counts g.met.K.Sink.takes_nothing c.args.self.now c.meaning_of.new.self
          (ap (λ s. s.kept) same) (ap (λ s. s.sink) same) (ap (λ s. g.L.Link.story s.link) same) (ap (λ s. g.L.Link.counts s.link) same) (c.recovers.ensures.survives c.requires.serving.is_open),
    )
