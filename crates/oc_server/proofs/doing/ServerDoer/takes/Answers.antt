use Rattle.std.proofs.Common.{refl}
use Rattle.oc_deeds.specs.Deeds.{Takes}
use Rattle.oc_deeds.specs.Parts.{one}
use Rattle.oc_server.proofs.Parts.{does_one}
use Rattle.oc_deeds.proofs.Results.{done_then, err_then}
use Rattle.oc_server.proofs.Stopping.{takes_stops}
use Rattle.oc_server.proofs.doing.ServerDoer.takes.Goals as goal

pub returns-clause-did : goal.returns-clause-did
returns-clause-did g c = done_then c.takes.result (λ did. does_one g.D.Disk.view g.K.Sink.takes g.K.Sink.fails g.K.Sink.faults g.L.Link.story g.L.Link.counts (Takes c.args.input) (one (Takes c.args.input)) c.args.self.now c.takes.new.self (λ honest. refl) did) c.takes.ensures.did

pub returns-clause-breaks : goal.returns-clause-breaks
returns-clause-breaks g c = err_then c.takes.result (λ end breaks. takes_stops g.D.Disk.view g.K.Sink.takes g.K.Sink.fails g.K.Sink.faults g.L.Link.story g.L.Link.counts g.met.K.Sink.takes_nothing end c.args.input (one (Takes c.args.input)) c.args.self.now c.takes.new.self c.requires.serving.is_open (λ honest. refl) breaks) c.takes.ensures.breaks
