use Rattle.std.proofs.Common.{refl}
use Rattle.oc_deeds.specs.Deeds.{Says}
use Rattle.oc_deeds.specs.Records.{told_ahead}
use Rattle.oc_deeds.specs.Telling.{says_ahead}
use Rattle.oc_server.proofs.Parts.{does_one}
use Rattle.oc_deeds.proofs.Results.{done_then, err_then}
use Rattle.oc_server.proofs.Stopping.{note_stops}
use Rattle.oc_server.proofs.doing.ServerDoer.says_ahead.Goals as goal

pub returns-clause-did : goal.returns-clause-did
returns-clause-did g c = done_then c.says_ahead.result (λ did. does_one g.D.Disk.view g.K.Sink.takes g.K.Sink.fails g.K.Sink.faults g.L.Link.story g.L.Link.counts (Says (told_ahead c.args.self.now.log c.args.self.now.kept.node.control.me c.args.input.now)) (says_ahead c.args.input.now) c.args.self.now c.says_ahead.new.self (λ honest. refl) did) c.says_ahead.ensures.did

pub returns-clause-breaks : goal.returns-clause-breaks
returns-clause-breaks g c = err_then c.says_ahead.result (λ end breaks. note_stops g.D.Disk.view g.K.Sink.takes g.K.Sink.fails g.K.Sink.faults g.L.Link.story g.L.Link.counts g.met.K.Sink.takes_nothing end (told_ahead c.args.self.now.log c.args.self.now.kept.node.control.me c.args.input.now) (Says (told_ahead c.args.self.now.log c.args.self.now.kept.node.control.me c.args.input.now)) (says_ahead c.args.input.now) c.args.self.now c.says_ahead.new.self c.requires.serving.is_open (λ honest. refl) refl breaks) c.says_ahead.ensures.breaks
