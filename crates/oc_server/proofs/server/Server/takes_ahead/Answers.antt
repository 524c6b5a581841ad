use Rattle.std.proofs.Common.{◌∷◌, [], refl}
use Rattle.std.proofs.lemmas.Result.{err_from_is_err_and}
use Rattle.oc_deeds.specs.Deeds.{Says, Takes}
use Rattle.oc_deeds.specs.Parts.{one, ◌>>◌}
use Rattle.oc_deeds.specs.Records.{told_ahead}
use Rattle.oc_deeds.specs.Telling.{says_ahead, takes_ahead}
use Rattle.oc_server.proofs.Ahead.{ahead_input, ahead_serving, ahead_stops, ahead_then_stops}
use Rattle.oc_server.proofs.Parts.{stops_as}
use Rattle.oc_server.proofs.Scenes.{did_then}
use Rattle.oc_server.proofs.Stopping.{takes_stops}
use Rattle.oc_server.proofs.server.Server.takes_ahead.Goals as goal

pub takes-requires-clause-serving : goal.takes-requires-clause-serving
takes-requires-clause-serving g c = ahead_serving g.D.Disk.view g.K.Sink.takes g.K.Sink.fails g.K.Sink.faults g.L.Link.story g.L.Link.counts c.args.input c.args.self.now c.says_ahead.new.self c.in_ok-says_ahead.ensures.did c.requires.serving

pub takes-requires-clause-input : goal.takes-requires-clause-input
takes-requires-clause-input g c = ahead_input g.D.Disk.view g.K.Sink.takes g.K.Sink.fails g.K.Sink.faults g.L.Link.story g.L.Link.counts c.args.input c.args.self.now c.says_ahead.new.self c.in_ok-says_ahead.ensures.did c.requires.input

pub returns-clause-did : goal.returns-clause-did
returns-clause-did g c =
    let s = c.args.self.now in
    did_then g.D.Disk.view g.K.Sink.takes g.K.Sink.fails g.K.Sink.faults g.L.Link.story g.L.Link.counts g.met.K.Sink.takes_then (Says (told_ahead s.log s.kept.node.control.me c.args.input) ∷ []) (Takes c.args.input ∷ []) s c.says_ahead.new.self c.takes.new.self c.in_ok-says_ahead.ensures.did c.in_ok-_answer.ensures.did

pub returns-in_err-_answer-clause-breaks : goal.returns-in_err-_answer-clause-breaks
returns-in_err-_answer-clause-breaks g c =
    let p = err_from_is_err_and c.from_residual-in_err-_answer.result c.from_residual-in_err-_answer.ensures.1 in
    let s = c.args.self.now in
    let b = c.says_ahead.new.self in
    let i = c.args.input in
    let did = c.in_ok-says_ahead.ensures.did in
    rw (p.1, p.2) (stops_as g.D.Disk.view g.K.Sink.takes g.K.Sink.fails g.K.Sink.faults g.L.Link.story g.L.Link.counts c.in_err-_answer.field-0.0 (says_ahead i >> one (Takes i)) (takes_ahead i) s c.takes.new.self (λ honest. refl)
    (ahead_then_stops g.D.Disk.view g.K.Sink.takes g.K.Sink.fails g.K.Sink.faults g.L.Link.story g.L.Link.counts i s b did g.met.K.Sink.takes_then c.in_err-_answer.field-0.0 (one (Takes i)) c.takes.new.self
    (takes_stops g.D.Disk.view g.K.Sink.takes g.K.Sink.fails g.K.Sink.faults g.L.Link.story g.L.Link.counts g.met.K.Sink.takes_nothing c.in_err-_answer.field-0.0 i (one (Takes i)) b c.takes.new.self did.is_open (λ honest. refl) c.in_err-_answer.ensures.breaks)))

pub returns-in_err-says_ahead-clause-breaks : goal.returns-in_err-says_ahead-clause-breaks
returns-in_err-says_ahead-clause-breaks g c =
    let p = err_from_is_err_and c.from_residual.result c.from_residual.ensures.1 in
    let i = c.args.input in
    rw (p.1, p.2) (stops_as g.D.Disk.view g.K.Sink.takes g.K.Sink.fails g.K.Sink.faults g.L.Link.story g.L.Link.counts c.in_err-says_ahead.field-0.0 (says_ahead i >> one (Takes i)) (takes_ahead i) c.args.self.now c.says_ahead.new.self (λ honest. refl)
    (ahead_stops g.D.Disk.view g.K.Sink.takes g.K.Sink.fails g.K.Sink.faults g.L.Link.story g.L.Link.counts i c.args.self.now g.met.K.Sink.takes_nothing c.in_err-says_ahead.field-0.0 (one (Takes i)) c.says_ahead.new.self c.requires.serving.is_open c.in_err-says_ahead.ensures.breaks))
