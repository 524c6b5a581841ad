use Rattle.std.proofs.Common.{refl, sym, ap, ◌∙◌, Option}
use Rattle.std.proofs.lemmas.Result.{err_from_is_err_and}
use Rattle.oc_server.proofs.Dialled.{dialled}
use Rattle.oc_deeds.proofs.Lawful.{none_there}
use Rattle.oc_deeds.proofs.Messages.{one_sendable, text_of_sendable}
use Rattle.oc_server.proofs.Parts.{does_one}
use Rattle.oc_server.proofs.Stopping.{memory_stops}
use Rattle.oc_server.specs.Scenes.{setting, running}
use Rattle.oc_deeds.specs.Deeds.{Dials}
use Rattle.oc_deeds.specs.Sends.{dials_as}
use Rattle.oc_model.specs.declared.message.Message.{Message}
use Rattle.oc_deeds.specs.Sends as asked
use Rattle.oc_server.proofs.doing.ServerDoer.dials.Goals as goal

pub returns-in_ok-begin_dial-in-Some-clause-did : goal.returns-in_ok-begin_dial-in-Some-clause-did
returns-in_ok-begin_dial-in-Some-clause-did g c =
    let s = c.args.self.now in
    let there = sym c.take.ensures.message ∙ c.in-Some.is in
    does_one g.D.Disk.view g.K.Sink.takes g.K.Sink.fails g.K.Sink.faults g.L.Link.story g.L.Link.counts (Dials c.args.index c.in-Some.message c.args.dial) (dials_as c.args.index c.args.dial) s _ (λ honest. ap (λ (o : Option Message). asked.dialled c.args.index c.args.dial o (setting s) (running s)) there)
    (dialled g.D.Disk.view g.K.Sink.takes g.K.Sink.fails g.K.Sink.faults g.L.Link.story g.L.Link.counts g.met.K.Sink.takes_nothing c.args.index c.in-Some.message c.args.dial s c.take.new.self c.begin_dial.new.dials c.begin_dial.new.link _ _ c.requires.serving.is_open
    there c.take.ensures.rest c.in_ok-begin_dial-in-Some.ensures.begun c.address_of-address.ensures (c.deref.ensures.value ∙ c.in_ok-text-in-Some.ensures) c.in_ok-begin_dial-in-Some.ensures.calls c.begin_dial.ensures.counts)

pub returns-in-None-clause-did : goal.returns-in-None-clause-did
returns-in-None-clause-did g c = absurd (none_there c.args.self.now.outbox c.args.index c.requires.index (sym c.take.ensures.message ∙ c.in-None.is))

pub returns-in_err-text-in-Some-clause-breaks : goal.returns-in_err-text-in-Some-clause-breaks
returns-in_err-text-in-Some-clause-breaks g c =
    let p = err_from_is_err_and c.from_residual.result c.from_residual.ensures.1 in
    rw (p.1, p.2) (memory_stops g.D.Disk.view g.K.Sink.takes g.K.Sink.fails g.K.Sink.faults g.L.Link.story g.L.Link.counts g.met.K.Sink.takes_nothing (dials_as c.args.index c.args.dial) c.args.self.now _ c.requires.serving.is_open refl refl refl refl (c.recovers.ensures.survives c.requires.serving.is_open))

pub returns-in_err-begin_dial-in-Some-clause-breaks : goal.returns-in_err-begin_dial-in-Some-clause-breaks
returns-in_err-begin_dial-in-Some-clause-breaks g c =
    let p = err_from_is_err_and c.from_residual-in_err-begin_dial-in-Some.result c.from_residual-in_err-begin_dial-in-Some.ensures.1 in
    rw (p.1, p.2) (memory_stops g.D.Disk.view g.K.Sink.takes g.K.Sink.fails g.K.Sink.faults g.L.Link.story g.L.Link.counts g.met.K.Sink.takes_nothing (dials_as c.args.index c.args.dial) c.args.self.now _ c.requires.serving.is_open refl refl c.in_err-begin_dial-in-Some.ensures.fails c.begin_dial.ensures.counts (c.recovers.ensures.survives c.requires.serving.is_open))

pub request_to-requires-clause-body : goal.request_to-requires-clause-body
request_to-requires-clause-body g c =
    let s = c.args.self.now in
    let nodes = s.kept.node.control.nodes in
    text_of_sendable nodes c.in-Some.message (one_sendable nodes s.outbox c.args.index c.in-Some.message (sym c.take.ensures.message ∙ c.in-Some.is) c.requires.serving.lawful.sendable)

pub request_to-requires-clause-host : goal.request_to-requires-clause-host
request_to-requires-clause-host g c =
    let s = c.args.self.now in
    let nodes = s.kept.node.control.nodes in
    c.requires.serving.set.placed.hosts c.in-Some.message.to
