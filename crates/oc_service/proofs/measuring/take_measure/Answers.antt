use Rattle.std.proofs.Common.{◌≡◌, List, rules, subst, sym}
use Rattle.oc_model.specs.declared.input.Input.TheVariants.{Measured}
use Rattle.oc_deeds.specs.Deeds.{Deed}
use Rattle.oc_server.specs.Scenes.{Did, setting}
use Rattle.oc_deeds.specs.Telling.{takes_ahead}
use Rattle.oc_server.proofs.Parts.{stops_as}
use Rattle.oc_deeds.proofs.Results.{done_then, err_then}
use Rattle.oc_service.specs.Measuring.{takes_own_measure}
use Rattle.oc_service.proofs.Measured.{own_deeds}
use Rattle.oc_service.proofs.measuring.take_measure.Goals as goal

-- a measure of the node itself is taken
pub returns-clause-did : goal.returns-clause-did
returns-clause-did g c =
    let s = c.args.server.now in
    let m = c.args.measure in
    let own : m.from ≡ s.kept.node.control.me = search rules in
    done_then c.takes_ahead.result (λ did. subst (λ (ds : List Deed). Did g.D.Disk.view g.K.Sink.takes g.K.Sink.faults g.L.Link.story g.L.Link.counts ds s c.takes_ahead.new.self) (sym (own_deeds (setting s) m own)) did) c.takes_ahead.ensures.did

pub returns-clause-stops : goal.returns-clause-stops
returns-clause-stops g c =
    let s = c.args.server.now in
    let m = c.args.measure in
    let own : m.from ≡ s.kept.node.control.me = search rules in
    err_then c.takes_ahead.result (λ end stops. stops_as g.D.Disk.view g.K.Sink.takes g.K.Sink.fails g.K.Sink.faults g.L.Link.story g.L.Link.counts end (takes_ahead (Measured m.peer m.rate m.hops)) (takes_own_measure m) s c.takes_ahead.new.self
    (λ honest. own_deeds (setting s) m own) stops) c.takes_ahead.ensures.breaks
