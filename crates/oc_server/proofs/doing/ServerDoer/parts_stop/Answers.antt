use Rattle.oc_server.proofs.Parts.{stops_after, stops_as, stops_in}
use Rattle.oc_server.proofs.doing.ServerDoer.parts_stop.Goals as goal

pub returns-clause-as_same : goal.returns-clause-as_same
returns-clause-as_same g c = λ end p q x z same stops. stops_as g.D.Disk.view g.K.Sink.takes g.K.Sink.fails g.K.Sink.faults g.L.Link.story g.L.Link.counts end p q x z same stops

pub returns-clause-in_first : goal.returns-clause-in_first
returns-clause-in_first g c = λ end p q x z stops. stops_in g.D.Disk.view g.K.Sink.takes g.K.Sink.fails g.K.Sink.faults g.L.Link.story g.L.Link.counts end p q x z stops

pub returns-clause-follows : goal.returns-clause-follows
returns-clause-follows g c = λ end p q r x y z does same stops. stops_after g.D.Disk.view g.K.Sink.takes g.K.Sink.fails g.K.Sink.faults g.L.Link.story g.L.Link.counts g.met.K.Sink.takes_then end p q r x y z does same stops
