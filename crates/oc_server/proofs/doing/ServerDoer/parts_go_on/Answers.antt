use Rattle.std.proofs.Common.{ap}
use Rattle.oc_model.specs.Node.{Header}
use Rattle.oc_server.proofs.Parts.{behind_part, does_after, does_as, does_honest, does_nothing, does_serve}
use Rattle.oc_server.proofs.Scenes.{setting_stays}
use Rattle.oc_server.proofs.doing.ServerDoer.parts_go_on.Goals as goal

pub returns-clause-stays_serving : goal.returns-clause-stays_serving
returns-clause-stays_serving g c = λ p a b does serving. does_serve g.D.Disk.view g.K.Sink.takes g.K.Sink.fails g.K.Sink.faults g.L.Link.story g.L.Link.counts p a b does serving

pub returns-clause-stays_honest : goal.returns-clause-stays_honest
returns-clause-stays_honest g c = λ p a b does honest. does_honest g.D.Disk.view g.K.Sink.takes g.K.Sink.fails g.K.Sink.faults g.L.Link.story g.L.Link.counts p a b does honest

pub returns-clause-stays_set : goal.returns-clause-stays_set
returns-clause-stays_set g c = λ p a b does. setting_stays g.D.Disk.view g.K.Sink.takes g.K.Sink.fails g.K.Sink.faults g.L.Link.story g.L.Link.counts a b does.did.same does.did.log

pub returns-clause-same_me : goal.returns-clause-same_me
returns-clause-same_me g c = λ p a b does. does.did.same.me

pub returns-clause-same_nodes : goal.returns-clause-same_nodes
returns-clause-same_nodes g c = λ p a b does. ap (λ (h : Header). h.nodes) does.did.same.header

pub returns-clause-leaves : goal.returns-clause-leaves
returns-clause-leaves g c = λ p a b does honest. behind_part g.D.Disk.view g.K.Sink.takes g.K.Sink.fails g.K.Sink.faults g.L.Link.story g.L.Link.counts p a b does honest

pub returns-clause-nothing_done : goal.returns-clause-nothing_done
returns-clause-nothing_done g c = λ p a serving is. does_nothing g.D.Disk.view g.K.Sink.takes g.K.Sink.fails g.K.Sink.faults g.L.Link.story g.L.Link.counts g.met.K.Sink.takes_nothing p a serving.is_open is

pub returns-clause-as_same : goal.returns-clause-as_same
returns-clause-as_same g c = λ p q a b same does. does_as g.D.Disk.view g.K.Sink.takes g.K.Sink.fails g.K.Sink.faults g.L.Link.story g.L.Link.counts p q a b same does

pub returns-clause-follows : goal.returns-clause-follows
returns-clause-follows g c = λ p q r x y z first same second. does_after g.D.Disk.view g.K.Sink.takes g.K.Sink.fails g.K.Sink.faults g.L.Link.story g.L.Link.counts g.met.K.Sink.takes_then p q r x y z first same second
