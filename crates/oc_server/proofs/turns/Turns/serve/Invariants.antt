-- This number of turns was done, and the node is ready for another.
use Rattle.oc_server.specs.Lawful.{IsReady}
use Rattle.oc_server.specs.Runs.{Serves}
use Rattle.oc_server.proofs.turns.Turns.serve.Given as goal

abbrev pub invariant-turns : goal.invariant-turns
invariant-turns g l = record {
  ready : IsReady l.self;
  serves : Serves g.D.Disk.view g.K.Sink.takes g.K.Sink.faults g.L.Link.story g.L.Link.counts l.done l.fn.self l.self;
}
