-- Turns went by, and led to the state.
use Rattle.std.proofs.Common.{◌+◌}
use Rattle.oc_client.proofs.Talked.{HasTalked}
use Rattle.oc_client.proofs.conversation.talk.Given as goal
use Rattle.oc_client.specs.Wishes.{wish_of}
use Rattle.oc_io.specs.Faults.{NoFall}

abbrev pub invariant-turns : goal.invariant-turns
invariant-turns g l = record {
  has : HasTalked g.K.Sink.takes (wish_of l.wish) l.fn.state (g.L.Dialler.story l.fn.link) (g.L.Dialler.story l.link) l.fn.sink l.sink l.state;
  link_count : NoFall (g.L.Dialler.faults l.fn.link) (g.L.Dialler.faults l.link);
  sink_count : NoFall (g.K.Sink.faults l.fn.sink) (g.K.Sink.faults l.sink);
}

abbrev pub decreases-turns : goal.decreases-turns
decreases-turns g l = l.state.replies + l.state.redirections
