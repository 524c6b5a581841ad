use Rattle.std.proofs.Common.{ℕ, List, refl}
use Rattle.oc_deeds.proofs.Answered.{turn_answers}
use Rattle.oc_server.proofs.TurnsOrdered.{ends_served, turned_ordered}
use Rattle.oc_server.proofs.order_law.turns_are_in_order.Goals as goal

pub returns : goal.returns
returns g c = record {
  begins = λ (address : List ℕ) (c : ℕ). refl;
  turn = turned_ordered g.D.Disk.view g.K.Sink.takes g.K.Sink.fails g.K.Sink.faults g.L.Link.story g.L.Link.counts;
  answers = turn_answers;
  serve = ends_served g.D.Disk.view g.K.Sink.takes g.K.Sink.fails g.K.Sink.faults g.L.Link.story g.L.Link.counts;
}
