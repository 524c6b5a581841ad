-- The measures so far and the rest are all.
use Rattle.std.proofs.Common.{drop}
use Rattle.std.specs.Prelude.{All}
use Rattle.oc_deeds.specs.Parts.{Part}
use Rattle.oc_updown.specs.MeasureLines.{IsMeasure}
use Rattle.oc_deeds.proofs.MeasuresTaken.{AreTaken}
use Rattle.oc_deeds.proofs.rereading.takes_measures.Given as goal

abbrev pub invariant-measures : goal.invariant-measures
invariant-measures g l = record {
  serving : g.W.Doer.serving l.doer;
  lawful : All (IsMeasure (g.W.Doer.running l.doer).node.control.nodes) l.fn.measures;
  far : (p : Part) × g.W.Doer.does p l.fn.doer l.doer
      × (g.W.Doer.honest l.fn.doer → AreTaken (drop l.place l.fn.measures) l.fn.measures p (g.W.Doer.setting l.fn.doer) (g.W.Doer.running l.fn.doer));
}
