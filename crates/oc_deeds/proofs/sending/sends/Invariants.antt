-- The dials so far and those that would be made are the whole.
use Rattle.std.proofs.Common.{◌-◌}
use Rattle.oc_deeds.specs.Parts.{Part}
use Rattle.oc_deeds.specs.declared.choosing.TheConstants.{MAX_DIALS}
use Rattle.oc_deeds.proofs.Outgoing.{AreWhole}
use Rattle.oc_deeds.proofs.sending.sends.Given as goal

abbrev pub invariant-messages : goal.invariant-messages
invariant-messages g l = record {
  serving : g.W.Doer.serving l.doer;
  far : (p : Part) × g.W.Doer.does p l.fn.doer l.doer
      × (g.W.Doer.honest l.fn.doer → AreWhole (MAX_DIALS - l.done) (p (g.W.Doer.setting l.fn.doer) (g.W.Doer.running l.fn.doer)) (g.W.Doer.setting l.fn.doer) (g.W.Doer.running l.fn.doer));
}
