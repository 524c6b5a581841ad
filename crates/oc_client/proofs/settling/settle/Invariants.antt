-- turns went by, which led to the next effort
use Rattle.oc_io.specs.Faults.{NoFall}
use Rattle.oc_client.specs.Jobs.{goal_of}
use Rattle.oc_client.specs.Efforts.{IsLed}
use Rattle.oc_client.specs.declared.effort.Next.TheVariants.{Again}
use Rattle.oc_client.proofs.Led.{left_of}
use Rattle.oc_client.proofs.settling.settle.Given as goal

abbrev pub invariant-turns : goal.invariant-turns
invariant-turns g l = record {
  led : IsLed (goal_of l.job) l.load l.fn.start (g.L.Dialler.story l.fn.link) (g.L.Dialler.story l.link) (Again l.effort);
  count : NoFall (g.L.Dialler.faults l.fn.link) (g.L.Dialler.faults l.link);
}

abbrev pub decreases-turns : goal.decreases-turns
decreases-turns g l = left_of l.effort
