-- A step under way, as a contract sees it.
use Rattle.std.specs.Prelude.{ℕ, List}
use Rattle.oc_model.specs.Node.{Control}
use Rattle.oc_model.specs.Plan.{Plan, with_soft}
use Rattle.oc_state.specs.declared.list_update.ListUpdate.{ListUpdate}
use Rattle.oc_state.specs.ListUpdates.{leases_by, rates_by, counts_by}

-- the node before the step, and the step so far
pub record StepView : Type 0 where
  pub base : Control
  pub plan : Plan

-- the same step at this later state
abbrev pub goes : StepView → Plan → StepView
goes d o = record d { plan = o }

-- the step after the nodes still to be asked were set
abbrev pub with_tries : Plan → List ℕ → Plan
with_tries o xs = with_soft o (record o.node.soft { tries = xs })

-- the step after an update of the lists by node, at this node
abbrev pub updates : Control → ListUpdate → Plan → Plan
updates base t o =
    record o { node = record o.node { leases = leases_by base.kept.table base.me o.node.leases t; rates = rates_by o.node.rates t; counts = counts_by o.node.counts t } }
