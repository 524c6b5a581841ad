-- A plan, as a contract sees it, and its effect on a node.
use Rattle.std.specs.Prelude.{◌≡◌, ℕ, ◌≤◌, false, Bool, Option, Some, None, unwrap_or, List, [], ◌∷◌, drop, map}
use Rattle.oc_model.specs.declared.answer.Answer.{Answer}
use Rattle.oc_model.specs.declared.answer.Answer.TheVariants as words
use Rattle.oc_model.specs.declared.message.Message.{Message}
use Rattle.oc_model.specs.declared.record.Record.{Record}
use Rattle.oc_model.specs.declared.soft.Soft.{Soft}
use Rattle.oc_model.specs.declared.want.Want.{Want}
use Rattle.oc_model.specs.Node.{Control}
use Rattle.oc_model.specs.Plan.{Plan}
use Rattle.oc_model.specs.Records.{folded}
use Rattle.oc_model.specs.Step.{fill}
use Rattle.oc_state.specs.declared.list_update.ListUpdate.{ListUpdate}
use Rattle.oc_state.specs.declared.volatile.Volatile.{Volatile}
use Rattle.oc_state.specs.ListUpdates.{leases_after, rates_after, counts_after}
use Rattle.oc_state.specs.Volatile.{soft_of}

-- the changes of a plan: the durable ones; the small parts that a start clears; the nodes still to be asked, if they are set anew, and
-- the number of them taken off; the updates of the lists by node. Besides: the messages, the answer, the bytes wanted and kept; `room` is
-- the number of bytes that can be filled into the chunk
pub record PlanView : Type 0 where
  pub records : List Record
  pub volatile : Volatile
  pub tries : Option (List ℕ)
  pub taken : ℕ
  pub updates : List ListUpdate
  pub sends : List Message
  pub answer : Answer
  pub wants : Option Want
  pub keeps : Option ℕ
  pub seals : Bool
  pub room : ℕ

-- the plan without changes, at a node with these small parts
abbrev pub empty_plan : Volatile → PlanView
empty_plan v = record {
  records = [];
  volatile = v;
  tries = None;
  taken = 0;
  updates = [];
  sends = [];
  answer = words.Ok;
  wants = None;
  keeps = None;
  seals = false;
  room = 0;
}

-- the state that a start clears, after the plan
abbrev pub soft_after : Soft → PlanView → Soft
soft_after s p = soft_of p.volatile (drop p.taken (unwrap_or p.tries s.tries))

-- the node after the plan
abbrev pub control_after : Control → PlanView → Control
control_after n p = record n {
  kept = folded n.kept p.records;
  soft = soft_after n.soft p;
  leases = leases_after n.kept.table n.me n.leases p.updates;
  rates = rates_after n.rates p.updates;
  counts = counts_after n.counts p.updates;
}

-- the model's step under way that this plan is, at this node
abbrev pub planned : Control → PlanView → Plan
planned n p = record {
  node = control_after n p;
  records = p.records;
  sends = p.sends;
  answer = p.answer;
  wants = p.wants;
  keeps = p.keeps;
  seals = p.seals;
}

-- Filling

-- the plan wants this number of bytes: its only message is the chunk, and there is room for them
pub record IsWanting (p : PlanView) (count : ℕ) : Type 0 where
  pub wants : (w : Want) × (p.wants ≡ Some w) × (w.count ≡ count)
  pub chunk : (m : Message) × (p.sends ≡ m ∷ [])
  pub room : count ≤ p.room

-- the plan with these bytes in its chunk
abbrev pub filled_with : List ℕ → PlanView → PlanView
filled_with bytes p = record p { sends = map (fill bytes) p.sends; room = 0 }
