-- The control step of an input: its effect by the control state and the lines of the content in memory, whatever the disks do.
use Rattle.std.specs.Prelude.{◌≡◌, ℕ, IsTrue, Option, Some, None, List, length, map}
use Rattle.oc_content.specs.ContentFile.{groups_in}
use Rattle.oc_content.specs.ContentView.{ContentView}
use Rattle.oc_io.specs.DiskView.{DiskView}
use Rattle.oc_model.specs.declared.input.Input.{Input}
use Rattle.oc_model.specs.declared.message.Message.{Message}
use Rattle.oc_model.specs.declared.want.Want.{Want}
use Rattle.oc_model.specs.NextWorld.{has_change}
use Rattle.oc_model.specs.Node.{Control}
use Rattle.oc_model.specs.Plan.{Plan}
use Rattle.oc_model.specs.Step.{fill, plan}
use Rattle.oc_node.specs.OutcomeView.{OutcomeView}
use Rattle.oc_node.specs.Planned.{PlanView, control_after}
use Rattle.oc_keep.specs.KeptView.{KeptView}
use Rattle.oc_keep.specs.ReadyView.{ReadyView, is_written}
use Rattle.oc_keep.specs.Writing.{fetched}

-- the control step of the model for this input, with the lines that the node has in memory
abbrev pub control_step : {D : Type 0} → KeptView D → Input → Plan
control_step k i = plan k.node.control k.content.shelves i

-- the messages of a step are those of its plan; where the plan wants bytes of content, the chunk has the wanted number of bytes
abbrev pub AreSent : Option Want → List Message → List Message → Type 0
AreSent None planned sends = sends ≡ planned
AreSent (Some w) planned sends = (bytes : List ℕ) × (length bytes ≡ w.count) × (sends ≡ map (fill bytes) planned)

-- the control state, the answer and the messages of a control step
pub record IsControlStep (o : Plan) (after : Control) (outcome : OutcomeView) : Type 0 where
  pub control : after ≡ o.node
  pub answer : outcome.answer ≡ o.answer
  pub sends : AreSent o.wants o.sends outcome.sends

-- a prepared input at a node with this control state does this control step, and writes a frame exactly where the step changes
-- something durable
pub record DoesControlStep (o : Plan) (n : Control) (r : ReadyView) : Type 0 where
  pub step : IsControlStep o (control_after n r.plan) (record { answer = r.plan.answer; sends = r.plan.sends })
  pub writes : is_written r.write ≡ has_change o

-- a plan has the bytes that it wants in its chunk; from an honest disk, those of the groups
pub record Fetches {D : Type 0} (view : D → DiskView) (c : ContentView D) (old new : PlanView) : Type 0 where
  pub sends : AreSent old.wants old.sends new.sends
  pub groups : IsTrue (view c.journal.disk).honest → new ≡ fetched (groups_in c.journal.frames) old.wants old
