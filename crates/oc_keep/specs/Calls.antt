-- The effect of one call of a node on its files, and the state that a failed call leaves.
use Rattle.std.specs.Prelude.{◌≡◌, ◌↔◌, Bool, true, false}
use Rattle.oc_io.specs.DiskView.{DiskView}
use Rattle.oc_model.specs.declared.input.Input.{Input}
use Rattle.oc_model.specs.NextWorld.{has_change, writes}
use Rattle.oc_model.specs.Step.{step}
use Rattle.oc_node.specs.OutcomeView.{OutcomeView}
use Rattle.oc_node.specs.Planned.{control_after}
use Rattle.oc_keep.specs.ControlStep.{DoesControlStep, IsControlStep, control_step}
use Rattle.oc_keep.specs.declared.errors.CommitError.{CommitError}
use Rattle.oc_keep.specs.declared.errors.CommitError.TheVariants as commits
use Rattle.oc_keep.specs.declared.errors.KeepError.{KeepError}
use Rattle.oc_keep.specs.declared.errors.KeepError.TheVariants as keeps
use Rattle.oc_keep.specs.declared.errors.ReadyError.{ReadyError}
use Rattle.oc_keep.specs.declared.errors.ReadyError.TheVariants as readies
use Rattle.oc_keep.specs.declared.errors.TidyError.{TidyError}
use Rattle.oc_keep.specs.declared.errors.TidyError.TheVariants as tidies
use Rattle.oc_keep.specs.Files.{AllGoOn, AreReliable, SameDurable}
use Rattle.oc_keep.specs.KeptView.{AtAnyMoment, IsFullAt, IsHonest, KeptView, NodeSurvives, disks_of, node_of}
use Rattle.oc_keep.specs.Promises.{ChangesNothing, Closes, IsSameNode, IsTurnedOver}
use Rattle.oc_keep.specs.declared.ready.Write.{Write}
use Rattle.oc_keep.specs.ReadyView.{CanCommit, GrowsBy, IsFullToWrite, ReadyView, is_written, outcome_of, told_of}

-- the same node on the same disks, in the same generation
pub record IsSameOnFiles {D : Type 0} (view : D → DiskView) (old new : KeptView D) : Type 0 where
  pub node : IsSameNode old.node.control new.node.control
  pub goes_on : AllGoOn view (disks_of old) (disks_of new)
  pub generation : IsHonest view old → new.store.generation ≡ old.store.generation

-- nothing changed, and a crash at any moment leaves the same node
pub record StaysTheSame {D : Type 0} (view : D → DiskView) (old new : KeptView D) : Type 0 where
  pub nothing : ChangesNothing view old new
  pub node : IsHonest view old → node_of new ≡ node_of old
  pub goes_on : AllGoOn view (disks_of old) (disks_of new)
  pub any_moment : old.closed ≡ false → IsHonest view old → AtAnyMoment view old new (SameDurable (node_of old))

-- nothing was done, and no disk failed
pub record DoesNothing {D : Type 0} (view : D → DiskView) (old new : KeptView D) : Type 0 where
  pub nothing : ChangesNothing view old new
  pub still : new.closed ≡ old.closed

-- Taking an input

-- the files have one more frame where the control step changes something durable, and otherwise none
pub record GrowsFor {D : Type 0} (i : Input) (old new : KeptView D) : Type 0 where
  pub write : Write
  pub exactly : is_written write ≡ has_change (control_step old i)
  pub grows : GrowsBy write old new

-- the input was taken with this outcome: outcome and node are those of the step, every crash now leaves the node, and no file
-- was full for the input. Whatever the disks do, control state and outcome are those of the control step, except for the bytes
-- of a chunk
pub record TakesInput {D : Type 0} (view : D → DiskView) (i : Input) (outcome : OutcomeView) (old new : KeptView D) : Type 0 where
  pub is_open : new.closed ≡ false
  pub fits : ¬ IsFullAt old i
  pub control : IsControlStep (control_step old i) new.node.control outcome
  pub outcome_is : IsHonest view old → outcome ≡ told_of (step (node_of old) i)
  pub node : IsHonest view old → node_of new ≡ (step (node_of old) i).node
  pub grows : IsHonest view old → GrowsFor i old new
  pub survives : IsHonest view old → NodeSurvives view new (node_of new)

-- the cause for which an input was not taken, and the state that was left
abbrev pub FailsToTake : {D : Type 0} → (D → DiskView) → KeepError → Input → KeptView D → KeptView D → Type 0
FailsToTake view keeps.Closed i old new = DoesNothing view old new
FailsToTake view keeps.Memory i old new = DoesNothing view old new
FailsToTake view keeps.Full i old new = IsFullAt old i × DoesNothing view old new
FailsToTake view keeps.Disk i old new = (¬ IsFullAt old i) × Closes view old new

-- the input was not taken: the node is as it was
pub record RefusesInput {D : Type 0} (view : D → DiskView) (error : KeepError) (i : Input) (old new : KeptView D) : Type 0 where
  pub node : IsHonest view old → node_of new ≡ node_of old
  pub why : FailsToTake view error i old new

-- Making an input ready

-- the prepared input will do the step, or at least the control step whatever the disks do, and it can be committed
pub record IsReadyFor {D : Type 0} (view : D → DiskView) (i : Input) (ready : ReadyView) (old new : KeptView D) : Type 0 where
  pub control : DoesControlStep (control_step old i) old.node.control ready
  pub step_is : IsHonest view old → outcome_of (node_of old) ready ≡ step (node_of old) i
  pub writes_is : IsHonest view old → is_written ready.write ≡ writes (node_of old) i
  pub full : IsFullToWrite new ready.write ↔ IsFullAt old i
  pub commits : CanCommit view new ready
  pub fits : AreReliable view (disks_of new) → ¬ IsFullToWrite new ready.write
  pub still : new.closed ≡ old.closed

-- the cause for which an input was not made ready
abbrev pub FailsToReady : {D : Type 0} → (D → DiskView) → ReadyError → Input → KeptView D → KeptView D → Type 0
FailsToReady view readies.Closed i old new = new.closed ≡ old.closed
FailsToReady view readies.Memory i old new = new.closed ≡ old.closed
FailsToReady view readies.Disk i old new = (¬ IsFullAt old i) × Closes view old new

-- Committing an input

-- the prepared input was done, or at least its control part whatever the disks do, and every crash now leaves the node
pub record Commits {D : Type 0} (view : D → DiskView) (ready : ReadyView) (outcome : OutcomeView) (old new : KeptView D) : Type 0 where
  pub is_open : new.closed ≡ false
  pub control : new.node.control ≡ control_after old.node.control ready.plan
  pub outcome_is : outcome ≡ told_of (outcome_of (node_of old) ready)
  pub node : IsHonest view old → node_of new ≡ (outcome_of (node_of old) ready).node
  pub grows : IsHonest view old → GrowsBy ready.write old new
  pub survives : IsHonest view old → NodeSurvives view new (node_of new)

-- the prepared input was not done: nothing changed, or a disk failed and the node is as it was
abbrev pub FailsToCommit : {D : Type 0} → (D → DiskView) → CommitError → KeptView D → KeptView D → Type 0
FailsToCommit view commits.Full old new = new ≡ old
FailsToCommit view commits.Disk old new = Closes view old new × (IsHonest view old → node_of new ≡ node_of old)

-- Turning the control files over

-- the node is as it was, and a crash at any moment leaves it
pub record KeepsNode {D : Type 0} (view : D → DiskView) (old new : KeptView D) : Type 0 where
  pub control : new.node.control ≡ old.node.control
  pub content : new.content ≡ old.content
  pub goes_on : AllGoOn view (disks_of old) (disks_of new)
  pub any_moment : old.closed ≡ false → IsHonest view old → AtAnyMoment view old new (SameDurable (node_of old))

-- the control files were turned over, or nothing was done
abbrev pub Tidies : {D : Type 0} → (D → DiskView) → Bool → KeptView D → KeptView D → Type 0
Tidies view true old new = IsTurnedOver view old new × (new.closed ≡ old.closed)
Tidies view false old new = new ≡ old

-- the cause for which the control files were not turned over
abbrev pub FailsToTidy : {D : Type 0} → (D → DiskView) → TidyError → KeptView D → KeptView D → Type 0
FailsToTidy view tidies.Disk old new = Closes view old new
FailsToTidy view error old new = DoesNothing view old new
