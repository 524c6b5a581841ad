-- The effect of a trial.
use Rattle.std.specs.Prelude.{◌≡◌, ℕ, ◌+◌, ◌<◌, false, List, [], ◌∷◌, length, take, drop}
use Rattle.oc_model.specs.declared.input.Input.{Input}
use Rattle.oc_model.specs.Node.{Header, Node}
use Rattle.oc_model.specs.Step.{step}
use Rattle.oc_io.specs.DiskView.{DiskView}
use Rattle.oc_keep.specs.declared.errors.KeepError.{KeepError}
use Rattle.oc_keep.specs.declared.errors.KeepError.TheVariants as keeps
use Rattle.oc_keep.specs.declared.ended.Trial.{Trial}
use Rattle.oc_keep.specs.declared.ended.TrialEnd.{TrialEnd}
use Rattle.oc_keep.specs.declared.ended.TrialEnd.TheVariants.{All, Load, Take}
use Rattle.oc_keep.specs.Errors.{IsOutOfMemory}
use Rattle.oc_keep.specs.Files.{Disks, IsLeft, Leaves, OneRose, SameAsEither, Survives, recovered}
use Rattle.oc_keep.specs.KeptView.{IsFullAt, KeptView, disks_of, header_of, node_of}
use Rattle.oc_keep.specs.Promises.{RefusesNode}

-- the node after these inputs, one after another
abbrev pub after_inputs : Node → List Input → Node
after_inputs n [] = n
after_inputs n (i ∷ is) = after_inputs (step n i).node is

-- the node recovered from a read of three disks
abbrev pub first_node : {D : Type 0} → (D → DiskView) → Header → ℕ → Disks D → Node
first_node view h me d = recovered h me (view d.control).seen (view d.alternate).seen (view d.content).seen

-- the node that every crash leaves after the first of these inputs were taken and one was refused; where a disk failed, one
-- more input may be taken
abbrev pub LeavesTaken : {D : Type 0} → (D → DiskView) → Header → ℕ → Node → List Input → Disks D → ℕ → KeepError → Type 0
LeavesTaken view h me n is d done keeps.Disk = Leaves view h me d (SameAsEither (after_inputs n (take done is)) (after_inputs n (take (done + 1) is)))
LeavesTaken view h me n is d done error = Survives view h me d (after_inputs n (take done is))

-- the node that every crash leaves after a trial that loaded this node
abbrev pub LeavesEnd : {D : Type 0} → (D → DiskView) → Header → ℕ → Node → List Input → Disks D → ℕ → TrialEnd → Type 0
LeavesEnd view h me n is d done All = Survives view h me d (after_inputs n is)
LeavesEnd view h me n is d done (Load error) = ⊥
LeavesEnd view h me n is d done (Take error) = LeavesTaken view h me n is d done error

abbrev pub RunLeaves : {D : Type 0} → (D → DiskView) → KeptView D → List Input → KeptView D → Trial → Type 0
RunLeaves view old is new t = LeavesEnd view (header_of old.node.control) old.node.control.me (node_of old) is (disks_of new) t.done t.end

-- the files that every crash leaves after a trial; where the node was not loaded, those that some crash at the start would have
-- left
abbrev pub LeavesBy : {D : Type 0} → (D → DiskView) → Header → ℕ → Disks D → List Input → Disks D → ℕ → TrialEnd → Type 0
LeavesBy view h me old is new done (Load error) = Leaves view h me new (IsLeft view h me old)
LeavesBy view h me old is new done end = LeavesEnd view h me (first_node view h me old) is new done end

abbrev pub LeavesAfter : {D : Type 0} → (D → DiskView) → Header → ℕ → Disks D → List Input → Disks D → Trial → Type 0
LeavesAfter view h me old is new t = LeavesBy view h me old is new t.done t.end

-- the number of taken inputs: all, none, or fewer than all
abbrev pub IsCount : List Input → ℕ → TrialEnd → Type 0
IsCount is done All = done ≡ length is
IsCount is done (Load error) = done ≡ 0
IsCount is done (Take error) = done < length is

abbrev pub IsCounted : List Input → Trial → Type 0
IsCounted is t = IsCount is t.done t.end

-- the end of a trial: the node was not loaded, or an input was not taken, for one of the causes; a loaded node is not closed
abbrev pub HasTakeCause : {D : Type 0} → (D → DiskView) → Disks D → Disks D → KeepError → Type 0
HasTakeCause view old new keeps.Closed = ⊥
HasTakeCause view old new keeps.Disk = OneRose view old new
HasTakeCause view old new error = Unit {0}

abbrev pub HasRunCause : {D : Type 0} → (D → DiskView) → Disks D → Disks D → TrialEnd → Type 0
HasRunCause view old new All = Unit {0}
HasRunCause view old new (Load error) = ⊥
HasRunCause view old new (Take error) = HasTakeCause view old new error

abbrev pub HasCause : {D : Type 0} → (D → DiskView) → ℕ → Disks D → Disks D → TrialEnd → Type 0
HasCause view nodes old new (Load error) = RefusesNode view nodes old new error
HasCause view nodes old new end = HasRunCause view old new end

-- the first of these inputs is one with the property P
abbrev pub BeginsWith : (Input → Type 0) → List Input → Type 0
BeginsWith P [] = ⊥
BeginsWith P (i ∷ is) = P i

-- a run that came to an input for which a file is full, and did nothing for the input
pub record EndsFull {D : Type 0} (old : KeptView D) (is : List Input) (new : KeptView D) (done : ℕ) : Type 0 where
  pub unclosed : new.closed ≡ false
  pub node : node_of new ≡ after_inputs (node_of old) (take done is)
  pub next : BeginsWith (IsFullAt new) (drop done is)

-- all inputs were taken, or memory ran out
abbrev pub EndsSurely : TrialEnd → Type 0
EndsSurely All = Unit {0}
EndsSurely (Load error) = IsOutOfMemory error
EndsSurely (Take error) = error ≡ keeps.Memory
