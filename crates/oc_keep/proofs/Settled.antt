-- A call that closes the node exactly where its disk failed.
use Rattle.std.proofs.Common.{◌≡◌, ◌≢◌, ◌⊎◌, inl, inr, ◌↔◌, Bool, true, false, IsTrue, IsErrOf, IfOk, IfErr, Result, Ok, Err, List, refl, sym, ap, subst, ◌∙◌}
use Rattle.oc_io.specs.DiskView.{DiskView}
use Rattle.oc_model.specs.declared.input.Input.{Input}
use Rattle.oc_model.specs.declared.record.Record.{Record}
use Rattle.oc_model.specs.NextWorld.{writes}
use Rattle.oc_model.specs.Step.{step}
use Rattle.oc_node.specs.NodeView.{NodeView}
use Rattle.oc_content.specs.ContentView.{ContentView}
use Rattle.oc_store.specs.StoreView.{StoreView}
use Rattle.oc_keep.specs.declared.errors.ReadyError.{ReadyError}
use Rattle.oc_keep.specs.declared.errors.ReadyError.TheVariants as readies
use Rattle.oc_keep.specs.declared.errors.TidyError.{TidyError}
use Rattle.oc_keep.specs.declared.errors.TidyError.TheVariants as tidies
use Rattle.oc_keep.specs.Calls.{FailsToReady, FailsToTidy, IsReadyFor, Tidies}
use Rattle.oc_keep.specs.ControlStep.{DoesControlStep, control_step}
use Rattle.oc_keep.specs.Files.{AreReliable}
use Rattle.oc_keep.specs.KeptView.{IsFullAt, IsHonest, KeptView, disks_of, kept_of, node_of}
use Rattle.oc_keep.specs.Promises.{Closes, IsTurnedOver}
use Rattle.oc_keep.specs.ReadyView.{CanCommit, IsFullToWrite, ReadyView, is_written, outcome_of}
use Rattle.oc_keep.specs.Turning.{ClosesByTurning, Replaces}
use Rattle.oc_keep.specs.Writing.{KeepsStore}
use Rattle.oc_keep.proofs.Stays.{keeps_none, puts_none}

-- the node is open where no disk failed
pub unfailed : {Failed : Type 0} (b : Bool) → (IsTrue b ↔ Failed) → (Failed → ⊥) → b ≡ false
unfailed false is not = refl
unfailed true is not = absurd (not (is.0 refl))

-- Making an input ready

-- an open node does not answer that it is closed
pub ready_open : {T : Type 0} (r : Result T ReadyError) → IfErr r (λ e. e ≢ readies.Closed) → IsErrOf r readies.Closed → ⊥
ready_open (Ok x) other wrong = absurd cc
ready_open (Err e) other wrong = let is : e ≡ readies.Closed = cc in other is

-- memory is the only cause of a failure where no disk failed
pub ready_wants : {T : Type 0} (r : Result T ReadyError) → IfErr r (λ e. e ≢ readies.Closed) → (IsErrOf r readies.Disk → ⊥) → IfErr r (λ e. e ≡ readies.Memory)
ready_wants (Ok x) other not = tt
ready_wants (Err readies.Closed) other not = absurd (other refl)
ready_wants (Err readies.Memory) other not = refl
ready_wants (Err readies.Disk) other not = absurd (not refl)

-- a commit that the open node allows is allowed at the node as left by the call
pub ready_commits : {D : Type 0} (view : D → DiskView) (n : NodeView) (s : StoreView D) (c : ContentView D) (r : Result ReadyView ReadyError) (b : Bool) → (IsTrue b ↔ IsErrOf r readies.Disk)
    → IfOk r (λ ready. CanCommit view (kept_of n s c false) ready) → IfOk r (λ ready. CanCommit view (kept_of n s c b) ready)
ready_commits view n s c (Err e) b is can = tt
ready_commits view n s c (Ok ready) b is can = subst (λ (closed : Bool). CanCommit view (kept_of n s c closed) ready) (sym (unfailed b is (λ wrong. absurd cc))) can

-- the promises of a call that made an input ready
pub made_ready : {D : Type 0} (view : D → DiskView) (i : Input) (k k2 : KeptView D) (r : Result ReadyView ReadyError)
    → IfOk r (λ ready. DoesControlStep (control_step k i) k.node.control ready)
    → IfOk r (λ ready. IsHonest view k → outcome_of (node_of k) ready ≡ step (node_of k) i)
    → IfOk r (λ ready. IsHonest view k → is_written ready.write ≡ writes (node_of k) i)
    → IfOk r (λ ready. IsFullToWrite k2 ready.write ↔ IsFullAt k i)
    → IfOk r (λ ready. CanCommit view k2 ready)
    → IfOk r (λ ready. AreReliable view (disks_of k2) → ¬ IsFullToWrite k2 ready.write)
    → ((IsErrOf r readies.Disk → ⊥) → k2.closed ≡ k.closed)
    → IfOk r (λ ready. IsReadyFor view i ready k k2)
made_ready view i k k2 (Err e) control steps written full can fits still = tt
made_ready view i k k2 (Ok ready) control steps written full can fits still = record { control = control; step_is = steps; writes_is = written; full = full; commits = can; fits = fits; still = still (λ wrong. absurd cc) }

-- the promises of a call that did not make an input ready
pub unmade_ready : {D : Type 0} (view : D → DiskView) (i : Input) (k k2 : KeptView D) (r : Result ReadyView ReadyError)
    → ((IsErrOf r readies.Disk → ⊥) → k2.closed ≡ k.closed) → (IsErrOf r readies.Disk → Closes view k k2) → (IsErrOf r readies.Disk → ¬ IsFullAt k i)
    → IfErr r (λ e. e ≢ readies.Closed) → IfErr r (λ e. FailsToReady view e i k k2)
unmade_ready view i k k2 (Ok ready) still closes fits other = tt
unmade_ready view i k k2 (Err readies.Closed) still closes fits other = absurd (other refl)
unmade_ready view i k k2 (Err readies.Memory) still closes fits other = still (λ wrong. absurd cc)
unmade_ready view i k k2 (Err readies.Disk) still closes fits other = (fits refl, closes refl)

-- Turning the control files over

-- an open node does not answer that it is closed
pub tidy_open : {T : Type 0} (r : Result T TidyError) → IfErr r (λ e. e ≢ tidies.Closed) → IsErrOf r tidies.Closed → ⊥
tidy_open (Ok x) other wrong = absurd cc
tidy_open (Err e) other wrong = let is : e ≡ tidies.Closed = cc in other is

-- the other file was written, nothing was written, or a disk failed
abbrev pub Turned : {D : Type 0} → (D → DiskView) → List Record → Type 0 → StoreView D → StoreView D → Bool → Type 0
Turned view rs Short s s2 b =
    ((Short × Replaces view rs s s2) × (b ≡ false)) ⊎ ((KeepsStore view s s2 × (b ≡ false)) ⊎ ((Short × ClosesByTurning view rs s s2) × (b ≡ true)))

-- one of these three holds by the promises of the call
pub turned_so : {D : Type 0} (view : D → DiskView) (rs : List Record) (Short : Type 0) (s s2 : StoreView D) (b : Bool) (r : Result Bool TidyError) → (IsTrue b ↔ IsErrOf r tidies.Disk)
    → IfOk r (λ turned. IsTrue turned ↔ Short) → IfOk r (λ turned. IsTrue turned → Replaces view rs s s2) → IfOk r (λ turned. turned ≡ false → s2 ≡ s)
    → (IsErrOf r tidies.Memory → KeepsStore view s s2) → (IsErrOf r tidies.Disk → ClosesByTurning view rs s s2 × Short) → IfErr r (λ e. e ≢ tidies.Closed) → Turned view rs Short s s2 b
turned_so view rs Short s s2 b (Ok true) is short replaces stays memory disk other = inl ((short.0 refl, replaces refl), unfailed b is (λ wrong. absurd cc))
turned_so view rs Short s s2 b (Ok false) is short replaces stays memory disk other = inr (inl (subst (KeepsStore view s) (sym (stays refl)) (keeps_none view s), unfailed b is (λ wrong. absurd cc)))
turned_so view rs Short s s2 b (Err tidies.Closed) is short replaces stays memory disk other = absurd (other refl)
turned_so view rs Short s s2 b (Err tidies.Memory) is short replaces stays memory disk other = inr (inl (memory refl, unfailed b is (λ wrong. absurd cc)))
turned_so view rs Short s s2 b (Err tidies.Disk) is short replaces stays memory disk other = inr (inr (((disk refl).1, (disk refl).0), is.1 refl))

-- the files were turned over, or all is as it was
pub turned_or_not : {D : Type 0} (view : D → DiskView) (n : NodeView) (s s2 : StoreView D) (c : ContentView D) (b : Bool) (r : Result Bool TidyError) → (IsTrue b ↔ IsErrOf r tidies.Disk) → IfOk r (λ turned. turned ≡ false → s2 ≡ s)
    → IfOk r (λ turned. IsTrue turned → IsTurnedOver view (kept_of n s c false) (kept_of n s2 c b)) → IfOk r (λ turned. Tidies view turned (kept_of n s c false) (kept_of n s2 c b))
turned_or_not view n s s2 c b (Err e) is stays turns = tt
turned_or_not view n s s2 c b (Ok true) is stays turns = (turns refl, unfailed b is (λ wrong. absurd cc))
turned_or_not view n s s2 c b (Ok false) is stays turns = ap (λ (x : StoreView _). kept_of n x c b) (stays refl) ∙ ap (λ (closed : Bool). kept_of n s c closed) (unfailed b is (λ wrong. absurd cc))

-- memory ran out and nothing changed, or a disk failed, where the files were not turned over
pub untidied : {D : Type 0} (view : D → DiskView) (n : NodeView) (s s2 : StoreView D) (c : ContentView D) (b : Bool) (r : Result Bool TidyError) → (IsTrue b ↔ IsErrOf r tidies.Disk) → (IsErrOf r tidies.Memory → KeepsStore view s s2)
    → (IsErrOf r tidies.Disk → Closes view (kept_of n s c false) (kept_of n s2 c b)) → IfErr r (λ e. e ≢ tidies.Closed)
    → IfErr r (λ e. FailsToTidy view e (kept_of n s c false) (kept_of n s2 c b))
untidied view n s s2 c b (Ok turned) is memory disk other = tt
untidied view n s s2 c b (Err tidies.Closed) is memory disk other = absurd (other refl)
untidied view n s s2 c b (Err tidies.Memory) is memory disk other = record { nothing = record { control = refl; store = memory refl; content = puts_none view c }; still = unfailed b is (λ wrong. absurd cc) }
untidied view n s s2 c b (Err tidies.Disk) is memory disk other = disk refl
