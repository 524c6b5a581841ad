-- A take: an input is made ready, and then committed.
use Rattle.std.proofs.Common.{◌≡◌, ◌↔◌, ℕ, List, ◌++◌, Bool, true, false, IsTrue, IsErrOf, IsErrAnd, Result, Ok, Err, refl, ap, subst, sym, ◌∙◌}
use Rattle.oc_io.specs.DiskView.{DiskView}
use Rattle.oc_model.specs.declared.input.Input.{Input}
use Rattle.oc_model.specs.NextWorld.{has_change}
use Rattle.oc_model.specs.Node.{Control}
use Rattle.oc_node.specs.OutcomeView.{OutcomeView}
use Rattle.oc_node.specs.Planned.{control_after}
use Rattle.oc_keep.specs.declared.errors.CommitError.{CommitError}
use Rattle.oc_keep.specs.declared.errors.CommitError.TheVariants as commits
use Rattle.oc_keep.specs.declared.errors.KeepError.TheVariants as keeps
use Rattle.oc_keep.specs.declared.errors.ReadyError.{ReadyError}
use Rattle.oc_keep.specs.declared.errors.ReadyError.TheVariants as readies
use Rattle.oc_keep.specs.Calls.{DoesNothing, FailsToCommit, FailsToReady, GrowsFor, IsSameOnFiles, RefusesInput, StaysTheSame}
use Rattle.oc_keep.specs.ControlStep.{AreSent, DoesControlStep, IsControlStep, control_step}
use Rattle.oc_keep.specs.Errors.{of_commit, of_ready}
use Rattle.oc_keep.specs.Files.{AllGoOn}
use Rattle.oc_keep.specs.KeptView.{IsFullAt, IsHonest, KeptView, disks_of, header_of, node_of}
use Rattle.oc_keep.specs.Promises.{ChangesNothing, Closes, IsSameNode}
use Rattle.oc_keep.specs.ReadyView.{GrowsBy, ReadyView, content_frames, control_frames, is_written, outcome_of, told_of}
use Rattle.oc_keep.proofs.Runs.{all_go_on_then, one_rose_after}
use Rattle.oc_keep.proofs.Sides.{honest_store}
use Rattle.oc_keep.proofs.Stays.{all_honest}

-- an error that was turned into another error
pub err_is : {T E : Type 0} (r : Result T E) (x : E) → IsErrAnd r (λ made. made ≡ x) → r ≡ Err x
err_is (Ok v) x h = absurd h
err_is (Err y) x h = cc

-- a node that is not closed is open
pub unshut : (closed : Bool) → (IsTrue closed → ⊥) → closed ≡ false
unshut false not = refl
unshut true not = absurd (not refl)

-- the node stays the same
pub same_node : (n m : Control) → m ≡ n → IsSameNode n m
same_node n m same = record { me = ap (λ (x : Control). x.me) same; header = ap header_of same }

-- the node stays the same after one call, and then after the next
pub same_then : (n m p : Control) → m ≡ n → IsSameNode m p → IsSameNode n p
same_then n m p same then = subst (λ (x : Control). IsSameNode x p) same then

-- a closed node makes nothing ready, and takes nothing
pub unready_closed : {T U : Type 0} (C : Type 0) (e : ReadyError) → IsErrOf {T = T} (Err e) readies.Closed ↔ C → IsErrOf {T = U} (Err (of_ready e)) keeps.Closed ↔ C
unready_closed C readies.Closed closed = (λ _. closed.0 refl, λ _. refl)
unready_closed C readies.Memory closed = (λ wrong. absurd cc, λ shut. let no = closed.1 shut in absurd cc)
unready_closed C readies.Disk closed = (λ wrong. absurd cc, λ shut. let no = closed.1 shut in absurd cc)

-- an input that was made ready is not refused for a closed node
pub uncommitted_closed : {T : Type 0} (e : CommitError) → IsErrOf {T = T} (Err (of_commit e)) keeps.Closed → ⊥
uncommitted_closed commits.Full wrong = absurd cc
uncommitted_closed commits.Disk wrong = absurd cc

-- a failed disk is no full file
disk_unfull : {T : Type 0} → IsErrOf {T = T} (Err commits.Disk) commits.Full → ⊥
disk_unfull wrong = absurd cc

-- a disk that failed in a later call
pub closes_then : {D : Type 0} (view : D → DiskView) (old mid new : KeptView D) → AllGoOn view (disks_of old) (disks_of mid) → Closes view mid new → Closes view old new
closes_then view old mid new on closes = record { rose = one_rose_after view (disks_of old) (disks_of mid) (disks_of new) on closes.rose; closes = closes.closes }

module _ {D : Type 0} (view : D → DiskView) where
  -- the files grow by the prepared write
  pub taken_growth : (old mid new : KeptView D) (i : Input) (r : ReadyView) → ChangesNothing view old mid → is_written r.write ≡ has_change (control_step old i) → IsHonest view old → GrowsBy r.write mid new
      → GrowsFor i old new
  taken_growth old mid new i r nothing exactly honest grows = record {
    write = r.write;
    exactly = exactly;
    grows = record {
      control = grows.control ∙ ap (λ (fs : List (List ℕ)). fs ++ control_frames r.write) (nothing.store.current.frames (honest_store view old.store honest.control honest.alternate).0);
      content = grows.content ∙ ap (λ (fs : List (List ℕ)). fs ++ content_frames r.write) (nothing.content.journal.frames honest.content);
    };
  }

  -- the same node is on the same files after an input was made ready
  pub same_ready : (old new : KeptView D) → StaysTheSame view old new → IsSameOnFiles view old new
  same_ready old new same = record {
    node = same_node old.node.control new.node.control same.nothing.control;
    goes_on = same.goes_on;
    generation = λ honest. same.nothing.store.generation;
  }

  -- the same node is on the same files after the commit
  pub same_taken : (old mid new : KeptView D) → StaysTheSame view old mid → IsSameOnFiles view mid new → IsSameOnFiles view old new
  same_taken old mid new same then = record {
    node = same_then old.node.control mid.node.control new.node.control same.nothing.control then.node;
    goes_on = all_go_on_then view (disks_of old) (disks_of mid) (disks_of new) same.goes_on then.goes_on;
    generation = λ honest. then.generation (all_honest view (disks_of old) (disks_of mid) same.goes_on honest) ∙ same.nothing.store.generation;
  }

  -- the control step that was made ready was done
  pub taken_control : (old mid new : KeptView D) (i : Input) (ready : ReadyView) (outcome : OutcomeView) → mid.node.control ≡ old.node.control → DoesControlStep (control_step old i) old.node.control ready
      → new.node.control ≡ control_after mid.node.control ready.plan → outcome ≡ told_of (outcome_of (node_of mid) ready) → IsControlStep (control_step old i) new.node.control outcome
  taken_control old mid new i ready outcome same does committed told = record {
    control = committed ∙ ap (λ (n : Control). control_after n ready.plan) same ∙ does.step.control;
    answer = ap (λ (o : OutcomeView). o.answer) told ∙ does.step.answer;
    sends = subst (λ (o : OutcomeView). AreSent (control_step old i).wants (control_step old i).sends o.sends) (sym told) does.step.sends;
  }

  -- an input that was not made ready was not taken
  pub unready : (e : ReadyError) (i : Input) (old new : KeptView D) → StaysTheSame view old new → FailsToReady view e i old new → RefusesInput view (of_ready e) i old new
  unready readies.Closed i old new same why = record { node = same.node; why = record { nothing = same.nothing; still = why } }
  unready readies.Memory i old new same why = record { node = same.node; why = record { nothing = same.nothing; still = why } }
  unready readies.Disk i old new same why = record { node = same.node; why = why }

  -- an input that was not committed was not taken
  pub uncommitted : {T : Type 0} (e : CommitError) (i : Input) (old mid new : KeptView D) → StaysTheSame view old mid → mid.closed ≡ old.closed → (Full : Type 0)
      → Full ↔ IsFullAt old i → IsErrOf {T = T} (Err e) commits.Full ↔ Full → FailsToCommit view e mid new → RefusesInput view (of_commit e) i old new
  uncommitted commits.Full i old mid new same still Full full is why = record {
    node = λ honest. ap (λ (k : KeptView D). node_of k) why ∙ same.node honest;
    why = (full.0 (is.0 refl), subst (DoesNothing view old) (sym why) (record { nothing = same.nothing; still = still }));
  }
  uncommitted commits.Disk i old mid new same still Full full is why = record {
    node = λ honest. why.1 (all_honest view (disks_of old) (disks_of mid) same.goes_on honest) ∙ same.node honest;
    why = (λ long. disk_unfull (is.1 (full.1 long)), closes_then view old mid new same.goes_on why.0);
  }
