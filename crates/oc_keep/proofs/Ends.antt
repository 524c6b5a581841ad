-- Facts about the answers of a call. Each is proved here about a few variables, since a proof among all facts of a call costs
-- far more.
use Rattle.std.proofs.Common.{◌≡◌, ◌↔◌, Bool, true, false, IsTrue, IsErrOf, Result, Ok, Err, refl, ap, ◌∙◌}
use Rattle.oc_content.specs.declared.errors.ReadError.{ReadError}
use Rattle.oc_content.specs.declared.errors.ReadError.TheVariants as reads
use Rattle.oc_journal.specs.declared.errors.AppendError.{AppendError}
use Rattle.oc_journal.specs.declared.errors.AppendError.TheVariants as appends
use Rattle.oc_keep.specs.Errors.{of_append}
use Rattle.oc_keep.specs.declared.ended.TrialEnd.TheVariants as ends
use Rattle.oc_keep.specs.declared.errors.CommitError.{CommitError}
use Rattle.oc_keep.specs.declared.errors.CommitError.TheVariants as commits
use Rattle.oc_keep.specs.declared.errors.KeepError.{KeepError}
use Rattle.oc_keep.specs.declared.errors.KeepError.TheVariants as keeps
use Rattle.oc_keep.specs.declared.errors.KeepLoad.{KeepLoad}
use Rattle.oc_keep.specs.declared.errors.KeptRead.TheVariants as kepts
use Rattle.oc_keep.specs.declared.errors.TidyError.TheVariants as tidies

-- a closed node is not open
pub shut_open : (closed : Bool) → closed ≡ true → closed ≡ false → ⊥
shut_open closed shut is_open = absurd cc

-- the error of a closed node is not answered by an open one
pub still_open : {T E : Type 0} (r : Result T E) (e : E) (closed : Bool) → (IsErrOf r e → ⊥) → closed ≡ false → IsErrOf r e ↔ IsTrue closed
still_open r e closed not is_open = (λ wrong. absurd (not wrong), λ shut. absurd (shut_open closed shut is_open))

-- a success is no failure
pub done : {T E : Type 0} (x : T) (e : E) → IsErrOf (Ok x) e → ⊥
done x e wrong = absurd cc

pub commit_unfull : {T : Type 0} (e : CommitError) → e ≡ commits.Disk → IsErrOf {T = T} (Err e) commits.Full → ⊥
commit_unfull e disk wrong = absurd cc

pub read_unfailed : {T : Type 0} (e : ReadError) → e ≡ reads.NoGroup → IsErrOf {T = T} (Err e) reads.Disk → ⊥
read_unfailed e none wrong = absurd cc

-- a trial ended since a file is full
pub ended_full : (e : KeepError) → ends.Take e ≡ ends.Take keeps.Full → e ≡ keeps.Full
ended_full e ended = cc

pub ended_all : ends.All ≡ ends.Take keeps.Full → ⊥
ended_all ended = absurd cc

pub ended_load : (e : KeepLoad) → ends.Load e ≡ ends.Take keeps.Full → ⊥
ended_load e ended = absurd cc

-- an error of a group that is not held is not that of a closed node
pub kept_none : {T : Type 0} → IsErrOf {T = T} (Err kepts.NoGroup) kepts.Closed → ⊥
kept_none wrong = absurd cc

pub kept_disk : {T : Type 0} → IsErrOf {T = T} (Err kepts.Disk) kepts.Closed → ⊥
kept_disk wrong = absurd cc

-- the error of a closed node is not that of a disk that failed now
pub tidy_closed : {T : Type 0} → IsErrOf {T = T} (Err tidies.Closed) tidies.Disk → ⊥
tidy_closed wrong = absurd cc

-- a frame is answered to be too long exactly where its append was refused as too long
append_full : {T : Type 0} (e : AppendError) (r : CommitError) → r ≡ of_append e → IsErrOf {T = T} (Err r) commits.Full → e ≡ appends.Full
append_full appends.Full r is full = refl
append_full appends.Disk r is full = absurd cc
append_full appends.Closed r is full = absurd cc

pub append_too_long : {T U : Type 0} (r : CommitError) (e : AppendError) (Open Long : Type 0) → r ≡ of_append e → Open → IsErrOf {T = T} (Err e) appends.Full ↔ (Open × Long) → IsErrOf {T = U} (Err r) commits.Full ↔ Long
append_too_long r e Open Long is is_open full = (
  λ failed. (full.0 (ap (λ (x : AppendError). Err x) (append_full e r is failed))).1,
  λ long. let same : e ≡ appends.Full = let failed = full.1 (is_open, long) in cc in ap (λ (x : CommitError). Err x) (is ∙ ap of_append same),
)
