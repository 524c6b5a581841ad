-- Why the content of a disk is refused.
use Rattle.std.proofs.Common.{◌≡◌, ◌≢◌, ℕ, suc, IsTrue, IsSome, Option, None, Some, Result, Ok, Err, IfErr, List, [], take, drop, fold, refl, sym, ap, subst, ◌∙◌, take-append-drop, arith}
use Rattle.std.proofs.lemmas.List.Sums.{fold-append}
use Rattle.std.specs.Result.{IsErrOf, OnErr}
use Rattle.oc_io.specs.DiskView.{DiskView, GoesOn, FailsToRead}
use Rattle.oc_io.proofs.Counts.{Rose-after}
use Rattle.oc_io.proofs.DiskMoments.{still_honest, still_reliable}
use Rattle.oc_journal.specs.JournalFile.{frames_of, IsNoJournal}
use Rattle.oc_journal.specs.JournalView.{JournalView}
use Rattle.oc_journal.specs.Promises.{RefusesLoad, ClosesByAppend}
use Rattle.oc_journal.specs.declared.errors.AppendError.{AppendError}
use Rattle.oc_journal.specs.declared.errors.AppendError.TheVariants as appends
use Rattle.oc_journal.specs.declared.errors.LoadError.{LoadError}
use Rattle.oc_journal.specs.declared.errors.LoadError.TheVariants as loads
use Rattle.oc_base.specs.declared.group.Group.{Group}
use Rattle.oc_journal.specs.declared.errors.FileError.{FileError}
use Rattle.oc_journal.specs.declared.errors.FileError.TheVariants.{Disk, NotJournal, BadFrame, Memory}
use Rattle.oc_content.specs.ContentFile.{content_of, more, IsFirstBad}
use Rattle.oc_content.specs.ContentView.{RefusesIndex, content_with}
use Rattle.oc_content.specs.declared.index.Index.{Index}
use Rattle.oc_content.specs.Indexes.{rooms, memory_of}
use Rattle.oc_journal.specs.Errors.{of_load}
use Rattle.oc_content.specs.Promises.{RefusesContent, ClosesByCommit}
use Rattle.oc_content.proofs.Meanings.{none_more}

-- the journal was refused
pub refused_load : (old new : DiskView) (error : LoadError) → RefusesLoad old new error → RefusesContent old new (of_load error)
refused_load old new loads.Disk why = why
refused_load old new loads.NotJournal why = why
refused_load old new loads.Memory why = tt

-- a read that failed after a load
fails_later : (u v w : DiskView) → GoesOn u v → FailsToRead v w → FailsToRead u w
fails_later u v w goes fails = record {
  count = Rose-after _ _ _ goes.count fails.count;
  unsure = λ sure. fails.unsure (record { reliable = still_reliable u v goes sure.reliable; room = omega arith; calls = omega arith });
}

-- the journal was loaded, and its frames refused
pub refused_index : (u v w : DiskView) (frames : List (List ℕ)) (error : FileError) → GoesOn u v → (IsTrue u.honest → frames ≡ frames_of u.seen) → (IsTrue u.honest → ¬ IsNoJournal u.seen) → RefusesIndex v w frames error → RefusesContent u w error
refused_index u v w frames Disk goes are journal why = fails_later u v w goes why
refused_index u v w frames NotJournal goes are journal why = absurd why
refused_index u v w frames (BadFrame i) goes are journal why = λ honest.
    (journal honest, subst (λ (fs : List (List ℕ)). IsFirstBad fs i) (are honest) (why (still_honest u v goes honest)))
refused_index u v w frames Memory goes are journal why = tt

-- where some first frames are bad, all are
bad_stays : (n : ℕ) (bodies : List (List ℕ)) → content_of (take n bodies) ≡ None → content_of bodies ≡ None
bad_stays n bodies bad =
    ap content_of (sym (take-append-drop n bodies)) ∙ fold-append more (Some []) (take n bodies) (drop n bodies)
    ∙ ap (λ (c : Option (List Group)). fold more c (drop n bodies)) bad ∙ none_more (drop n bodies)

-- nothing is not something
not_some : (content : Option (List Group)) → content ≡ None → ¬ IsSome content
not_some content none some = absurd (no_some (subst (λ (c : Option (List Group)). IsSome c) none some))
  where
    no_some : IsSome {T = List Group} None → ⊥
    no_some is = cc

-- a good file on a reliable disk is refused for want of memory alone
pub refused_memory : (old new : DiskView) (error : FileError) → RefusesContent old new error → IsTrue old.reliable → IsTrue old.honest → ¬ IsNoJournal old.seen → IsSome (content_of (frames_of old.seen)) → error ≡ Memory
refused_memory old new Disk why sure honest journal good = absurd (why.unsure (record { reliable = sure; room = omega arith; calls = omega arith }))
refused_memory old new NotJournal why sure honest journal good = absurd (journal (why honest))
refused_memory old new (BadFrame i) why sure honest journal good =
    let bad = why honest in absurd (not_some (content_of (frames_of old.seen)) (bad_stays (suc i) (frames_of old.seen) bad.1.bad) good)
refused_memory old new Memory why sure honest journal good = refl

-- why frames were not indexed, cause by cause
pub refuses_index : (old new : DiskView) (frames : List (List ℕ)) (error : FileError) → (error ≡ Disk → FailsToRead old new) → (error ≡ NotJournal → ⊥) → ((i : ℕ) → error ≡ BadFrame i → IsTrue old.honest → IsFirstBad frames i) → RefusesIndex old new frames error
refuses_index old new frames Disk disk journal bad = disk refl
refuses_index old new frames NotJournal disk journal bad = journal refl
refuses_index old new frames (BadFrame i) disk journal bad = bad i refl
refuses_index old new frames Memory disk journal bad = tt

-- an append that was refused kept the frames
pub frames_kept : {D : Type 0} (view : D → DiskView) (body : List ℕ) (old new : JournalView D) (r : Result (Unit {0}) AppendError) → IfErr r (λ e. e ≢ appends.Disk → new ≡ old) → (IsErrOf r appends.Disk → ClosesByAppend view body old new) → OnErr r (IsTrue (view old.disk).honest → new.frames ≡ old.frames)
frames_kept view body old new (Ok x) same disk = tt
frames_kept view body old new (Err appends.Closed) same disk = λ honest. ap (λ j. j.frames) (same (λ other. cc))
frames_kept view body old new (Err appends.Full) same disk = λ honest. ap (λ j. j.frames) (same (λ other. cc))
frames_kept view body old new (Err appends.Disk) same disk = λ honest. (disk refl).frames honest

-- a commit that was refused but by the disk changed nothing
pub parts_kept : {D : Type 0} (j k : JournalView D) (x y : Index) (r : Result ℕ AppendError) → IfErr r (λ e. e ≢ appends.Disk → k ≡ j) → OnErr r (y ≡ x) → IfErr r (λ e. e ≢ appends.Disk → content_with k y ≡ content_with j x)
parts_kept j k x y (Ok n) journal index = tt
parts_kept j k x y (Err e) journal index = λ other. ap (λ a. content_with a y) (journal other) ∙ ap (λ b. content_with j b) index

-- a commit that the disk refused closed the journal
pub closed_parts : {D : Type 0} (view : D → DiskView) (body : List ℕ) (j k : JournalView D) (x y : Index) (r : Result ℕ AppendError) → (IsErrOf r appends.Disk → ClosesByAppend view body j k) → OnErr r (y ≡ x) → IsErrOf r appends.Disk → ClosesByCommit view body (content_with j x) (content_with k y)
closed_parts view body j k x y (Ok n) closes index is = let f : Ok n ≡ Err appends.Disk = is in absurd cc
closed_parts view body j k x y (Err e) closes index is = record {
  journal = closes is;
  shelves = ap (λ (i : Index). i.shelves.items) index;
  rooms = ap (λ (i : Index). rooms i.tracks.items) index;
  memory = ap memory_of index;
}
