-- One read of a journal.
use Rattle.std.proofs.Common.{◌≡◌, ◌≤◌, ℕ, Bool, true, IsTrue, IsErrOf, Err, List, length, refl, sym, ◌∙◌, ap, subst, arith}
use Rattle.std.proofs.lemmas.List.{length-map}
use Rattle.oc_io.specs.DiskView.{DiskView, StaysAsItWas}
use Rattle.oc_journal.specs.JournalFile.{frames_of, EndsAt}
use Rattle.oc_journal.specs.JournalView.{at_extent, at_extents, IsIndexed}
use Rattle.oc_journal.specs.Promises.{OnlyReads}
use Rattle.oc_journal.specs.declared.errors.FrameError.TheVariants.{Disk, Memory}
use Rattle.oc_journal.specs.declared.extent.Extent.{Extent}
use Rattle.oc_journal.proofs.Loads.{IsSafe-stays}

-- a failed call is no want of memory
pub disk_not_memory : {T : Type 0} → IsErrOf {T = T} (Err Disk) Memory → ⊥
disk_not_memory is = absurd cc

-- a lack of memory is not a failed call
pub memory_not_disk : {T : Type 0} → IsErrOf {T = T} (Err Memory) Disk → ⊥
memory_not_disk is = absurd cc

-- A read leaves the bodies at the extents, whether or not it closes the journal.
module _ {D : Type 0} (view : D → DiskView) (d e : D) (extents : List Extent) (stays : StaysAsItWas (view d) (view e)) where
  pub OnlyReads-read : (end spare : ℕ) (was closed : Bool) → OnlyReads view (record { disk = d; frames = at_extents (view d).seen extents; end = end; spare = spare; closed = was }) (record { disk = e; frames = at_extents (view e).seen extents; end = end; spare = spare; closed = closed })
  OnlyReads-read end spare was closed = record {
    disk = stays;
    frames = λ h. ap (λ (file : List ℕ). at_extents file extents) (stays.seen h);
    count = length-map extents (at_extent (view e).seen) ∙ sym (length-map extents (at_extent (view d).seen));
    end = refl;
    spare = omega arith;
  }

-- The index is still that of the disk.
module _ (v w : DiskView) (extents : List Extent) (offset : ℕ) (closed : Bool) (is : IsIndexed v extents offset closed) (stays : StaysAsItWas v w) (size : w.size ≡ v.size) where
  back : IsTrue w.honest → IsTrue v.honest
  back h = subst (λ (b : Bool). IsTrue b) stays.goes_on.honest h

  pub IsIndexed-read : IsIndexed w extents offset closed
  IsIndexed-read = record {
    within = is.within;
    start = is.start;
    first = is.first;
    size = omega (arith, is.size, size);
    settled = λ is_open h.
        let was = is.settled is_open (back h) in
        record {
          ends = subst (λ (file : List ℕ). EndsAt file (frames_of file) offset) (sym (stays.seen (back h))) was.ends;
          safe = IsSafe-stays v w stays (back h) was.safe;
        };
    frames = λ is_open h. subst (λ (file : List ℕ). at_extents file extents ≡ frames_of file) (sym (stays.seen (back h))) (is.frames is_open (back h));
  }

  pub IsIndexed-closed : IsIndexed w extents offset true
  IsIndexed-closed = record {
    within = is.within;
    start = is.start;
    first = is.first;
    size = omega (arith, is.size, size);
    settled = λ is_open h. absurd cc;
    frames = λ is_open h. absurd cc;
  }

-- More room for extents or on the disk changes neither.
module _ {D : Type 0} (view : D → DiskView) (d e : D) (extents more : List Extent) (same : more ≡ extents) (stays : StaysAsItWas (view d) (view e)) where
  pub OnlyReads-reserved : (end spare later : ℕ) (was : Bool) → spare ≤ later → OnlyReads view (record { disk = d; frames = at_extents (view d).seen extents; end = end; spare = spare; closed = was }) (record { disk = e; frames = at_extents (view e).seen more; end = end; spare = later; closed = was })
  OnlyReads-reserved end spare later was grown = record {
    disk = stays;
    frames = λ h. ap (at_extents (view e).seen) same ∙ ap (λ (file : List ℕ). at_extents file extents) (stays.seen h);
    count = length-map more (at_extent (view e).seen) ∙ ap length same ∙ sym (length-map extents (at_extent (view d).seen));
    end = refl;
    spare = grown;
  }

-- an index with more memory
pub IsIndexed-reserved : (v w : DiskView) (extents more : List Extent) (offset : ℕ) (closed : Bool) → more ≡ extents → IsIndexed v extents offset closed → StaysAsItWas v w → w.size ≡ v.size → IsIndexed w more offset closed
IsIndexed-reserved v w extents more offset closed same is stays size =
    subst (λ (s : List Extent). IsIndexed w s offset closed) (sym same) (IsIndexed-read v w extents offset closed is stays size)
