-- The bytes that were read ahead, as calls go on.
use Rattle.std.proofs.Common.{◌≡◌, ◌-◌, ◌≤◌, ℕ, Bool, IsTrue, IsSomeAnd, IfSome, List, Option, Some, None, length, take, drop, refl, sym, ap, subst, ◌∙◌, arith}
use Rattle.std.proofs.lemmas.List.{take_all}
use Rattle.oc_io.specs.DiskView.{DiskView}
use Rattle.oc_journal.specs.JournalView.{JournalView}
use Rattle.oc_journal.specs.Promises.{OnlyReads}
use Rattle.oc_base.specs.Shelves.{held_of}
use Rattle.oc_content.specs.Aheads.{IsAhead, IsChunkOf, IsContent, AreHeld}
use Rattle.oc_content.specs.ContentFile.{bytes_in}
use Rattle.oc_content.specs.ContentView.{ContentView, IsIndexed, content_with}
use Rattle.oc_content.specs.Promises.{PutsNothing}
use Rattle.oc_content.specs.declared.ahead.Ahead.{Ahead}
use Rattle.oc_content.specs.declared.ahead.Chunk.{Chunk}
use Rattle.oc_content.specs.declared.ahead.Stretch.{Stretch}
use Rattle.oc_content.specs.declared.index.Index.{Index}
use Rattle.oc_content.proofs.Views.{IsIndexed-same, PutsNothing-by, held_bytes}

-- where a journal that was only read is honest, it was so before, and has the same frames
same_frames : {D : Type 0} (view : D → DiskView) (j k : JournalView D) → OnlyReads view j k → IsTrue (view k.disk).honest → IsTrue (view j.disk).honest × (k.frames ≡ j.frames)
same_frames view j k reads honest =
    let before = subst (λ (b : Bool). IsTrue b) reads.disk.goes_on.honest honest in
    (before, reads.frames before)

-- a call that only read
pub ahead_reads : {D : Type 0} (view : D → DiskView) (j k : JournalView D) (a : Ahead) → OnlyReads view j k → IsAhead view j a → IsAhead view k a
ahead_reads view j k a reads = by_chunk a.chunk where
  by_chunk : (o : Option Chunk) → IfSome o (λ c. IsTrue (view j.disk).honest → IsChunkOf j.frames c) → IfSome o (λ c. IsTrue (view k.disk).honest → IsChunkOf k.frames c)
  by_chunk None is = tt
  by_chunk (Some c) is = λ honest.
      let same = same_frames view j k reads honest in
      subst (λ (frames : List (List ℕ)). IsChunkOf frames c) (sym same.1) (is same.0)

-- the group has as many bytes as are there
there_long : {D : Type 0} (view : D → DiskView) (j : JournalView D) (x : Index) (s : Stretch) → IsIndexed view j x → AreHeld x.shelves.items s → IsTrue (view j.disk).honest → s.count ≤ length (bytes_in s.group j.frames) - s.start
there_long view j x s is there honest = by_held (held_of s.group x.shelves.items) refl there where
  by_held : (o : Option ℕ) → held_of s.group x.shelves.items ≡ o → IsSomeAnd o (λ held. s.count ≤ held - s.start) → s.count ≤ length (bytes_in s.group j.frames) - s.start
  by_held None e none = absurd none
  by_held (Some n) e some = subst (λ (m : ℕ). s.count ≤ m - s.start) (held_bytes view j x s.group n is honest e) some

-- bytes that are all there were read
pub chunk_read : {D : Type 0} (view : D → DiskView) (j k : JournalView D) (x : Index) (s : Stretch) (bs : List ℕ) → IsIndexed view j x → OnlyReads view j k → AreHeld x.shelves.items s → length bs ≡ s.count
    → (IsTrue (view j.disk).honest → take (length (bytes_in s.group j.frames) - s.start) bs ≡ take s.count (drop s.start (bytes_in s.group j.frames)))
    → IsTrue (view k.disk).honest → bs ≡ take (length bs) (drop s.start (bytes_in s.group k.frames))
chunk_read view j k x s bs is reads there long read honest =
    let same = same_frames view j k reads honest in
    let many = there_long view j x s is there same.0 in
    let all : take (length (bytes_in s.group j.frames) - s.start) bs ≡ bs = take_all (length (bytes_in s.group j.frames) - s.start) bs (omega (arith, many, long)) in
    subst (λ (frames : List (List ℕ)). bs ≡ take (length bs) (drop s.start (bytes_in s.group frames))) (sym same.1)
    (sym all ∙ (read same.0 ∙ ap (λ (n : ℕ). take n (drop s.start (bytes_in s.group j.frames))) (sym long)))

-- the content of a journal that was only read
pub content_reads : {D : Type 0} (view : D → DiskView) (j k : JournalView D) (x : Index) (a b : Ahead) → IsContent view j x a → OnlyReads view j k → IsAhead view k b → IsContent view k x b
content_reads view j k x a b is reads ahead = record {
  indexed = IsIndexed-same view j k x is.indexed reads.disk.goes_on.honest reads.frames;
  ahead = ahead;
}

-- the view of the content is the same
pub sees_nothing : {D : Type 0} (view : D → DiskView) (j k : JournalView D) (x : Index) (v : ContentView D) → content_with j x ≡ v → OnlyReads view j k → PutsNothing view v (content_with k x)
sees_nothing view j k x v is reads =
    subst (λ (w : ContentView _). PutsNothing view w (content_with k x)) is
    (PutsNothing-by view j k x x reads (record { lines = refl; tracks = record { paths = refl; rooms = λ i. omega arith }; memory = omega arith }))
