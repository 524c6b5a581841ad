-- Bytes of a group that are read before a fetch asks for them.
use Rattle.std.specs.Prelude.{◌≡◌, ℕ, ◌-◌, ◌≤◌, IsTrue, IsSomeAnd, IfSome, List, length, take, drop}
use Rattle.oc_base.specs.declared.shelf.Shelf.{Shelf}
use Rattle.oc_base.specs.Shelves.{held_of}
use Rattle.oc_io.specs.DiskView.{DiskView}
use Rattle.oc_journal.specs.JournalView.{JournalView}
use Rattle.oc_content.specs.ContentFile.{bytes_in}
use Rattle.oc_content.specs.ContentView.{IsIndexed}
use Rattle.oc_content.specs.declared.ahead.Ahead.{Ahead}
use Rattle.oc_content.specs.declared.ahead.Chunk.{Chunk}
use Rattle.oc_content.specs.declared.ahead.Stretch.{Stretch}
use Rattle.oc_content.specs.declared.index.Index.{Index}

-- the group has all these bytes
abbrev pub AreHeld : List Shelf → Stretch → Type 0
AreHeld lines s = IsSomeAnd (held_of s.group lines) (λ held. s.count ≤ held - s.start)

-- these bytes are those of their group, from their offset on
abbrev pub IsChunkOf : List (List ℕ) → Chunk → Type 0
IsChunkOf frames c = c.bytes.items ≡ take (length c.bytes.items) (drop c.start (bytes_in c.group frames))

-- on an honest disk, the bytes that were read ahead are those of the frames
abbrev pub IsAhead : {D : Type 0} → (D → DiskView) → JournalView D → Ahead → Type 0
IsAhead view j a = IfSome a.chunk (λ c. IsTrue (view j.disk).honest → IsChunkOf j.frames c)

-- the index is that of the journal's frames, and the bytes that were read ahead are theirs
pub record IsContent {D : Type 0} (view : D → DiskView) (j : JournalView D) (x : Index) (a : Ahead) : Type 0 where
  pub indexed : IsIndexed view j x
  pub ahead : IsAhead view j a
