-- Calls that leave the node as it is.
use Rattle.std.specs.Prelude.{◌≡◌, ℕ, zero, suc, ◌<◌, false}
use Rattle.oc_keep.specs.Files.{Disks, AllGoOn, AlwaysLeaves, OneRose, SameDurable, Survives}
use Rattle.oc_keep.specs.KeptView.{IsHonest, IsRipe, KeptView, disks_of, header_of, node_of}
use Rattle.oc_keep.specs.Promises.{IsSameNode}
use Rattle.oc_keep.specs.declared.errors.ReadyError.{ReadyError}
use Rattle.oc_keep.specs.declared.errors.ReadyError.TheVariants as readies
use Rattle.oc_keep.specs.declared.errors.TidyError.{TidyError}
use Rattle.oc_keep.specs.declared.errors.TidyError.TheVariants as tidies
use Rattle.oc_model.specs.Node.{Header, Node}
use Rattle.oc_io.specs.DiskView.{DiskView}
use Rattle.oc_io.specs.Faults.{NoFall}
use Rattle.oc_deeds.specs.declared.ends.TurnEnd.{TurnEnd}
use Rattle.oc_deeds.specs.declared.ends.TurnEnd.TheVariants as ends

-- the same disks at a later time, where every crash at any moment between leaves a node with the property P
pub record RunsSafely {D : Type 0} (view : D → DiskView) (h : Header) (me : ℕ) (old new : Disks D) (P : Node → Type 0) : Type 0 where
  pub goes_on : AllGoOn view old new
  pub any_moment : AlwaysLeaves view h me old new P

-- this number of calls on the files, where every crash at any moment of each leaves this node
abbrev pub LooksOn : {D : Type 0} → (D → DiskView) → Header → ℕ → Node → ℕ → Disks D → Disks D → Type 0
LooksOn view h me n zero d e = e ≡ d
LooksOn {D} view h me n (suc k) d e = (at : Disks D) × RunsSafely view h me d at (SameDurable n) × LooksOn view h me n k at e

-- some number of such calls, from this node's files to those
abbrev pub LooksUntil : {D : Type 0} → (D → DiskView) → KeptView D → Disks D → Type 0
LooksUntil view k e = (calls : ℕ) × LooksOn view (header_of k.node.control) k.node.control.me (node_of k) calls (disks_of k) e

-- nothing of the node changed, and its disks go on
pub record LooksOnly {D : Type 0} (view : D → DiskView) (old new : KeptView D) : Type 0 where
  pub is_open : new.closed ≡ false
  pub same : IsSameNode old.node.control new.node.control
  pub goes_on : AllGoOn view (disks_of old) (disks_of new)
  pub node : IsHonest view old → node_of new ≡ node_of old
  pub generation : IsHonest view old → NoFall old.store.generation new.store.generation
  pub moments : IsHonest view old → LooksUntil view old (disks_of new)

-- files that were ripe have a greater generation
abbrev pub Renews : {D : Type 0} → (D → DiskView) → KeptView D → KeptView D → Type 0
Renews view old new = IsHonest view old → IsRipe old → old.store.generation < new.store.generation

-- the cause for which a look ended
abbrev pub LookCause : {D : Type 0} → (D → DiskView) → TurnEnd → KeptView D → KeptView D → Type 0
LookCause view ends.Disk old new = OneRose view (disks_of old) (disks_of new)
LookCause view ends.Memory old new = Unit {0}
LookCause view end old new = ⊥

-- memory ran out or a disk failed, and every crash leaves the node as it was
pub record LookStops {D : Type 0} (view : D → DiskView) (end : TurnEnd) (old new : KeptView D) : Type 0 where
  pub goes_on : AllGoOn view (disks_of old) (disks_of new)
  pub leaves : IsHonest view old → Survives view (header_of old.node.control) old.node.control.me (disks_of new) (node_of old)
  pub moments : IsHonest view old → LooksUntil view old (disks_of new)
  pub cause : LookCause view end old new

-- the cause for which the files are not tidied; those of a node whose disks failed never are
abbrev pub end_of_tidy : TidyError → TurnEnd
end_of_tidy tidies.Closed = ends.Disk
end_of_tidy tidies.Memory = ends.Memory
end_of_tidy tidies.Disk = ends.Disk

-- the cause for which an input is not made ready
abbrev pub end_of_ready : ReadyError → TurnEnd
end_of_ready readies.Closed = ends.Disk
end_of_ready readies.Memory = ends.Memory
end_of_ready readies.Disk = ends.Disk
