-- A process as contracts see it: the model's process, and the node on its files while it is up.
use Rattle.std.specs.Prelude.{ℕ, ◌<◌, Option, Some, None}
use Rattle.oc_keep.specs.KeptView.{IsRipe, KeptView}
use Rattle.oc_keep.specs.ReadyView.{CanCommit, ReadyView}
use Rattle.oc_model.specs.World.{Process}
use Rattle.oc_io.specs.MemDiskView.{MemDiskView, view_of}

-- the process of the model, and the node on its files while it is up
pub record ProcessView : Type 0 where
  pub process : Process
  pub kept : Option (KeptView MemDiskView)

-- a node that is down
abbrev pub resting : Process → ProcessView
resting p = record { process = p; kept = None }

-- an input that was made ready can be committed
abbrev pub CanCommitTo : Option (KeptView MemDiskView) → ReadyView → Type 0
CanCommitTo None r = ⊥
CanCommitTo (Some k) r = CanCommit view_of k r

-- the control files of a node that is up are ripe
abbrev pub AreRipe : Option (KeptView MemDiskView) → Type 0
AreRipe None = ⊥
AreRipe (Some k) = IsRipe k

-- their generation, where the node is up
abbrev pub generation_of : Option (KeptView MemDiskView) → ℕ
generation_of None = 0
generation_of (Some k) = k.store.generation

-- files that were ripe have a greater generation
abbrev pub Renews : Option (KeptView MemDiskView) → Option (KeptView MemDiskView) → Type 0
Renews old new = AreRipe old → generation_of old < generation_of new
