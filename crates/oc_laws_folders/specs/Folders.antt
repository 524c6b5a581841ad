-- The folders of the nodes, and of the source.
use Rattle.std.specs.Prelude.{◌≡◌, ◌≤◌, ℕ, List, ◌++◌, length}
use Rattle.oc_base.specs.Groups.{bytes_of}
use Rattle.oc_folder.specs.declared.state.State.{State}
use Rattle.oc_folder.specs.Reading.{Passes, IsReading}
use Rattle.oc_folder.specs.Forward.{ShowsBatch}
use Rattle.oc_model.specs.World.{World, node}

-- the bytes of a group that a node holds, and those that the source has published; a group that is not there has none
abbrev pub bytes_at : World → ℕ → List ℕ → List ℕ
bytes_at w x g = bytes_of g (node w x).groups

abbrev pub source_bytes : World → List ℕ → List ℕ
source_bytes w g = bytes_of g w.source

-- the second folder is no older than the first: it has at least its batches, and is the same where it has no more
pub record IsNoOlder (s t : State) : Type 0 where
  pub batches : s.batches ≤ t.batches
  pub end : s.end ≤ t.end
  pub same : t.batches ≡ s.batches → (t.shown ≡ s.shown) × (t.end ≡ s.end)

-- what is shown is the folder of these bytes after some batch, whole: their reading came through it; that of all the bytes is no older
pub record IsSnapshot (bytes : List ℕ) (s : State) : Type 0 where
  pub batch : ShowsBatch bytes s
  pub came : Passes bytes batch.last
  pub passed : (t : State) → IsReading bytes t → IsNoOlder s t

-- all that an index of a node's bytes comes through is a snapshot of the source's folder
abbrev pub AreSnapshots : World → Type 0
AreSnapshots w = (x : ℕ) (g : List ℕ) (s : State) → Passes (bytes_at w x g) s → IsSnapshot (source_bytes w g) s

-- each node still holds, in the second world, what it held in the first
abbrev pub LoseNothing : World → World → Type 0
LoseNothing w v = (x : ℕ) (g : List ℕ) → (more : List ℕ) × (bytes_at v x g ≡ bytes_at w x g ++ more)

-- what a node's bytes are read as in the second world is no older than what an index came to in the first
abbrev pub GoForward : World → World → Type 0
GoForward w v = (x : ℕ) (g : List ℕ) (s t : State) → Passes (bytes_at w x g) s → IsReading (bytes_at v x g) t → IsNoOlder s t

-- where another node has the bytes up to the end of what a node shows, what it reads is no older
abbrev pub KeepUp : World → Type 0
KeepUp w = (x y : ℕ) (g : List ℕ) (s t : State)
    → Passes (bytes_at w x g) s → IsReading (bytes_at w y g) t → s.end ≤ length (bytes_at w y g) → IsNoOlder s t
