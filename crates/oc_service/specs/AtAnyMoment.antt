-- The state after every crash, at any moment of a run.
use Rattle.std.specs.Prelude.{ℕ, List}
use Rattle.oc_io.specs.DiskView.{DiskView}
use Rattle.oc_keep.specs.Files.{Disks, IsLeft}
use Rattle.oc_keep.specs.Trials.{first_node}
use Rattle.oc_model.specs.Node.{Header, Node}
use Rattle.oc_deeds.specs.Changes.{after_changes, changes_of}
use Rattle.oc_deeds.specs.Deeds.{Deed}
use Rattle.oc_server.specs.Looks.{RunsSafely}
use Rattle.oc_server.specs.Moments.{AtEachPrefix}
use Rattle.oc_server.specs.Scenes.{EndsOn}
use Rattle.oc_deeds.specs.Under.{Under}

-- The files and the output at every moment of a run: while the node was loaded every
-- crash left the files as a crash at the start would have left them, and nothing was written; then,
-- at each prefix of its deeds, their lines were written, and every crash leaves the node after
-- them, or with the input of the next deed; and the same with this under way after them all.
pub record AlwaysRecovers {D K : Type 0} (view : D → DiskView) (h : Header) (me : ℕ) (takes : K → List ℕ → K → Type 0) (says : Deed → List ℕ) (deeds : List Deed) (under : Under) (old new : Disks D) (sink written : K) : Type 0 where
  pub loaded : Disks D
  pub done : Disks D
  pub load : RunsSafely view h me old loaded (IsLeft view h me old)
  pub prefixes : AtEachPrefix view h me takes says deeds (first_node view h me old) loaded sink done written
  pub ends : EndsOn view h me (after_changes (first_node view h me old) (changes_of deeds)) under done new
