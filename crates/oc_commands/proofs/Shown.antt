-- The text of a loaded node.
use Rattle.std.proofs.Common.{◌≡◌, ◌∙◌, ◌++◌, ℕ, false, ap, List}
use Rattle.oc_base.specs.Groups.{shelf}
use Rattle.oc_keep.specs.Files.{Disks}
use Rattle.oc_keep.specs.KeptView.{IsHonest, KeptView, disks_of, node_of}
use Rattle.oc_keep.specs.Promises.{IsNodeOf, LoadsSafely}
use Rattle.oc_keep.proofs.Stays.{all_honest}
use Rattle.oc_model.specs.Node.{Header}
use Rattle.oc_io.specs.DiskView.{DiskView}
use Rattle.oc_replay.specs.Lines.{held_text}
use Rattle.oc_replay.specs.Shows.{show_text}
use Rattle.oc_model.specs.Status.{status_of}
use Rattle.oc_commands.specs.Checks.{Shows}

module _ {D : Type 0} (view : D → DiskView) (h : Header) (me : ℕ) (d : Disks D) (k : KeptView D) (loaded : IsNodeOf view h me d k) (safely : LoadsSafely view h me d (disks_of k))
    (groups : IsHonest view k → k.content.shelves ≡ shelf (node_of k).groups) where
  pub shown : (text : List ℕ) → text ≡ show_text me (status_of k.node.control false) ++ held_text k.content.shelves → Shows view h me d text
  shown text is = record {
    control = k.node.control;
    shelves = k.content.shelves;
    text_is = is;
    control_is = λ honest. ap (λ n. n.control) (loaded.node honest);
    shelves_are = λ honest. groups (all_honest view d (disks_of k) safely.goes_on honest) ∙ ap (λ n. shelf n.groups) (loaded.node honest);
  }
