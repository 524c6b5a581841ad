-- The text shown for a node's files.
use Rattle.std.specs.Prelude.{◌≡◌, ◌≤◌, ℕ, false, List, ◌++◌}
use Rattle.oc_base.specs.declared.limits.TheConstants.{MAX_CHAIN, MAX_CHUNK_BYTES, MAX_NODES}
use Rattle.oc_base.specs.Groups.{shelf}
use Rattle.oc_base.specs.declared.shelf.Shelf.{Shelf}
use Rattle.oc_keep.specs.Files.{Disks, AreHonest}
use Rattle.oc_keep.specs.Trials.{first_node}
use Rattle.oc_model.specs.Node.{Control, Header}
use Rattle.oc_io.specs.DiskView.{DiskView}
use Rattle.oc_replay.specs.Lines.{held_text}
use Rattle.oc_replay.specs.Shows.{show_text}
use Rattle.oc_model.specs.Status.{status_of}
use Rattle.oc_model.specs.declared.header.Sizes.{Sizes}

-- the numbers are within their ranges
pub record AreSizes (n : Sizes) : Type 0 where
  pub some : 1 ≤ n.nodes
  pub few : n.nodes ≤ MAX_NODES
  pub chained : 1 ≤ n.chain
  pub short : n.chain ≤ MAX_CHAIN
  pub within : n.chain ≤ n.nodes
  pub sends : 1 ≤ n.chunk
  pub fits : n.chunk ≤ MAX_CHUNK_BYTES

-- a text is the block of `show` of a node that is down, and its block of `held`: over honest disks, of the node that their files recover
pub record Shows {D : Type 0} (view : D → DiskView) (h : Header) (me : ℕ) (d : Disks D) (text : List ℕ) : Type 0 where
  pub control : Control
  pub shelves : List Shelf
  pub text_is : text ≡ show_text me (status_of control false) ++ held_text shelves
  pub control_is : AreHonest view d → control ≡ (first_node view h me d).control
  pub shelves_are : AreHonest view d → shelves ≡ shelf (first_node view h me d).groups
