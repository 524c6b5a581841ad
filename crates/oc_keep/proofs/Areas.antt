-- A node that goes by other areas.
use Rattle.std.proofs.Common.{◌≡◌, ℕ, ◌≤◌, inl, inr, List, length}
use Rattle.std.specs.List.{AllByRecursion}
use Rattle.oc_base.specs.declared.limits.TheConstants.{MAX_AREA}
use Rattle.oc_io.specs.DiskView.{DiskView}
use Rattle.oc_model.specs.Node.{Header, Node}
use Rattle.oc_node.proofs.Reaching.{reached_areas}
use Rattle.oc_keep.specs.Files.{AlwaysLeaves, Disks, Leaves, SameAsEither, SameDurable, Survives, recovered}
use Rattle.oc_keep.specs.KeptView.{IsKept, KeptView, going_by}

pub kept_areas : {D : Type 0} (view : D → DiskView) (areas : List ℕ) (k : KeptView D) → IsKept view k → length areas ≡ k.node.control.nodes → AllByRecursion (λ a. a ≤ MAX_AREA) areas → IsKept view (going_by areas k)
kept_areas view areas k is many bytes = record {
  reached = reached_areas areas k.node.control is.reached many bytes;
  open_store = is.open_store;
  open_content = is.open_content;
  folds = is.folds;
  control_files = is.control_files;
  good = is.good;
  content_file = is.content_file;
  shelved = is.shelved;
  log = is.log;
  short = is.short;
}

-- What files recover

abbrev pub among : List ℕ → Header → Header
among areas h = record h { areas = areas }

-- the durable parts that files recover are the same for all areas
same_areas : (areas : List ℕ) (h : Header) (me : ℕ) (n : Node) (a b c : List ℕ) → SameDurable n (recovered h me a b c) → SameDurable n (recovered (among areas h) me a b c)
same_areas areas h me n a b c same = record { kept = same.kept; groups = same.groups }

either_same : (areas : List ℕ) (h : Header) (me : ℕ) (n m : Node) (a b c : List ℕ) → SameAsEither n m (recovered h me a b c) → SameAsEither n m (recovered (among areas h) me a b c)
either_same areas h me n m a b c (inl same) = inl (same_areas areas h me n a b c same)
either_same areas h me n m a b c (inr same) = inr (same_areas areas h me m a b c same)

pub survives_areas : {D : Type 0} (view : D → DiskView) (areas : List ℕ) (h : Header) (me : ℕ) (d : Disks D) (n : Node) → Survives view h me d n → Survives view (among areas h) me d n
survives_areas view areas h me d n survives = record { each = λ a b c left. same_areas areas h me n a b c (survives.each a b c left) }

pub leaves_areas : {D : Type 0} (view : D → DiskView) (areas : List ℕ) (h : Header) (me : ℕ) (d : Disks D) (n m : Node) → Leaves view h me d (SameAsEither n m) → Leaves view (among areas h) me d (SameAsEither n m)
leaves_areas view areas h me d n m leaves = record { each = λ a b c left. either_same areas h me n m a b c (leaves.each a b c left) }

pub always_areas : {D : Type 0} (view : D → DiskView) (areas : List ℕ) (h : Header) (me : ℕ) (d e : Disks D) (n : Node) → AlwaysLeaves view h me d e (SameDurable n) → AlwaysLeaves view (among areas h) me d e (SameDurable n)
always_areas view areas h me d e n always = record { later = always.later; each = λ a b c left. same_areas areas h me n a b c (always.each a b c left) }

pub always_either_areas : {D : Type 0} (view : D → DiskView) (areas : List ℕ) (h : Header) (me : ℕ) (d e : Disks D) (n m : Node) → AlwaysLeaves view h me d e (SameAsEither n m) → AlwaysLeaves view (among areas h) me d e (SameAsEither n m)
always_either_areas view areas h me d e n m always = record { later = always.later; each = λ a b c left. either_same areas h me n m a b c (always.each a b c left) }
