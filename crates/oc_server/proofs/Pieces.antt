-- Pieces of contents that are read.
use Rattle.std.proofs.Common.{◌≡◌, ℕ, true, false, Bool, Some, None, List, [], ◌∷◌, take, drop, refl, sym, ap, subst, ◌∙◌, cond}
use Rattle.std.specs.Option.{option_map}
use Rattle.oc_base.specs.Groups.{bytes_of, group_of, or_empty, shelf, shelf_of}
use Rattle.oc_base.specs.Named.{same_name}
use Rattle.oc_base.specs.Shelves.{held_of, line_of}
use Rattle.oc_base.specs.declared.group.Group.{Group}
use Rattle.oc_base.specs.declared.shelf.Shelf.{Shelf}
use Rattle.oc_io.specs.DiskView.{DiskView}
use Rattle.oc_keep.specs.KeptView.{IsHonest, KeptView, node_of}
use Rattle.oc_routes.specs.Contents.{part_of}
use Rattle.oc_routes.proofs.PieceLaws.{drop_none, take_none}

-- Groups that are not held

unnamed : (same : Bool) (g : List ℕ) (k : Group) (ks : List Group) → (held_of g (shelf ks) ≡ None → bytes_of g ks ≡ [])
    → option_map (λ (l : Shelf). l.held) (cond same (Some (shelf_of k)) (line_of g (shelf ks))) ≡ None → (or_empty g (cond same (Some k) (group_of g ks))).bytes ≡ []
unnamed true g k ks more none = cc
unnamed false g k ks more none = more none

-- a group without a line has no bytes
no_line : (g : List ℕ) (ks : List Group) → held_of g (shelf ks) ≡ None → bytes_of g ks ≡ []
no_line g [] none = refl
no_line g (k ∷ ks) none = unnamed (same_name g k.name) g k ks (no_line g ks) none

-- a group that is not held has no piece to read
pub no_piece : {D : Type 0} (view : D → DiskView) (k : KeptView D) (g : List ℕ) (at w : ℕ) (lines : List Shelf) → (IsHonest view k → lines ≡ shelf (node_of k).groups) → held_of g lines ≡ None → IsHonest view k
    → [] ≡ part_of g at w (node_of k).groups
no_piece view k g at w lines is none honest =
    let empty : bytes_of g (node_of k).groups ≡ [] = no_line g (node_of k).groups (subst (λ (ls : List Shelf). held_of g ls ≡ None) (is honest) none) in
    sym (ap (λ (bytes : List ℕ). take w (drop at bytes)) empty ∙ ap (λ (bytes : List ℕ). take w bytes) (drop_none at) ∙ take_none w)
