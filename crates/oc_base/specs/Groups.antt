-- The groups of a node: a list ascending by name.
use Rattle.std.specs.Prelude.{ℕ, false, if◌then◌else◌, Option, Some, None, List, [], ◌∷◌, length}
use Rattle.std.specs.Ordering.{nat_cmp, match_ordering}
use Rattle.std.specs.Cmp.Lexicographic.{slice_cmp}
use Rattle.oc_base.specs.declared.group.Group.{Group}
use Rattle.oc_base.specs.declared.shelf.Shelf.{Shelf}
use Rattle.oc_base.specs.Named.{same_name}
use Rattle.oc_base.specs.Named as named

-- the group of this name
abbrev pub group_of : List ℕ → List Group → Option Group
group_of g [] = None
group_of g (k ∷ ks) = if same_name g k.name then Some k else group_of g ks

-- the groups with this one in place of the group of the same name
abbrev pub with_group : Group → List Group → List Group
with_group g [] = g ∷ []
with_group g (k ∷ ks) = match_ordering (slice_cmp nat_cmp g.name k.name) (g ∷ k ∷ ks) (g ∷ ks) (k ∷ with_group g ks)

-- the group, or an empty one of this name where there is none
abbrev pub or_empty : List ℕ → Option Group → Group
or_empty g None = record { name = g; bytes = []; sealed = false }
or_empty g (Some k) = k

-- the group of this name, or an empty one where the node has no such group
abbrev pub group_or_empty : List ℕ → List Group → Group
group_or_empty g ks = or_empty g (group_of g ks)

-- the bytes of the group of this name
abbrev pub bytes_of : List ℕ → List Group → List ℕ
bytes_of g ks = (group_or_empty g ks).bytes

-- a group's line on the shelf: its name, its length in bytes and its seal
abbrev pub shelf_of : Group → Shelf
shelf_of k = record { group = k.name; held = length k.bytes; sealed = k.sealed }

-- the lines of all groups
abbrev pub shelf : List Group → List Shelf
shelf [] = []
shelf (k ∷ ks) = shelf_of k ∷ shelf ks

-- all these groups have names greater than this one
abbrev pub AreAbove : List ℕ → List Group → Type 0
AreAbove g ks = named.AreAbove (λ (k : Group). k.name) g ks

-- each name is greater than those before it
abbrev pub IsAscending : List Group → Type 0
IsAscending ks = named.AreAscending (λ (k : Group). k.name) ks
