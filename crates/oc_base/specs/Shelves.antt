-- Shelves: the lines of the groups of a node, ascending by name.
use Rattle.std.specs.Prelude.{◌≤◌, ◌<◌, ℕ, if◌then◌else◌, Option, Some, None, option_map, IsSomeAnd, List, [], ◌∷◌, length}
use Rattle.std.specs.List.{sum_by}
use Rattle.oc_base.specs.declared.limits.TheConstants.{MAX_GROUPS, MAX_GROUP_BYTES}
use Rattle.oc_base.specs.declared.shelf.Shelf.{Shelf}
use Rattle.oc_base.specs.declared.named.Lookup.{Lookup}
use Rattle.oc_base.specs.Named.{same_name, AreAbove, AreAscending, IsFoundAt, IsFreeAt, LooksUp}
use Rattle.oc_base.specs.Names.{IsGroupName}

-- the line of the group of this name
abbrev pub line_of : List ℕ → List Shelf → Option Shelf
line_of g [] = None
line_of g (l ∷ ls) = if same_name g l.group then Some l else line_of g ls

-- the number of bytes of the group of this name, if the node has such a group
abbrev pub held_of : List ℕ → List Shelf → Option ℕ
held_of g ls = option_map (λ l. l.held) (line_of g ls)

-- the sum of the lengths of all groups, in bytes
abbrev pub held_in_all : List Shelf → ℕ
held_in_all ls = sum_by (λ l. l.held) ls

-- the node holds the byte at this offset of the group of this name
abbrev pub IsHeldAt : List ℕ → List Shelf → ℕ → Type 0
IsHeldAt g ls start = IsSomeAnd (held_of g ls) (λ held. start < held)

-- all these lines have names greater than this one
abbrev pub AreLinesAbove : List ℕ → List Shelf → Type 0
AreLinesAbove g ls = AreAbove (λ (l : Shelf). l.group) g ls

-- each line's name is greater than those before it
abbrev pub AreLinesAscending : List Shelf → Type 0
AreLinesAscending ls = AreAscending (λ (l : Shelf). l.group) ls

-- the line of this name is at index i, after those of smaller names
abbrev pub IsLineAt : List Shelf → List ℕ → ℕ → Type 0
IsLineAt ls g i = IsFoundAt (λ (l : Shelf). l.group) ls g i

-- no line has this name, and it would be at index i
abbrev pub IsFreeLineAt : List Shelf → List ℕ → ℕ → Type 0
IsFreeLineAt ls g i = IsFreeAt (λ (l : Shelf). l.group) ls g i

-- the result of a search for the line of this name
abbrev pub LooksUpLine : List Shelf → List ℕ → Lookup → Type 0
LooksUpLine ls g place = LooksUp (λ (l : Shelf). l.group) ls g place

-- a line of a group that is within its limit
abbrev pub IsLine : Shelf → Type 0
IsLine l = IsGroupName l.group × (l.held ≤ MAX_GROUP_BYTES)

-- lines of groups, ascending by name
abbrev pub AreLines : List Shelf → Type 0
AreLines [] = Unit {0}
AreLines (l ∷ ls) = IsLine l × AreLinesAbove l.group ls × AreLines ls

-- lines of at most as many groups as a node may hold
abbrev pub IsShelf : List Shelf → Type 0
IsShelf ls = AreLines ls × (length ls ≤ MAX_GROUPS)
