-- The difference between two shelves.
use Rattle.std.specs.Prelude.{ℕ, ◌+◌, ◌/◌, ◌%◌, Bool, true, false, not, ◌&&◌, ◌||◌, ◌==◌, nat_lt, nat_le, if◌then◌else◌, Option, Some, None, is_some, List, [], ◌∷◌, ◌++◌, length, take, drop}
use Rattle.std.specs.Ordering.{nat_cmp, match_ordering}
use Rattle.std.specs.Cmp.Lexicographic.{slice_cmp}
use Rattle.oc_base.specs.declared.shelf.Shelf.{Shelf}
use Rattle.oc_model.specs.declared.answer.Answer.{Answer}
use Rattle.oc_model.specs.declared.answer.Answer.TheVariants as words
use Rattle.oc_base.specs.Shelves.{line_of, held_in_all}
use Rattle.oc_base.specs.declared.limits.TheConstants.{MAX_GROUPS, MAX_GROUP_BYTES}

abbrev pub line_or_none : List ℕ → Option Shelf → Shelf
line_or_none g None = record { group = g; held = 0; sealed = false }
line_or_none g (Some l) = l

-- the line of a group; a group that is absent has 0 bytes
abbrev pub line_at : List ℕ → List Shelf → Shelf
line_at g ls = line_or_none g (line_of g ls)

-- the shelf with this line in place of the line of the same group
abbrev pub with_line : Shelf → List Shelf → List Shelf
with_line l [] = l ∷ []
with_line l (k ∷ ks) = match_ordering (slice_cmp nat_cmp l.group k.group) (l ∷ k ∷ ks) (l ∷ ks) (k ∷ with_line l ks)

-- the limit that a group of this name would exceed at this length in bytes, if any
abbrev pub limit : List Shelf → List ℕ → ℕ → Option Answer
limit ls g end =
    if not (is_some (line_of g ls)) && nat_le MAX_GROUPS (length ls) then Some words.Groups
    else if nat_lt MAX_GROUP_BYTES end then Some words.TooLong
    else None

-- whether the other node has less of a group: no such group, fewer bytes, or as many without the seal that is here
abbrev pub is_behind : Option Shelf → Shelf → Bool
is_behind None l = true
is_behind (Some k) l = nat_lt k.held l.held || (k.held == l.held && l.sealed && not k.sealed)

-- the first group of which the other has less
abbrev pub first_behind : List Shelf → List Shelf → Option Shelf
first_behind have [] = None
first_behind have (l ∷ ls) = if is_behind (line_of l.group have) l then Some l else first_behind have ls

-- the index of the line whose turn it is: each chunk of this size that the other holds moves the turn on by one
abbrev pub turn : ℕ → List Shelf → List Shelf → ℕ
turn chunk have ls = held_in_all have / chunk % length ls

-- the lines in cyclic order from this index on
abbrev pub from_place : ℕ → List Shelf → List Shelf
from_place i ls = drop i ls ++ take i ls

-- the first group of which the other has less, from the group on whose turn it is
abbrev pub next_behind : ℕ → List Shelf → List Shelf → Option Shelf
next_behind chunk have ls = first_behind have (from_place (turn chunk have ls) ls)
