-- The meaning of the frames of a content file.
use Rattle.std.specs.Prelude.{◌≡◌, ◌≢◌, ℕ, suc, ◌+◌, ◌<◌, Bool, ◌&&◌, ◌||◌, not, ◌==◌, nat_lt, nat_le, if◌then◌else◌, Option, Some, None, IsSome, unwrap_or, option_map, List, [], length, take, fold, ◌++◌}
use Rattle.oc_base.specs.declared.shelf.Shelf.{Shelf}
use Rattle.oc_journal.specs.JournalFile.{frames_of, IsNoJournal}
use Rattle.oc_base.specs.Stops.{is_kept_new}
use Rattle.oc_base.specs.declared.group.Group.{Group}
use Rattle.oc_base.specs.Groups.{group_of, group_or_empty, with_group, shelf, bytes_of}
use Rattle.oc_base.specs.Shelves.{line_of}
use Rattle.oc_content.specs.Entries.{Entry, entry_of}
use Rattle.oc_base.specs.declared.limits.TheConstants.{MAX_GROUPS, MAX_GROUP_BYTES}

-- Whether an entry with this start, `count` bytes and perhaps a seal may be the next. It begins where its group ends, which is not
-- sealed and does not grow past its limit. A new group is not one too many, and the entry adds something to a group that is there.
abbrev pub fits : Option Shelf → ℕ → ℕ → ℕ → Bool → Bool
fits None groups start count seals = (start == 0) && nat_lt groups MAX_GROUPS && nat_le count MAX_GROUP_BYTES
fits (Some line) groups start count seals =
    (start == line.held) && not line.sealed && nat_le (line.held + count) MAX_GROUP_BYTES && (seals || nat_lt 0 count)

-- a group after an entry: with its bytes at the end, and its seal
abbrev pub grown : Entry → Group → Group
grown e k = record { name = e.group; bytes = k.bytes ++ e.bytes; sealed = k.sealed || e.seals }

-- the groups after an entry
abbrev pub with_entry : Entry → List Group → List Group
with_entry e ks = with_group (grown e (group_or_empty e.group ks)) ks

-- the groups after an entry, if it is allowed there
abbrev pub taken : List Group → Option Entry → Option (List Group)
taken ks None = None
taken ks (Some e) = if fits (line_of e.group (shelf ks)) (length ks) e.start (length e.bytes) e.seals then Some (with_entry e ks) else None

-- the groups after one more frame; none if this frame or an earlier one is bad
abbrev pub more : Option (List Group) → List ℕ → Option (List Group)
more None body = None
more (Some ks) body = taken ks (entry_of body)

-- the groups in frames of these bodies, ascending by name; none if a frame is bad
abbrev pub content_of : List (List ℕ) → Option (List Group)
content_of bodies = fold more (Some []) bodies

-- i is the index of the first bad frame
pub record IsFirstBad (bodies : List (List ℕ)) (i : ℕ) : Type 0 where
  pub within : i < length bodies
  pub before : IsSome (content_of (take i bodies))
  pub bad : content_of (take (suc i) bodies) ≡ None

-- a content file whose first bad frame has this index
abbrev pub IsBadAt : List ℕ → ℕ → Type 0
IsBadAt file i = (¬ IsNoJournal file) × IsFirstBad (frames_of file) i

-- the groups in frames that are all good
abbrev pub groups_in : List (List ℕ) → List Group
groups_in bodies = unwrap_or (content_of bodies) []

-- the bytes of the group of this name in good frames
abbrev pub bytes_in : List ℕ → List (List ℕ) → List ℕ
bytes_in g bodies = bytes_of g (groups_in bodies)

-- the frames are good, and these are the lines of their groups
abbrev pub IsShelved : List (List ℕ) → List Shelf → Type 0
IsShelved bodies lines = option_map shelf (content_of bodies) ≡ Some lines

-- all groups with other names are unchanged
abbrev pub IsSameElsewhere : List ℕ → List Group → List Group → Type 0
IsSameElsewhere g old new = (name : List ℕ) → name ≢ g → group_of name new ≡ group_of name old

-- the groups after a stop in the calls that append an entry
abbrev pub groups_after : ℕ → ℕ → List Group → Entry → List Group
groups_after calls image groups e = if is_kept_new calls image then with_entry e groups else groups
