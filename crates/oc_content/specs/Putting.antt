-- The refusals and the effect of bytes put to a group from an offset on.
use Rattle.std.specs.Prelude.{ℕ, ◌+◌, ◌-◌, Bool, ◌&&◌, not, nat_lt, nat_le, if◌then◌else◌, Option, Some, None, List, length, drop}
use Rattle.oc_base.specs.declared.shelf.Shelf.{Shelf}
use Rattle.oc_content.specs.declared.errors.PutError.{PutError}
use Rattle.oc_content.specs.declared.errors.PutError.TheVariants.{Gap, Sealed, TooManyGroups, TooLong}
use Rattle.oc_content.specs.declared.group_state.GroupState.{GroupState}
pub use Rattle.oc_content.specs.GroupStates.{group_state}
use Rattle.oc_base.specs.Shelves.{line_of}
use Rattle.oc_base.specs.declared.limits.TheConstants.{MAX_GROUP_BYTES}
use Rattle.oc_content.specs.Entries.{Entry}

-- the state of the group of this name, by these lines
abbrev pub group_state_in : List Shelf → List ℕ → GroupState
group_state_in shelves group = group_state (line_of group shelves) (length shelves)

-- the first reason to refuse `count` bytes from an offset on
abbrev pub fault_of : GroupState → ℕ → ℕ → Option PutError
fault_of s start count =
    if nat_lt s.held start then Some (Gap s.held)
    else if s.sealed && nat_lt s.held (start + count) then Some Sealed
    else if s.one_too_many then Some TooManyGroups
    else if nat_lt MAX_GROUP_BYTES (start + count) then Some TooLong
    else None

-- the bytes past those that the group has; and the seal if they are the last, reach the group's end, and the group is not sealed
abbrev pub put_entry : GroupState → List ℕ → ℕ → List ℕ → Bool → Entry
put_entry s group start bytes last = record {
  group = group;
  start = s.held;
  bytes = drop (s.held - start) bytes;
  seals = last && not s.sealed && nat_le s.held (start + length bytes);
}
