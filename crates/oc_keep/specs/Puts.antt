-- The bytes of an input that a step keeps, as the content log puts them.
use Rattle.std.specs.Prelude.{◌≡◌, ℕ, ◌+◌, ◌≤◌, Bool, true, not, ◌||◌, nat_lt, Option, Some, None, is_some, List, length}
use Rattle.oc_base.specs.declared.limits.TheConstants.{MAX_GROUP_BYTES, MAX_PUBLISH_BYTES}
use Rattle.oc_base.specs.declared.shelf.Shelf.{Shelf}
use Rattle.oc_base.specs.Names.{IsGroupName}
use Rattle.oc_base.specs.Shelves.{line_of}
use Rattle.oc_content.specs.Entries.{Entry}
use Rattle.oc_content.specs.Putting.{group_state_in, fault_of, put_entry}
use Rattle.oc_model.specs.declared.want.Want.{Want}
use Rattle.oc_model.specs.Step.{Piece}

-- the entry of a piece that begins at this place of its group, and may close the group
abbrev pub entry_for : List Shelf → Piece → ℕ → Bool → Entry
entry_for shelf p at closes = put_entry (group_state_in shelf p.group) p.group at p.bytes closes

-- whether an entry adds anything: its group is new, or it has bytes or a seal
abbrev pub adds_to : List Shelf → Entry → Bool
adds_to shelf e = not (is_some (line_of e.group shelf)) || nat_lt 0 (length e.bytes) || e.seals

-- a piece can be put: it is not refused, it adds something, and it closes its group exactly where it should
pub record CanPut (shelf : List Shelf) (p : Piece) (at : ℕ) (closes : Bool) : Type 0 where
  pub named : IsGroupName p.group
  pub few : length p.bytes ≤ MAX_PUBLISH_BYTES
  pub short : (group_state_in shelf p.group).held ≤ MAX_GROUP_BYTES
  pub free : fault_of (group_state_in shelf p.group) at (length p.bytes) ≡ None
  pub adds : adds_to shelf (entry_for shelf p at closes) ≡ true
  pub seals : (entry_for shelf p at closes).seals ≡ closes

-- the same for the piece that a step keeps, if any
abbrev pub CanKeep : List Shelf → Piece → Option ℕ → Bool → Type 0
CanKeep shelf p None closes = Unit {0}
CanKeep shelf p (Some at) closes = CanPut shelf p at closes

-- wanted bytes are held
pub record IsHeldWant (shelf : List Shelf) (w : Want) : Type 0 where
  pub line : Shelf
  pub there : line_of w.group shelf ≡ Some line
  pub within : w.start + w.count ≤ line.held

-- the same for the bytes that a step wants, if any
abbrev pub CanWant : List Shelf → Option Want → Type 0
CanWant shelf None = Unit {0}
CanWant shelf (Some w) = IsHeldWant shelf w
