-- The bytes and the seal of a group, body by body.
use Rattle.std.specs.Prelude.{ℕ, Bool, false, ◌&&◌, ◌==◌, Option, None, Some, List, [], ◌∷◌, if◌then◌else◌}
use Rattle.std.specs.List.{flat_map}
use Rattle.oc_base.specs.Named.{same_name}
use Rattle.oc_base.specs.Groups.{group_or_empty}
use Rattle.oc_content.specs.ContentFile.{groups_in}
use Rattle.oc_content.specs.Entries.{Entry, entry_of}

-- whether an entry belongs to this group
abbrev pub is_entry_for : List ℕ → Option Entry → Bool
is_entry_for g None = false
is_entry_for g (Some e) = same_name g e.group

-- whether a body belongs to this group
abbrev pub is_for : List ℕ → List ℕ → Bool
is_for g body = is_entry_for g (entry_of body)

-- the bytes of an entry of this group; no bytes for another group
abbrev pub entry_piece : List ℕ → Option Entry → List ℕ
entry_piece g None = []
entry_piece g (Some e) = if same_name g e.group then e.bytes else []

-- the bytes for this group in a body
abbrev pub piece_for : List ℕ → List ℕ → List ℕ
piece_for g body = entry_piece g (entry_of body)

-- the bytes for this group in all bodies, in order
abbrev pub pieces_for : List ℕ → List (List ℕ) → List ℕ
pieces_for g bodies = flat_map (piece_for g) bodies

-- whether a body begins with the byte 0
abbrev pub begins_with_zero : List ℕ → Bool
begins_with_zero [] = false
begins_with_zero (b ∷ rest) = b == 0

-- whether a body belongs to this group and begins with the byte 0
abbrev pub seals_for : List ℕ → List ℕ → Bool
seals_for g body = is_for g body && begins_with_zero body

-- whether the group of this name is sealed in good frames
abbrev pub sealed_in : List ℕ → List (List ℕ) → Bool
sealed_in g bodies = (group_or_empty g (groups_in bodies)).sealed
