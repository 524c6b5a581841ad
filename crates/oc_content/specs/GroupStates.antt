-- The state of a group before bytes are put to it.
use Rattle.std.specs.Prelude.{ℕ, false, nat_le, Option, None, Some}
use Rattle.oc_base.specs.declared.limits.TheConstants.{MAX_GROUPS}
use Rattle.oc_base.specs.declared.shelf.Shelf.{Shelf}
use Rattle.oc_content.specs.declared.group_state.GroupState.{GroupState}

-- the state of the group with this line, or of an absent one among `groups` groups, which is empty and perhaps one too many
abbrev pub group_state : Option Shelf → ℕ → GroupState
group_state None groups = record { held = 0; sealed = false; one_too_many = nat_le MAX_GROUPS groups }
group_state (Some line) groups = record { held = line.held; sealed = line.sealed; one_too_many = false }
