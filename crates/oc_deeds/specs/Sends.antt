-- The messages that a turn dials.
use Rattle.std.specs.Prelude.{ℕ, zero, suc, Option, Some, None, [], ◌∷◌, slice_get}
use Rattle.oc_model.specs.declared.message.Message.{Message}
use Rattle.oc_deeds.specs.Choices.{free_number, next_to_dial}
use Rattle.oc_deeds.specs.Deeds.{Dials}
use Rattle.oc_deeds.specs.Parts.{Part, nothing, ◌>>◌}

-- the part that dials this message of the outbox, if it is there
abbrev pub dials_it : ℕ → Option Message → Part
dials_it place None s a = []
dials_it place (Some m) s a = Dials place m (free_number a.dials) ∷ []

-- the message at this place is dialled
abbrev pub dials_at : Option ℕ → Part
dials_at None s a = []
dials_at (Some place) s a = dials_it place (slice_get a.outbox place) s a

-- the oldest message that may be dialled
abbrev pub dials_next : Part
dials_next s a = dials_at (next_to_dial a.outbox a.dials) s a

-- the part that dials this many messages, the oldest first of those that may be dialled, or all that may
unfoldable pub sends : ℕ → Part
sends zero = nothing
sends (suc n) = dials_next >> sends n

-- the message at a place, if it is there, is dialled under this number
abbrev pub dialled : ℕ → ℕ → Option Message → Part
dialled place dial None s a = []
dialled place dial (Some m) s a = Dials place m dial ∷ []

abbrev pub dials_as : ℕ → ℕ → Part
dials_as place dial s a = dialled place dial (slice_get a.outbox place) s a
