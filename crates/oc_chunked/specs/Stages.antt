-- The progress of reading a chunked text.
use Rattle.std.specs.Prelude.{◌≡◌, ℕ, ◌+◌, ◌-◌, ◌≤◌, max, List, Bool, true, false, Option, Some, None}
use Rattle.oc_chunked.specs.declared.fault.ChunkFault.{ChunkFault}
use Rattle.oc_chunked.specs.declared.fault.ChunkFault.TheVariants as faults
use Rattle.oc_chunked.specs.declared.state.State.{State}
use Rattle.oc_chunked.specs.declared.state.State.TheVariants as states
use Rattle.oc_chunked.specs.declared.state.BadText.{BadText}
use Rattle.oc_chunked.specs.declared.state.BadText.TheVariants as refusals

pub data DecoderState : Type 0 where
  -- a size line, of which these bytes came
  in_size : List ℕ → DecoderState
  -- a chunk, of which this number of bytes is left, its CR LF included
  in_chunk : ℕ → DecoderState
  -- the trailer fields, of which these bytes came
  in_trailer : List ℕ → DecoderState
  -- the end of a whole text
  ended : DecoderState
  -- the refusal of bytes
  refused : ChunkFault → DecoderState

-- whether the text is whole
abbrev pub is_ended : DecoderState → Bool
is_ended ended = true
is_ended stage = false

-- the reason why the bytes are refused, if they are
abbrev pub fault_in : DecoderState → Option ChunkFault
fault_in (refused fault) = Some fault
fault_in stage = None

-- whether no byte can be taken any more
abbrev pub is_final : DecoderState → Bool
is_final ended = true
is_final (refused fault) = true
is_final stage = false

-- the number of further bytes that must belong to the text: in a chunk the rest of its content,
-- otherwise one, and none at the end
abbrev pub wanted_at : DecoderState → ℕ
wanted_at (in_chunk left) = max (left - 2) 1
wanted_at ended = 0
wanted_at stage = 1

-- `count` bytes led from stage to stage: all bytes wanted at the old stage came, or the rest is
-- wanted at the new one, which is no refusal
abbrev pub StillWants : DecoderState → ℕ → DecoderState → Type 0
StillWants old count new = fault_in new ≡ None → wanted_at old ≤ count + wanted_at new

abbrev pub fault_of : BadText → ChunkFault
fault_of refusals.Bad = faults.Bad
fault_of refusals.Long = faults.Long

-- the stage at a state, with these bytes of a line
abbrev pub stage_at : State → List ℕ → DecoderState
stage_at states.Size line = in_size line
stage_at (states.Chunk left) line = in_chunk left
stage_at states.Trailer line = in_trailer line
stage_at states.End line = ended
stage_at (states.Refused refusal) line = refused (fault_of refusal)
