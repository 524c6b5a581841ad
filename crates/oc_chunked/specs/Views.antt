-- The view of a reader of chunked texts.
use Rattle.std.specs.Prelude.{◌≡◌, ℕ, ◌<◌, ◌==◌, nat_le, nat_lt, if◌then◌else◌, Option, Some, None, List, [], ◌∷◌, ◌++◌, length, ◌+◌, ⊤}
use Rattle.oc_base.specs.declared.limits.TheConstants.{MAX_FIELDS}
use Rattle.oc_chunked.specs.declared.limits.TheConstants.{MAX_CHUNK_SIZE, MAX_TRAILER_BYTES}
use Rattle.oc_chunked.specs.declared.state.State.{State}
use Rattle.oc_chunked.specs.declared.state.State.TheVariants.{Size, Chunk, Trailer, End, Refused}
use Rattle.oc_chunked.specs.declared.state.BadText.TheVariants.{Bad, Long}
use Rattle.oc_chunked.specs.declared.decoder.Decoder.{Decoder}
use Rattle.oc_chunked.specs.Stages.{DecoderState, stage_at}
use Rattle.oc_chunked.specs.Taken.{Takes}

-- the stage of the reader
abbrev pub stage_of : Decoder → DecoderState
stage_of p = stage_at p.state p.line.items

-- the bytes led to the new stage, and their content was appended
pub record Advances (old new : Decoder) (bytes before after : List ℕ) : Type 0 where
  pub content : List ℕ
  pub given : after ≡ before ++ content
  pub takes : Takes (stage_of old) bytes content (stage_of new)

-- one byte led from the stage to a state, or stayed within the line
abbrev pub GoesOn : (List ℕ → DecoderState) → List ℕ → ℕ → Option State → Type 0
GoesOn at line byte None = Takes (at line) (byte ∷ []) [] (at (line ++ byte ∷ [])) × (length line + 1 < MAX_TRAILER_BYTES)
GoesOn at line byte (Some state) = Takes (at line) (byte ∷ []) [] (stage_at state [])

-- the bytes end within a line
abbrev pub IsLine : State → Type 0
IsLine Size = ⊤
IsLine Trailer = ⊤
IsLine state = ⊥

-- the state after a size line that says this size
abbrev pub behind_size_line : ℕ → State
behind_size_line size =
    if size == 0 then Trailer
    else if nat_le size MAX_CHUNK_SIZE then Chunk (size + 2)
    else Refused Bad

-- the state after this number of trailer fields
abbrev pub behind_fields : ℕ → State
behind_fields count = if nat_le count MAX_FIELDS then End else Refused Bad

-- the state within lines of `count` bytes that may have fewer than the most
abbrev pub state_within : ℕ → ℕ → Option State
state_within count most = if nat_lt count most then None else Some (Refused Long)
