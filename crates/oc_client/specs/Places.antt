-- The place of an input in its group, and its pieces.
use Rattle.std.specs.Prelude.{ℕ, Bool, true, false}
use Rattle.oc_client.specs.declared.input.TheConstants.{PUT_PIECE_BYTES}
use Rattle.oc_client.specs.declared.publication.WriteMode.{WriteMode}
use Rattle.oc_client.specs.declared.publication.WriteMode.TheVariants.{New, Append, Resume}

-- an input of no bytes is sent, which makes the group
abbrev pub sends_empty : WriteMode → Bool
sends_empty New = true
sends_empty Append = true
sends_empty Resume = false

-- the least length of a piece that is not the last: in live mode one byte or more, otherwise a full
-- piece
abbrev pub least_piece : Bool → ℕ
least_piece true = 1
least_piece false = PUT_PIECE_BYTES

-- the number of bytes of the input that the group has before any is sent, given the length that was
-- found
abbrev pub passed_over : WriteMode → ℕ → ℕ
passed_over New found = 0
passed_over Append found = 0
passed_over Resume found = found
