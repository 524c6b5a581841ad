-- The input of a publishing: the part that is skipped, the pieces, and the breaking off.
use Rattle.std.specs.Prelude.{◌≡◌, ℕ, ◌+◌, ◌<◌, ◌≤◌, Bool, true, Result, Ok, Err, List, [], length}
use Rattle.oc_client.specs.Places.{least_piece}
use Rattle.oc_client.specs.declared.input.TheConstants.{PUT_PIECE_BYTES}
use Rattle.oc_client.specs.declared.put_end.PutEnd.{PutEnd}
use Rattle.oc_client.specs.declared.put_end.PutEnd.TheVariants.{Short, Input, Memory}

-- `count` bytes came; or fewer, and the input ended or a call failed
abbrev pub Passes : {S : Type 0} → (S → List ℕ → S → Type 0) → (S → List ℕ → S → Type 0) → (S → Type 0) → ℕ → S → S → Result (Unit {0}) PutEnd → Type 0
Passes gives fails ended count old new (Ok done) = (bytes : List ℕ) × gives old bytes new × (length bytes ≡ count)
Passes gives fails ended count old new (Err Short) = (bytes : List ℕ) × gives old bytes new × (length bytes < count) × ended new
Passes gives fails ended count old new (Err Input) = (bytes : List ℕ) × fails old bytes new × (length bytes < count)
Passes gives fails ended count old new (Err end) = ⊥

-- the next piece of an input: in live mode the bytes of one read, otherwise a full piece or the
-- rest of the input
pub record IsPiece {S : Type 0} (gives : S → List ℕ → S → Type 0) (ended : S → Type 0) (calls : S → ℕ) (live : Bool) (old new : S) (piece : List ℕ) : Type 0 where
  pub came : gives old piece new
  pub within : length piece ≤ PUT_PIECE_BYTES
  pub end : length piece < least_piece live → ended new
  pub once : live ≡ true → calls new ≤ calls old + 1

-- the reason why there is no next piece
abbrev pub IsPieceCut : {S : Type 0} → (S → List ℕ → S → Type 0) → (S → List ℕ → S → Type 0) → S → S → PutEnd → Type 0
IsPieceCut gives fails old new Input = (part : List ℕ) × fails old part new
IsPieceCut gives fails old new Memory = gives old [] new
IsPieceCut gives fails old new end = ⊥
