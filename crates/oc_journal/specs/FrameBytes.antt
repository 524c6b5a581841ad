-- A frame made ready for the device.
use Rattle.std.specs.Prelude.{◌≡◌, ℕ, ◌-◌, ◌≤◌, List, length, take, drop}
use Rattle.oc_base.specs.declared.limits.TheConstants.{MAX_FRAME_BYTES}
use Rattle.oc_journal.specs.JournalFile.{encoded}

-- the body, between the length and the next gate
abbrev pub body_of : List ℕ → List ℕ
body_of bytes = take (length bytes - 5) (drop 4 bytes)

-- a length, a body within the limit, and a closed gate
pub record IsFrame (bytes : List ℕ) : Type 0 where
  pub encoding : bytes ≡ encoded (body_of bytes)
  pub fits : length (body_of bytes) ≤ MAX_FRAME_BYTES
