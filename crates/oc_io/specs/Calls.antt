-- The successful calls on a disk in memory, newest first, and the effect of a crash after them.
use Rattle.std.specs.Prelude.{◌≡◌, ◌⊎◌, ℕ, zero, suc, ◌+◌, ◌≤◌, List, [], ◌∷◌, ◌++◌, length, take, drop}

-- a successful call: a write with its offset, the bytes that it replaced and the number of bytes written; or a sync
pub data Call : Type 0 where
  Wrote : ℕ → List ℕ → ℕ → Call
  Synced : Call

-- the bytes before the call, from the bytes after it
abbrev pub undone : Call → List ℕ → List ℕ
undone (Wrote at over n) bytes = take at bytes ++ over ++ drop (at + n) bytes
undone Synced bytes = bytes

-- the bytes with n bytes from this offset on replaced by this byte
abbrev pub blotted : ℕ → ℕ → ℕ → List ℕ → List ℕ
blotted at n byte [] = []
blotted (suc at) n byte (b ∷ bytes) = b ∷ blotted at n byte bytes
blotted zero (suc n) byte (b ∷ bytes) = byte ∷ blotted zero n byte bytes
blotted zero zero byte (b ∷ bytes) = b ∷ bytes

-- the bytes after a crash, in which each byte that was written since the last sync is this byte
abbrev pub crashed : ℕ → List Call → List ℕ → List ℕ
crashed byte [] bytes = bytes
crashed byte (Synced ∷ past) bytes = bytes
crashed byte (Wrote at over n ∷ past) bytes = crashed byte past (blotted at n byte bytes)

-- a write at this offset left these bytes: its n bytes are within them, and it replaced n bytes, or fewer where it went past the old end
pub record IsWritten (at : ℕ) (over : List ℕ) (n : ℕ) (bytes : List ℕ) : Type 0 where
  pub within : at + n ≤ length bytes
  pub fits : length over ≤ n
  pub end : (length over ≡ n) ⊎ (at + n ≡ length bytes)

-- these bytes are those that the calls left
abbrev pub Fits : List ℕ → List Call → Type 0
Fits bytes [] = Unit {0}
Fits bytes (Synced ∷ past) = Fits bytes past
Fits bytes (Wrote at over n ∷ past) =
    IsWritten at over n bytes × Fits (undone (Wrote at over n) bytes) past
