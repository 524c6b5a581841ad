-- The number of bytes that a call on a socket moved.
use Rattle.std.specs.Prelude.{ℕ, ◌≤◌, ⊤}
use Rattle.oc_system.specs.declared.socket.Moved.{Moved}
use Rattle.oc_system.specs.declared.socket.Moved.TheVariants as moved

-- a move of at most this number of bytes
abbrev pub MovesAtMost : ℕ → Moved → Type 0
MovesAtMost most (moved.Bytes count) = count ≤ most
MovesAtMost most moved.Nothing = ⊤
MovesAtMost most moved.End = ⊤
MovesAtMost most moved.Failed = ⊤
