-- A text that is no longer than another.
use Rattle.std.specs.Prelude.{ℕ, ◌≤◌, List, length}
use Rattle.std.specs.Str.Lines.{lines}

-- a text that has no more bytes than another, and no more lines
abbrev pub IsNoLonger : List ℕ → List ℕ → Type 0
IsNoLonger text other = (length text ≤ length other) × (length (lines text) ≤ length (lines other))
