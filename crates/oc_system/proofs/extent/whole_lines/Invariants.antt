use Rattle.std.proofs.Common.{◌≡◌, ℕ, List, ◌++◌, length}
use Rattle.oc_http.specs.Lines.{HasNoLineEnd}
use Rattle.oc_system.proofs.extent.whole_lines.Given as goal

-- the part that was left out is at the end, and ends no line
abbrev pub invariant-lines : goal.invariant-lines
invariant-lines l = (rest : List ℕ) × (l.fn.bytes ≡ l.lines ++ rest) × HasNoLineEnd rest

abbrev pub decreases-lines : goal.decreases-lines
decreases-lines l = length l.lines
