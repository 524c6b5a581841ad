use Rattle.std.proofs.Common.{◌≡◌, ◌+◌, ◌≤◌, take}
use Rattle.oc_config.proofs.Lines.{ends_in}
use Rattle.oc_config.proofs.reading.line_at.Given as goal

-- the line is that of the bytes so far
abbrev pub invariant-loop-byte : goal.invariant-loop-byte
invariant-loop-byte l = (l.line ≡ ends_in (take l.byte-index l.byte-items) + 1) × (l.line ≤ l.byte-index + 1)
