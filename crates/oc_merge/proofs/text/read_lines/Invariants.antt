use Rattle.std.proofs.Common.{◌≡◌, length}
use Rattle.std.specs.Str.Lines.{lines}
use Rattle.oc_merge.specs.Reader.{reading_of}
use Rattle.oc_merge.specs.Reading.{is_ended, nothing_read, read_lines}
use Rattle.oc_merge.proofs.text.read_lines.Given as goal

-- the rest of the text gives the same as the whole
abbrev pub invariant-lines : goal.invariant-lines
invariant-lines l = read_lines l.number (is_ended l.bytes) (reading_of l.reader) (lines l.rest) ≡ read_lines 1 (is_ended l.bytes) nothing_read (lines l.bytes)

abbrev pub decreases-lines : goal.decreases-lines
decreases-lines l = length l.rest
