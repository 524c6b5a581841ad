use Rattle.std.proofs.Common.{◌≡◌, ◌++◌, length}
use Rattle.oc_chunked.specs.Texts.{chunks_written}
use Rattle.oc_chunked.proofs.writing.chunk_text.Given as goal

-- the text written and the text for the rest together are the text for all
abbrev pub invariant-chunks : goal.invariant-chunks
invariant-chunks l = l.text.items ++ chunks_written (length l.rest) l.rest ≡ chunks_written (length l.bytes) l.bytes

abbrev pub decreases-chunks : goal.decreases-chunks
decreases-chunks l = length l.rest
