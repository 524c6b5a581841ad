-- The line feed after a chunk.
use Rattle.oc_chunked.proofs.ChunkSteps.{chunk_feed}
use Rattle.oc_chunked.proofs.lines.behind_end.Goals as goal

pub returns-in-1-eq10 : goal.returns-in-1-eq10
returns-in-1-eq10 c = rw (c.in-1-eq10.is-0, c.in-1-eq10.is-1) chunk_feed
