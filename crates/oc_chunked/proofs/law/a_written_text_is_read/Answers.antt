use Rattle.oc_chunked.proofs.Written.{written_taken, written_fine}
use Rattle.oc_chunked.proofs.law.a_written_text_is_read.Goals as goal

pub returns-clause-whole : goal.returns-clause-whole
returns-clause-whole c bytes = written_taken bytes

pub returns-clause-fine : goal.returns-clause-fine
returns-clause-fine c bytes front rest content s text taken = written_fine bytes front rest content s text taken
