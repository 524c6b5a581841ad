use Rattle.oc_chunked.proofs.Whole.{chunked_whole}
use Rattle.oc_chunked.proofs.law.a_chunked_text_ends.Goals as goal

pub returns : goal.returns
returns c bytes content given s text taken = chunked_whole bytes content given s text taken
