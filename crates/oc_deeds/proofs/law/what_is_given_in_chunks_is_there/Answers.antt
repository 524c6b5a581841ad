use Rattle.oc_deeds.proofs.ChunksThere.{here_there, step_there}
use Rattle.oc_deeds.proofs.law.what_is_given_in_chunks_is_there.Goals as goal

pub returns : goal.returns
returns c = record { step = step_there; here = here_there }
