use Rattle.oc_deeds.proofs.ChunksThere.{part_given}
use Rattle.oc_deeds.proofs.law.a_part_is_what_is_given.Goals as goal

pub returns : goal.returns
returns c = part_given
