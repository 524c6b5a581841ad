use Rattle.oc_content.proofs.Spelling.{entry_of-written}
use Rattle.oc_content.proofs.law.bodies_say_their_entry.Goals as goal

pub returns : goal.returns
returns c = entry_of-written
