use Rattle.oc_client.proofs.Added.{added}
use Rattle.oc_client.proofs.law.the_input_is_added_once.Goals as goal

pub returns : goal.returns
returns c = added
