use Rattle.oc_wire.proofs.MessageReads.{one_spelling}
use Rattle.oc_wire.proofs.law.no_two_messages_have_one_spelling.Goals as goal

pub returns : goal.returns
returns c = one_spelling
