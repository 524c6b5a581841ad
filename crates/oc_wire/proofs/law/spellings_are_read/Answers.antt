use Rattle.oc_wire.proofs.MessageReads.{is_read, is_its_spelling}
use Rattle.oc_wire.proofs.law.spellings_are_read.Goals as goal

pub returns-clause-spelled : goal.returns-clause-spelled
returns-clause-spelled c = is_its_spelling

pub returns-clause-read : goal.returns-clause-read
returns-clause-read c = is_read
