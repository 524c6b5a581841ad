use Rattle.oc_laws_folders.proofs.Read.{reads}
use Rattle.oc_laws_folders.proofs.law.groups_are_read.Goals as goal

pub returns : goal.returns
returns c = reads
