use Rattle.oc_record.proofs.ListLaws.{one_spelling}
use Rattle.oc_record.proofs.law.no_two_lists_have_one_spelling.Goals as goal

pub returns : goal.returns
returns c = one_spelling
