use Rattle.oc_policy.proofs.Digits.{same_spelling}
use Rattle.oc_policy.proofs.law.no_two_digests_have_one_spelling.Goals as goal

pub returns : goal.returns
returns c = same_spelling
