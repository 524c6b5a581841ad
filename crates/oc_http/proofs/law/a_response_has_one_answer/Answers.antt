use Rattle.oc_http.proofs.OneReply.{one_reply}
use Rattle.oc_http.proofs.law.a_response_has_one_answer.Goals as goal

pub returns : goal.returns
returns c = one_reply
