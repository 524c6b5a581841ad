use Rattle.oc_http.specs.Responses.{read_reply_head}
use Rattle.oc_http.proofs.Forms.{response_form}
use Rattle.oc_http.proofs.OneAnswer.{one_answer}
use Rattle.oc_http.proofs.law.a_response_head_has_one_answer.Goals as goal

pub returns : goal.returns
returns c = λ left r s first second x y. one_answer read_reply_head response_form left r s first second x y
