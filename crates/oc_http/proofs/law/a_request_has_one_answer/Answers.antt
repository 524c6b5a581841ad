use Rattle.oc_http.specs.Requests.{read_request}
use Rattle.oc_http.proofs.Forms.{request_form}
use Rattle.oc_http.proofs.OneAnswer.{one_answer}
use Rattle.oc_http.proofs.law.a_request_has_one_answer.Goals as goal

pub returns : goal.returns
returns c = λ left r s first second x y. one_answer read_request request_form left r s first second x y
