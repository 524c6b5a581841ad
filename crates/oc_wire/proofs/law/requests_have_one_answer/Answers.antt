use Rattle.oc_wire.proofs.OneAnswer.{one_answer}
use Rattle.oc_wire.proofs.law.requests_have_one_answer.Goals as goal

pub returns : goal.returns
returns c = one_answer c.a_request_has_one_answer.ensures
