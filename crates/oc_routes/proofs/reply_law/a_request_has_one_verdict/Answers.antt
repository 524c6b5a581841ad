use Rattle.oc_routes.proofs.Cuts.{one_verdict, verdict_stays}
use Rattle.oc_routes.proofs.reply_law.a_request_has_one_verdict.Goals as goal

pub returns : goal.returns
returns c = record { one = one_verdict; cut = verdict_stays }
