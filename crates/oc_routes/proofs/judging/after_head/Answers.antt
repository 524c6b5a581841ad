use Rattle.std.proofs.Common.{◌+◌}
use Rattle.oc_routes.proofs.Settling.{ask_lawful}
use Rattle.oc_routes.proofs.judging.after_head.Goals as goal

pub returns-in-Ok-input_of-clause-lawful : goal.returns-in-Ok-input_of-clause-lawful
returns-in-Ok-input_of-clause-lawful c =
    ask_lawful c.args.terms.now.nodes c.args.terms.now.me (c.saturating_sub-front.result + c.args.head.length) c.in-Ok.said c.line_of.result c.selectors_for.result
    c.in_ok-body.body.items c.in-Ok-input_of.input c.input_for.result c.is_last-last.result
    c.in-Ok.ensures.lawful c.in-Ok.ensures.whole c.in-Ok-input_of.ensures.said c.in-Ok-input_of.ensures.lawful c.input_for.ensures
