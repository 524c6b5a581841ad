use Rattle.std.proofs.lemmas.Result.{err_from_is_err_and}
use Rattle.oc_client.proofs.PutHeard.{heard_head, no_head}
use Rattle.oc_client.proofs.put_hearing.hear_head.Goals as goal

pub returns-in_err-head-clause-heard : goal.returns-in_err-head-clause-heard
returns-in_err-head-clause-heard g c =
    let p = err_from_is_err_and c.from_residual.result c.from_residual.ensures.1 in
    let refused = c.in_err-head.ensures.refused in
    rw (p.1, p.2) (no_head g.S.Source.gives g.S.Source.fails g.S.Source.ended refused.0 c.args.source.now c.read_response_head.new.source c.in_err-head.field-0.0 refused.1 refused.2)

pub returns-clause-heard : goal.returns-clause-heard
returns-clause-heard g c =
    let read = c.in_ok-head.ensures.read in
    heard_head g.S.Source.gives g.S.Source.fails g.S.Source.ended c.in_ok-head.head read.0 c.args.source.now c.read_response_head.new.source c.answer_to_ask.result read.1 read.2 c.answer_to_ask.ensures
