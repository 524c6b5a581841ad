use Rattle.std.proofs.lemmas.Result.{err_from_is_err_and}
use Rattle.oc_client.proofs.PutHeard.{heard_whole, no_whole}
use Rattle.oc_client.proofs.put_hearing.hear_whole.Goals as goal

pub returns-in_err-reply-clause-heard : goal.returns-in_err-reply-clause-heard
returns-in_err-reply-clause-heard g c =
    let p = err_from_is_err_and c.from_residual.result c.from_residual.ensures.1 in
    let refused = c.in_err-reply.ensures.refused in
    rw (p.1, p.2) (no_whole g.S.Source.gives g.S.Source.fails g.S.Source.ended refused.0 c.args.source.now c.read_response.new.source c.in_err-reply.field-0.0 refused.1 refused.2)

pub returns-clause-heard : goal.returns-clause-heard
returns-clause-heard g c =
    let read = c.in_ok-reply.ensures.read in
    heard_whole g.S.Source.gives g.S.Source.fails g.S.Source.ended c.in_ok-reply.reply read.0 read.1 c.args.source.now c.read_response.new.source c.answer_to_publish.result read.2 read.3 c.answer_to_publish.ensures
