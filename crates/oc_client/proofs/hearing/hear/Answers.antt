use Rattle.std.proofs.lemmas.Result.{err_from_is_err_and}
use Rattle.oc_client.proofs.Heard.{last_headless, heard_content, last_content, heard_redirection, last_redirection}
use Rattle.oc_client.proofs.hearing.hear.Goals as goal
use Rattle.oc_client.specs.Wishes.{wish_of}
use Rattle.std.proofs.lemmas.Result.{IfErr-weaker, on_ok_weaker}

pub returns-in_err-head-clause-last : goal.returns-in_err-head-clause-last
returns-in_err-head-clause-last g c =
    let p = err_from_is_err_and c.from_residual.result c.from_residual.ensures.1 in
    let refused = c.in_err-head.ensures.refused in
    rw (p.1, p.2) (last_headless g.S.Source.gives g.S.Source.fails g.S.Source.ended g.K.Sink.takes g.K.Sink.fails g.met.K.Sink.takes_nothing (wish_of c.args.wish.now) c.args.state.now refused.0 c.args.source.now c.read_response_head.new.source c.args.sink.now c.in_err-head.field-0.0 refused.1 refused.2)

pub returns-in-200-clause-heard : goal.returns-in-200-clause-heard
returns-in-200-clause-heard g c =
    let read = c.in_ok-head.ensures.read in
    on_ok_weaker c.take_content.result (λ heard. heard_content g.S.Source.gives g.S.Source.ended g.K.Sink.takes g.met.S.Source.gives_then (wish_of c.args.wish.now) c.args.state.now c.take_content.new.state c.in_ok-head.head read.0 c.args.source.now c.read_response_head.new.source c.take_content.new.source c.args.sink.now c.take_content.new.sink read.1 read.2 heard) c.take_content.ensures.brought

pub returns-in-200-clause-last : goal.returns-in-200-clause-last
returns-in-200-clause-last g c =
    let read = c.in_ok-head.ensures.read in
    IfErr-weaker c.take_content.result _ _ (λ end last. last_content g.S.Source.gives g.S.Source.fails g.S.Source.ended g.K.Sink.takes g.K.Sink.fails g.met.S.Source.gives_then g.met.S.Source.gives_fails (wish_of c.args.wish.now) c.args.state.now c.in_ok-head.head read.0 c.args.source.now c.read_response_head.new.source c.take_content.new.source c.args.sink.now c.take_content.new.sink end read.1 read.2 last) c.take_content.ensures.last

pub returns-in-302-clause-heard : goal.returns-in-302-clause-heard
returns-in-302-clause-heard g c =
    let read = c.in_ok-head.ensures.read in
    on_ok_weaker c.redirect.result (λ follows. heard_redirection g.S.Source.gives g.S.Source.ended g.K.Sink.takes g.met.K.Sink.takes_nothing (wish_of c.args.wish.now) c.args.state.now c.redirect.new.state c.in_ok-head.head read.0 c.args.source.now c.read_response_head.new.source c.args.sink.now read.1 read.2 c.in-302.is follows) c.redirect.ensures.follows

pub returns-in-302-clause-last : goal.returns-in-302-clause-last
returns-in-302-clause-last g c =
    let read = c.in_ok-head.ensures.read in
    IfErr-weaker c.redirect.result _ _ (λ end stays. last_redirection g.S.Source.gives g.S.Source.fails g.S.Source.ended g.K.Sink.takes g.K.Sink.fails g.met.K.Sink.takes_nothing (wish_of c.args.wish.now) c.args.state.now c.in_ok-head.head read.0 c.args.source.now c.read_response_head.new.source c.args.sink.now end read.1 read.2 c.in-302.is stays) c.redirect.ensures.stays
