use Rattle.std.proofs.Common.{◌≡◌, true, false, refl, subst}
use Rattle.std.proofs.lemmas.Result.{err_from_is_err_and}
use Rattle.oc_client.specs.Passing.{IsPassed, StopsPassing}
use Rattle.oc_client.specs.Wishes.{wish_of}
use Rattle.oc_client.proofs.Heard.{untaken, brought, stopped_content}
use Rattle.oc_client.proofs.hearing.take_content.Goals as goal

pub returns-then-not-takes-clause-last : goal.returns-then-not-takes-clause-last
returns-then-not-takes-clause-last g c =
    untaken g.S.Source.gives g.S.Source.fails g.S.Source.ended g.K.Sink.takes g.K.Sink.fails g.met.S.Source.gives_nothing g.met.K.Sink.takes_nothing (wish_of c.args.wish.now) c.args.head.now c.args.source.now c.args.sink.now c.requires (λ taken. let wrong : false ≡ true = c.if-not-takes.ensures.1 taken in cc)

pub returns-in_err-count-clause-last : goal.returns-in_err-count-clause-last
returns-in_err-count-clause-last g c =
    let p = err_from_is_err_and c.from_residual.result c.from_residual.ensures.1 in
    let of_head = subst (λ framing. StopsPassing g.S.Source.gives g.S.Source.fails g.S.Source.ended g.K.Sink.takes g.K.Sink.fails framing c.args.source.now c.pass_content.new.source c.args.sink.now c.pass_content.new.sink c.in_err-count.field-0.0) c.framing_of.ensures c.in_err-count.ensures.stopped in
    rw (p.1, p.2) (stopped_content g.S.Source.gives g.S.Source.fails g.S.Source.ended g.K.Sink.takes g.K.Sink.fails (wish_of c.args.wish.now) c.args.head.now c.args.source.now c.pass_content.new.source c.args.sink.now c.pass_content.new.sink c.in_err-count.field-0.0 (record { status = c.requires; taken = c.if-not-takes.ensures.0 refl }) of_head)

pub returns-clause-brought : goal.returns-clause-brought
returns-clause-brought g c =
    let of_head = subst (λ framing. IsPassed g.S.Source.gives g.S.Source.ended g.K.Sink.takes framing c.args.source.now c.pass_content.new.source c.args.sink.now c.pass_content.new.sink c.in_ok-count.count) c.framing_of.ensures c.in_ok-count.ensures.passed in
    brought g.S.Source.gives g.S.Source.ended g.K.Sink.takes (wish_of c.args.wish.now) c.args.state.now c.go_past_content.new.state c.args.head.now c.args.source.now c.pass_content.new.source c.args.sink.now c.pass_content.new.sink c.in_ok-count.count (record { status = c.requires; taken = c.if-not-takes.ensures.0 refl }) c.go_past_content.ensures of_head
