use Rattle.std.proofs.Common.{◌∙◌, ℕ, List, subst}
use Rattle.std.proofs.lemmas.Result.{IfErr-weaker, on_ok_weaker, err_from_is_err_and}
use Rattle.oc_client.proofs.Exchanged.{exchanged, last_exchanged, exchange_starved, exchange_cut}
use Rattle.oc_client.proofs.exchange.exchange.Goals as goal
use Rattle.oc_client.specs.Turns.{Speaks, asking, IsCut}
use Rattle.oc_client.specs.Wishes.{wish_of, dialled_at}
use Rattle.oc_link.specs.Calls.{Told}

pub returns-in_err-request-clause-ends : goal.returns-in_err-request-clause-ends
returns-in_err-request-clause-ends g c =
    let p = err_from_is_err_and c.from_residual.result c.from_residual.ensures.1 in
    rw (p.1, p.2) (exchange_starved g.K.Sink.takes g.K.Sink.fails g.met.K.Sink.takes_nothing (wish_of c.args.wish.now) c.args.state.now (g.L.Dialler.story c.args.link.now) c.args.sink.now)

pub returns-in_err-ask-clause-ends : goal.returns-in_err-ask-clause-ends
returns-in_err-ask-clause-ends g c =
    let p = err_from_is_err_and c.from_residual-in_err-ask.result c.from_residual-in_err-ask.ensures.1 in
    let cut = c.in_err-ask.ensures.cut in
    let at = dialled_at c.args.state.now.kept c.args.state.now in
    let text = c.deref.ensures.value ∙ c.in_ok-request.ensures in
    rw (p.1, p.2, cut.0) (exchange_cut g.K.Sink.takes g.K.Sink.fails g.met.K.Sink.takes_nothing (wish_of c.args.wish.now) c.args.state.now cut.1.0 (g.L.Dialler.story c.args.link.now) (g.L.Dialler.story c.ask.new.link) c.args.sink.now c.requires
    (subst (λ (r : List ℕ). IsCut at r cut.1.0) text cut.1.1) cut.1.2)

pub returns-clause-goes_on : goal.returns-clause-goes_on
returns-clause-goes_on g c =
    let at = dialled_at c.args.state.now.kept c.args.state.now in
    let text = c.deref.ensures.value ∙ c.in_ok-request.ensures in
    let asked = subst (λ (r : List ℕ). Told (Speaks (asking at r)) (g.L.Dialler.story c.args.link.now) (g.L.Dialler.story c.ask.new.link)) text c.in_ok-ask.ensures.asked in
    on_ok_weaker c.hear_outgoing.result (λ h. exchanged g.L.Dialler.story g.K.Sink.takes (wish_of c.args.wish.now) c.args.state.now c.hear_outgoing.new.state (g.L.Dialler.story c.args.link.now) c.ask.new.link c.hear_outgoing.new.link c.args.sink.now c.hear_outgoing.new.sink asked h) c.hear_outgoing.ensures.heard

pub returns-clause-ends : goal.returns-clause-ends
returns-clause-ends g c =
    let at = dialled_at c.args.state.now.kept c.args.state.now in
    let text = c.deref.ensures.value ∙ c.in_ok-request.ensures in
    let asked = subst (λ (r : List ℕ). Told (Speaks (asking at r)) (g.L.Dialler.story c.args.link.now) (g.L.Dialler.story c.ask.new.link)) text c.in_ok-ask.ensures.asked in
    IfErr-weaker c.hear_outgoing.result _ _ (λ end h. last_exchanged g.L.Dialler.story g.K.Sink.takes g.K.Sink.fails (wish_of c.args.wish.now) c.args.state.now (g.L.Dialler.story c.args.link.now) c.ask.new.link c.hear_outgoing.new.link c.args.sink.now c.hear_outgoing.new.sink end c.requires asked h) c.hear_outgoing.ensures.last
