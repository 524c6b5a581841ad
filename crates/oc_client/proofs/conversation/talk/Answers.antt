use Rattle.std.proofs.Common.{arith}
use Rattle.std.proofs.lemmas.Result.{err_from_is_err_and}
use Rattle.oc_client.specs.Wishes.{wish_of}
use Rattle.oc_client.proofs.Exchanged.{exchange_starved}
use Rattle.oc_client.proofs.Talked.{talked_first, talked_then, talked_last, talked_through, goes_down}
use Rattle.oc_client.specs.declared.end.GetEnd.TheVariants.{Memory}
use Rattle.oc_client.proofs.conversation.talk.Goals as goal

pub turns-init : goal.turns-init
turns-init g c = record {
  has = talked_first g.K.Sink.takes g.met.K.Sink.takes_nothing (wish_of c.args.wish.now) c.args.state (g.L.Dialler.story c.args.link.now) c.args.sink.now c.requires;
  link_count = omega arith;
  sink_count = omega arith;
}

pub turns-preserved : goal.turns-preserved
turns-preserved g c =
    let before = c.turns.invariant.link_count in
    let after = c.in_ok-exchange.ensures.link_count in
    record {
      has = talked_then g.K.Sink.takes g.met.K.Sink.takes_then (wish_of c.args.wish.now) c.args.state c.turns.state c.exchange.new.state (g.L.Dialler.story c.args.link.now) (g.L.Dialler.story c.turns.link) (g.L.Dialler.story c.exchange.new.link) c.args.sink.now c.turns.sink c.exchange.new.sink (omega arith) c.turns.invariant.has c.in_ok-exchange.ensures.goes_on;
      link_count = omega (arith, before, after);
      sink_count = omega (arith, c.turns.invariant.sink_count, c.in_ok-exchange.ensures.sink_count);
    }

pub turns-smaller : goal.turns-smaller
turns-smaller g c = goes_down (wish_of c.args.wish.now) c.turns.state c.exchange.new.state c.in_ok-exchange.ensures.goes_on.turn c.in_ok-exchange.ensures.goes_on.content (omega arith) c.in_ok-exchange.ensures.goes_on.so

pub returns-clause-through : goal.returns-clause-through
returns-clause-through g c = talked_through g.K.Sink.takes g.K.Sink.fails (wish_of c.args.wish.now) c.args.state c.turns.state (g.L.Dialler.story c.args.link.now) (g.L.Dialler.story c.turns.link) c.args.sink.now c.turns.sink (omega arith) c.turns.invariant.has

pub returns-in_err-room-clause-ended : goal.returns-in_err-room-clause-ended
returns-in_err-room-clause-ended g c =
    let p = err_from_is_err_and c.from_residual.result c.from_residual.ensures.1 in
    let story = g.L.Dialler.story c.args.link.now in
    let first = talked_first g.K.Sink.takes g.met.K.Sink.takes_nothing (wish_of c.args.wish.now) c.args.state story c.args.sink.now c.requires in
    rw (p.1, p.2) (talked_last g.K.Sink.takes g.K.Sink.fails g.met.K.Sink.takes_then g.met.K.Sink.takes_fails (wish_of c.args.wish.now) c.args.state c.args.state story story story c.args.sink.now c.args.sink.now c.args.sink.now Memory first
    (exchange_starved g.K.Sink.takes g.K.Sink.fails g.met.K.Sink.takes_nothing (wish_of c.args.wish.now) c.args.state story c.args.sink.now))

pub returns-in_err-exchange-clause-ended : goal.returns-in_err-exchange-clause-ended
returns-in_err-exchange-clause-ended g c =
    let p = err_from_is_err_and c.from_residual-in_err-exchange.result c.from_residual-in_err-exchange.ensures.1 in
    rw (p.1, p.2) (talked_last g.K.Sink.takes g.K.Sink.fails g.met.K.Sink.takes_then g.met.K.Sink.takes_fails (wish_of c.args.wish.now) c.args.state c.turns.state (g.L.Dialler.story c.args.link.now) (g.L.Dialler.story c.turns.link) (g.L.Dialler.story c.exchange.new.link) c.args.sink.now c.turns.sink c.exchange.new.sink c.in_err-exchange.field-0.0 c.turns.invariant.has c.in_err-exchange.ensures.ends)
