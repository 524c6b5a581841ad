use Rattle.std.proofs.Common.{refl}
use Rattle.std.proofs.lemmas.Result.{err_from_is_err_and}
use Rattle.oc_server.proofs.LookingAgain.{stopped_handling, stopped_looking, turned_looked}
use Rattle.oc_server.proofs.turns.Turns.turn.Goals as goal

pub returns-clause-turned : goal.returns-clause-turned
returns-clause-turned g c =
    turned_looked g.D.Disk.view g.K.Sink.takes g.K.Sink.fails g.K.Sink.faults g.L.Link.story g.L.Link.counts g.met.K.Sink.takes_then c.args.self.now c.handles.new.self c.looks_again.new.self c.in_ok-served.ensures.handled c.in_ok-looks_again.ensures.looked

pub returns-in_err-served-clause-stops : goal.returns-in_err-served-clause-stops
returns-in_err-served-clause-stops g c =
    let p = err_from_is_err_and c.from_residual.result c.from_residual.ensures.1 in
    rw (p.1, p.2) (stopped_handling g.D.Disk.view g.K.Sink.takes g.K.Sink.fails g.K.Sink.faults g.L.Link.story g.L.Link.counts g.met.K.Sink.takes_then c.args.self.now c.handles.new.self c.handles.new.self c.in_err-served.field-0.0 c.in_err-served.ensures.stops)

pub returns-in_err-looks_again-clause-stops : goal.returns-in_err-looks_again-clause-stops
returns-in_err-looks_again-clause-stops g c =
    let p = err_from_is_err_and c.from_residual-in_err-looks_again.result c.from_residual-in_err-looks_again.ensures.1 in
    rw (p.1, p.2) (stopped_looking g.D.Disk.view g.K.Sink.takes g.K.Sink.fails g.K.Sink.faults g.L.Link.story g.L.Link.counts g.met.K.Sink.takes_then c.args.self.now c.handles.new.self c.looks_again.new.self c.in_err-looks_again.field-0.0 c.in_ok-served.ensures.handled c.in_err-looks_again.ensures.stops)
