use Rattle.std.proofs.Common.{◌≡◌, ℕ, ◌+◌, refl, subst, arith}
use Rattle.oc_server.specs.Runs.{ServeEnds, Serves}
use Rattle.oc_server.proofs.Serves.{serve_ends, serves_more}
use Rattle.oc_server.proofs.turns.Turns.serve.Goals as goal

pub turns-init : goal.turns-init
turns-init g c = record { ready = c.requires; serves = refl }

pub turns-preserved : goal.turns-preserved
turns-preserved g c =
    let l = c.turns in
    record {
      ready = c.in-Ok.ensures.ready;
      serves = serves_more g.D.Disk.view g.K.Sink.takes g.K.Sink.fails g.K.Sink.faults g.L.Link.story g.L.Link.counts l.done (l.done + 1) c.in-Ok.field-0 c.args.self.now l.self c.turn.new.self (omega arith) l.invariant.serves c.in-Ok.ensures.turned;
    }

pub returns-in-Err : goal.returns-in-Err
returns-in-Err g c =
    let l = c.turns in
    subst (λ (n : ℕ). ServeEnds g.D.Disk.view g.K.Sink.takes g.K.Sink.fails g.K.Sink.faults g.L.Link.story g.L.Link.counts n c.in-Err.end c.args.self.now c.turn.new.self) c.unwrap_or-most.ensures
    (serve_ends g.D.Disk.view g.K.Sink.takes g.K.Sink.fails g.K.Sink.faults g.L.Link.story g.L.Link.counts c.unwrap_or-most.result c.in-Err.end c.args.self.now c.turn.new.self (record { done = l.done; few = omega arith; at = l.self; serves = l.invariant.serves; stops = c.in-Err.ensures.stops }))

pub returns : goal.returns
returns g c =
    let l = c.turns in
    let all : l.done ≡ c.unwrap_or-most.result = omega arith in
    subst (λ (n : ℕ). Serves g.D.Disk.view g.K.Sink.takes g.K.Sink.faults g.L.Link.story g.L.Link.counts n c.args.self.now l.self) c.unwrap_or-most.ensures
    (subst (λ (n : ℕ). Serves g.D.Disk.view g.K.Sink.takes g.K.Sink.faults g.L.Link.story g.L.Link.counts n c.args.self.now l.self) all l.invariant.serves)
