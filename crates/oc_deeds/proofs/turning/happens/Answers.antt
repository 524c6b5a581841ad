use Rattle.std.proofs.Common.{ap, sym, subst, ◌∙◌}
use Rattle.std.proofs.lemmas.Result.{err_from_is_err_and}
use Rattle.oc_deeds.specs.Asks.{obeys}
use Rattle.oc_deeds.specs.Hurries.{came_hurries}
use Rattle.oc_deeds.specs.Lawful.{IsLawfulCame}
use Rattle.oc_deeds.specs.Rooms.{takes_loss, takes_room}
use Rattle.oc_deeds.specs.Measured.{IsMeasured}
use Rattle.oc_deeds.specs.Turns.{takes_reply, happens, measures, probed, probes_next}
use Rattle.oc_deeds.specs.declared.came.Came.{Came}
use Rattle.oc_deeds.proofs.Results.{done_then, err_then, ok_then}
use Rattle.oc_deeds.proofs.turning.happens.Goals as goal

pub obeys-requires-clause-verdict : goal.obeys-requires-clause-verdict
obeys-requires-clause-verdict g c =
    let n = (g.W.Doer.running c.args.doer.now).node.control in
    subst (λ (x : Came). IsLawfulCame n.nodes n.me x) c.in-Request.is c.requires.came

pub returns-in-Request-clause-did : goal.returns-in-Request-clause-did
returns-in-Request-clause-did g c =
    let s = c.args.doer.now in
    done_then c.obeys.result (λ does. (
      0,
      0,
      subst (λ (x : Came). IsMeasured c.args.probing.now x c.args.now 0) (sym c.in-Request.is) tt,
      c.parts_go_on.ensures.as_same (obeys c.in-Request.connection c.in-Request.count c.in-Request.verdict c.args.now) (happens c.args.probing.now c.args.came c.args.now 0 0) s c.obeys.new.doer (λ honest. ap (λ (x : Came). happens c.args.probing.now x c.args.now 0 0 (g.W.Doer.setting s) (g.W.Doer.running s)) c.in-Request.is) does,
    )) c.obeys.ensures.did

pub returns-in-Request-clause-hurries : goal.returns-in-Request-clause-hurries
returns-in-Request-clause-hurries g c =
    ok_then c.obeys.result (λ b is honest. is honest ∙ sym (ap (λ (x : Came). came_hurries x (g.W.Doer.running c.args.doer.now).node) c.in-Request.is)) c.obeys.ensures.hurries

pub returns-in-Request-clause-breaks : goal.returns-in-Request-clause-breaks
returns-in-Request-clause-breaks g c =
    let s = c.args.doer.now in
    err_then c.obeys.result (λ end stops. (
      0,
      0,
      subst (λ (x : Came). IsMeasured c.args.probing.now x c.args.now 0) (sym c.in-Request.is) tt,
      c.parts_stop.ensures.as_same end (obeys c.in-Request.connection c.in-Request.count c.in-Request.verdict c.args.now) (happens c.args.probing.now c.args.came c.args.now 0 0) s c.obeys.new.doer (λ honest. ap (λ (x : Came). happens c.args.probing.now x c.args.now 0 0 (g.W.Doer.setting s) (g.W.Doer.running s)) c.in-Request.is) stops,
    )) c.obeys.ensures.breaks

pub returns-in-Request-clause-probing : goal.returns-in-Request-clause-probing
returns-in-Request-clause-probing g c = sym (ap (λ (x : Came). probed x c.args.now (g.W.Doer.running c.args.doer.now).dials c.args.probing.now) c.in-Request.is)

pub returns-in_ok-takes_room-in-Room-clause-did : goal.returns-in_ok-takes_room-in-Room-clause-did
returns-in_ok-takes_room-in-Room-clause-did g c =
    let s = c.args.doer.now in
    let does = c.in_ok-takes_room-in-Room.ensures.did in (
      0,
      0,
      subst (λ (x : Came). IsMeasured c.args.probing.now x c.args.now 0) (sym c.in-Room.is) tt,
      c.parts_go_on.ensures.as_same (takes_room c.in-Room.connection c.args.now) (happens c.args.probing.now c.args.came c.args.now 0 0) s c.takes_room.new.doer (λ honest. ap (λ (x : Came). happens c.args.probing.now x c.args.now 0 0 (g.W.Doer.setting s) (g.W.Doer.running s)) c.in-Room.is) does,
    )

pub returns-in_ok-takes_room-in-Room-clause-hurries : goal.returns-in_ok-takes_room-in-Room-clause-hurries
returns-in_ok-takes_room-in-Room-clause-hurries g c = λ honest. sym (ap (λ (x : Came). came_hurries x (g.W.Doer.running c.args.doer.now).node) c.in-Room.is)

pub returns-in_ok-takes_room-in-Room-clause-probing : goal.returns-in_ok-takes_room-in-Room-clause-probing
returns-in_ok-takes_room-in-Room-clause-probing g c = sym (ap (λ (x : Came). probed x c.args.now (g.W.Doer.running c.args.doer.now).dials c.args.probing.now) c.in-Room.is)

pub returns-in_err-takes_room-in-Room-clause-breaks : goal.returns-in_err-takes_room-in-Room-clause-breaks
returns-in_err-takes_room-in-Room-clause-breaks g c =
    let p = err_from_is_err_and c.from_residual.result c.from_residual.ensures.1 in
    let s = c.args.doer.now in
    let stops = c.in_err-takes_room-in-Room.ensures.breaks in
    rw (p.1, p.2) (
      0,
      0,
      subst (λ (x : Came). IsMeasured c.args.probing.now x c.args.now 0) (sym c.in-Room.is) tt,
      c.parts_stop.ensures.as_same c.in_err-takes_room-in-Room.field-0.0 (takes_room c.in-Room.connection c.args.now) (happens c.args.probing.now c.args.came c.args.now 0 0) s c.takes_room.new.doer (λ honest. ap (λ (x : Came). happens c.args.probing.now x c.args.now 0 0 (g.W.Doer.setting s) (g.W.Doer.running s)) c.in-Room.is) stops,
    )

pub returns-in_err-takes_room-in-Room-clause-probing : goal.returns-in_err-takes_room-in-Room-clause-probing
returns-in_err-takes_room-in-Room-clause-probing g c = sym (ap (λ (x : Came). probed x c.args.now (g.W.Doer.running c.args.doer.now).dials c.args.probing.now) c.in-Room.is)

pub returns-in_ok-takes_loss-in-Gone-clause-did : goal.returns-in_ok-takes_loss-in-Gone-clause-did
returns-in_ok-takes_loss-in-Gone-clause-did g c =
    let s = c.args.doer.now in
    let does = c.in_ok-takes_loss-in-Gone.ensures.did in (
      0,
      0,
      subst (λ (x : Came). IsMeasured c.args.probing.now x c.args.now 0) (sym c.in-Gone.is) tt,
      c.parts_go_on.ensures.as_same (takes_loss c.in-Gone.connection c.in-Gone.loss) (happens c.args.probing.now c.args.came c.args.now 0 0) s c.takes_loss.new.doer (λ honest. ap (λ (x : Came). happens c.args.probing.now x c.args.now 0 0 (g.W.Doer.setting s) (g.W.Doer.running s)) c.in-Gone.is) does,
    )

pub returns-in_ok-takes_loss-in-Gone-clause-hurries : goal.returns-in_ok-takes_loss-in-Gone-clause-hurries
returns-in_ok-takes_loss-in-Gone-clause-hurries g c = λ honest. sym (ap (λ (x : Came). came_hurries x (g.W.Doer.running c.args.doer.now).node) c.in-Gone.is)

pub returns-in_ok-takes_loss-in-Gone-clause-probing : goal.returns-in_ok-takes_loss-in-Gone-clause-probing
returns-in_ok-takes_loss-in-Gone-clause-probing g c = sym (ap (λ (x : Came). probed x c.args.now (g.W.Doer.running c.args.doer.now).dials c.args.probing.now) c.in-Gone.is)

pub returns-in_err-takes_loss-in-Gone-clause-breaks : goal.returns-in_err-takes_loss-in-Gone-clause-breaks
returns-in_err-takes_loss-in-Gone-clause-breaks g c =
    let p = err_from_is_err_and c.from_residual-in_err-takes_loss-in-Gone.result c.from_residual-in_err-takes_loss-in-Gone.ensures.1 in
    let s = c.args.doer.now in
    let stops = c.in_err-takes_loss-in-Gone.ensures.breaks in
    rw (p.1, p.2) (
      0,
      0,
      subst (λ (x : Came). IsMeasured c.args.probing.now x c.args.now 0) (sym c.in-Gone.is) tt,
      c.parts_stop.ensures.as_same c.in_err-takes_loss-in-Gone.field-0.0 (takes_loss c.in-Gone.connection c.in-Gone.loss) (happens c.args.probing.now c.args.came c.args.now 0 0) s c.takes_loss.new.doer (λ honest. ap (λ (x : Came). happens c.args.probing.now x c.args.now 0 0 (g.W.Doer.setting s) (g.W.Doer.running s)) c.in-Gone.is) stops,
    )

pub returns-in_err-takes_loss-in-Gone-clause-probing : goal.returns-in_err-takes_loss-in-Gone-clause-probing
returns-in_err-takes_loss-in-Gone-clause-probing g c = sym (ap (λ (x : Came). probed x c.args.now (g.W.Doer.running c.args.doer.now).dials c.args.probing.now) c.in-Gone.is)

pub returns-in_ok-takes_reply-in-Reply-clause-did : goal.returns-in_ok-takes_reply-in-Reply-clause-did
returns-in_ok-takes_reply-in-Reply-clause-did g c =
    let s = c.args.doer.now in
    let does = c.in_ok-takes_reply-in-Reply.ensures.did in (
      0,
      0,
      subst (λ (x : Came). IsMeasured c.args.probing.now x c.args.now 0) (sym c.in-Reply.is) tt,
      c.parts_go_on.ensures.as_same (takes_reply c.in-Reply.input c.in-Reply.refused) (happens c.args.probing.now c.args.came c.args.now 0 0) s c.takes_reply.new.doer (λ honest. ap (λ (x : Came). happens c.args.probing.now x c.args.now 0 0 (g.W.Doer.setting s) (g.W.Doer.running s)) c.in-Reply.is) does,
    )

pub returns-in_ok-takes_reply-in-Reply-clause-hurries : goal.returns-in_ok-takes_reply-in-Reply-clause-hurries
returns-in_ok-takes_reply-in-Reply-clause-hurries g c = λ honest. sym (ap (λ (x : Came). came_hurries x (g.W.Doer.running c.args.doer.now).node) c.in-Reply.is)

pub returns-in_ok-takes_reply-in-Reply-clause-probing : goal.returns-in_ok-takes_reply-in-Reply-clause-probing
returns-in_ok-takes_reply-in-Reply-clause-probing g c = sym (ap (λ (x : Came). probed x c.args.now (g.W.Doer.running c.args.doer.now).dials c.args.probing.now) c.in-Reply.is)

pub returns-in_err-takes_reply-in-Reply-clause-breaks : goal.returns-in_err-takes_reply-in-Reply-clause-breaks
returns-in_err-takes_reply-in-Reply-clause-breaks g c =
    let p = err_from_is_err_and c.from_residual-in_err-takes_reply-in-Reply.result c.from_residual-in_err-takes_reply-in-Reply.ensures.1 in
    let s = c.args.doer.now in
    let stops = c.in_err-takes_reply-in-Reply.ensures.breaks in
    rw (p.1, p.2) (
      0,
      0,
      subst (λ (x : Came). IsMeasured c.args.probing.now x c.args.now 0) (sym c.in-Reply.is) tt,
      c.parts_stop.ensures.as_same c.in_err-takes_reply-in-Reply.field-0.0 (takes_reply c.in-Reply.input c.in-Reply.refused) (happens c.args.probing.now c.args.came c.args.now 0 0) s c.takes_reply.new.doer (λ honest. ap (λ (x : Came). happens c.args.probing.now x c.args.now 0 0 (g.W.Doer.setting s) (g.W.Doer.running s)) c.in-Reply.is) stops,
    )

pub returns-in_err-takes_reply-in-Reply-clause-probing : goal.returns-in_err-takes_reply-in-Reply-clause-probing
returns-in_err-takes_reply-in-Reply-clause-probing g c = sym (ap (λ (x : Came). probed x c.args.now (g.W.Doer.running c.args.doer.now).dials c.args.probing.now) c.in-Reply.is)

pub returns-in_ok-measures-in-Probed-clause-did : goal.returns-in_ok-measures-in-Probed-clause-did
returns-in_ok-measures-in-Probed-clause-did g c =
    let s = c.args.doer.now in
    let does = c.in_ok-measures-in-Probed.ensures.did in (
      does.0,
      0,
      subst (λ (x : Came). IsMeasured c.args.probing.now x c.args.now does.0) (sym c.in-Probed.is) does.1,
      c.parts_go_on.ensures.as_same (measures c.args.probing.now c.in-Probed.peer c.in-Probed.fault does.0) (happens c.args.probing.now c.args.came c.args.now does.0 0) s c.measures.new.doer (λ honest. ap (λ (x : Came). happens c.args.probing.now x c.args.now does.0 0 (g.W.Doer.setting s) (g.W.Doer.running s)) c.in-Probed.is) does.2,
    )

pub returns-in_ok-measures-in-Probed-clause-hurries : goal.returns-in_ok-measures-in-Probed-clause-hurries
returns-in_ok-measures-in-Probed-clause-hurries g c = λ honest. sym (ap (λ (x : Came). came_hurries x (g.W.Doer.running c.args.doer.now).node) c.in-Probed.is)

pub returns-in_ok-measures-in-Probed-clause-probing : goal.returns-in_ok-measures-in-Probed-clause-probing
returns-in_ok-measures-in-Probed-clause-probing g c = c.measures.ensures.probing ∙ sym (ap (λ (x : Came). probed x c.args.now (g.W.Doer.running c.args.doer.now).dials c.args.probing.now) c.in-Probed.is)

pub returns-in_err-measures-in-Probed-clause-breaks : goal.returns-in_err-measures-in-Probed-clause-breaks
returns-in_err-measures-in-Probed-clause-breaks g c =
    let p = err_from_is_err_and c.from_residual-in_err-measures-in-Probed.result c.from_residual-in_err-measures-in-Probed.ensures.1 in
    let s = c.args.doer.now in
    let stops = c.in_err-measures-in-Probed.ensures.breaks in
    rw (p.1, p.2) (
      stops.0,
      0,
      subst (λ (x : Came). IsMeasured c.args.probing.now x c.args.now stops.0) (sym c.in-Probed.is) stops.1,
      c.parts_stop.ensures.as_same c.in_err-measures-in-Probed.field-0.0 (measures c.args.probing.now c.in-Probed.peer c.in-Probed.fault stops.0) (happens c.args.probing.now c.args.came c.args.now stops.0 0) s c.measures.new.doer (λ honest. ap (λ (x : Came). happens c.args.probing.now x c.args.now stops.0 0 (g.W.Doer.setting s) (g.W.Doer.running s)) c.in-Probed.is) stops.2,
    )

pub returns-in_err-measures-in-Probed-clause-probing : goal.returns-in_err-measures-in-Probed-clause-probing
returns-in_err-measures-in-Probed-clause-probing g c = c.measures.ensures.probing ∙ sym (ap (λ (x : Came). probed x c.args.now (g.W.Doer.running c.args.doer.now).dials c.args.probing.now) c.in-Probed.is)

pub returns-in_ok-probes_next-in-Nothing-clause-did : goal.returns-in_ok-probes_next-in-Nothing-clause-did
returns-in_ok-probes_next-in-Nothing-clause-did g c =
    let s = c.args.doer.now in
    let does = c.in_ok-probes_next-in-Nothing.ensures.did in (
      0,
      does.0,
      subst (λ (x : Came). IsMeasured c.args.probing.now x c.args.now 0) (sym c.in-Nothing.is) tt,
      c.parts_go_on.ensures.as_same (probes_next c.args.probing.now does.0) (happens c.args.probing.now c.args.came c.args.now 0 does.0) s c.probes_next.new.doer (λ honest. ap (λ (x : Came). happens c.args.probing.now x c.args.now 0 does.0 (g.W.Doer.setting s) (g.W.Doer.running s)) c.in-Nothing.is) does.1,
    )

pub returns-in_ok-probes_next-in-Nothing-clause-hurries : goal.returns-in_ok-probes_next-in-Nothing-clause-hurries
returns-in_ok-probes_next-in-Nothing-clause-hurries g c = λ honest. sym (ap (λ (x : Came). came_hurries x (g.W.Doer.running c.args.doer.now).node) c.in-Nothing.is)

pub returns-in_ok-probes_next-in-Nothing-clause-probing : goal.returns-in_ok-probes_next-in-Nothing-clause-probing
returns-in_ok-probes_next-in-Nothing-clause-probing g c = c.probes_next.ensures.probing ∙ sym (ap (λ (x : Came). probed x c.args.now (g.W.Doer.running c.args.doer.now).dials c.args.probing.now) c.in-Nothing.is)

pub returns-in_err-probes_next-in-Nothing-clause-breaks : goal.returns-in_err-probes_next-in-Nothing-clause-breaks
returns-in_err-probes_next-in-Nothing-clause-breaks g c =
    let p = err_from_is_err_and c.from_residual-in_err-probes_next-in-Nothing.result c.from_residual-in_err-probes_next-in-Nothing.ensures.1 in
    let s = c.args.doer.now in
    let stops = c.in_err-probes_next-in-Nothing.ensures.breaks in
    rw (p.1, p.2) (
      0,
      stops.0,
      subst (λ (x : Came). IsMeasured c.args.probing.now x c.args.now 0) (sym c.in-Nothing.is) tt,
      c.parts_stop.ensures.as_same c.in_err-probes_next-in-Nothing.field-0.0 (probes_next c.args.probing.now stops.0) (happens c.args.probing.now c.args.came c.args.now 0 stops.0) s c.probes_next.new.doer (λ honest. ap (λ (x : Came). happens c.args.probing.now x c.args.now 0 stops.0 (g.W.Doer.setting s) (g.W.Doer.running s)) c.in-Nothing.is) stops.1,
    )

pub returns-in_err-probes_next-in-Nothing-clause-probing : goal.returns-in_err-probes_next-in-Nothing-clause-probing
returns-in_err-probes_next-in-Nothing-clause-probing g c = c.probes_next.ensures.probing ∙ sym (ap (λ (x : Came). probed x c.args.now (g.W.Doer.running c.args.doer.now).dials c.args.probing.now) c.in-Nothing.is)
