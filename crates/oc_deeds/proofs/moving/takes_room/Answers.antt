use Rattle.std.proofs.Common.{Option, List, sym, ap, ◌∙◌}
use Rattle.oc_deeds.specs.Rooms.{transfer_of, goes_on, takes_room, room_for}
use Rattle.oc_deeds.specs.Works.{work_on}
use Rattle.oc_deeds.specs.declared.work.Transfer.{Transfer}
use Rattle.oc_deeds.specs.declared.work.Work.{Work}
use Rattle.oc_deeds.proofs.Results.{done_then, err_then}
use Rattle.oc_deeds.proofs.moving.takes_room.Goals as goal

pub returns-in-Some-clause-did : goal.returns-in-Some-clause-did
returns-in-Some-clause-did g c =
    let x = c.args.connection in
    let now = c.args.now in
    let s = c.args.doer.now in
    done_then c.goes_on.result (λ does. c.parts_go_on.ensures.as_same (goes_on c.in-Some.transfer now) (takes_room x now) s c.goes_on.new.doer (λ honest. ap (λ (o : Option Transfer). room_for o now (g.W.Doer.setting s) (g.W.Doer.running s)) (ap (λ (ws : List Work). transfer_of (work_on x ws)) (sym c.works.ensures) ∙ sym c.transfer_of.ensures ∙ c.in-Some.is)) does) c.goes_on.ensures.did

pub returns-in-Some-clause-breaks : goal.returns-in-Some-clause-breaks
returns-in-Some-clause-breaks g c =
    let x = c.args.connection in
    let now = c.args.now in
    let s = c.args.doer.now in
    err_then c.goes_on.result (λ end stops. c.parts_stop.ensures.as_same end (goes_on c.in-Some.transfer now) (takes_room x now) s c.goes_on.new.doer (λ honest. ap (λ (o : Option Transfer). room_for o now (g.W.Doer.setting s) (g.W.Doer.running s)) (ap (λ (ws : List Work). transfer_of (work_on x ws)) (sym c.works.ensures) ∙ sym c.transfer_of.ensures ∙ c.in-Some.is)) stops) c.goes_on.ensures.breaks

pub returns-in-None-clause-did : goal.returns-in-None-clause-did
returns-in-None-clause-did g c =
    let x = c.args.connection in
    let now = c.args.now in
    let s = c.args.doer.now in
    c.parts_go_on.ensures.nothing_done (takes_room x now) s c.requires (λ honest. ap (λ (o : Option Transfer). room_for o now (g.W.Doer.setting s) (g.W.Doer.running s)) (ap (λ (ws : List Work). transfer_of (work_on x ws)) (sym c.works.ensures) ∙ sym c.transfer_of.ensures ∙ c.in-None.is))
