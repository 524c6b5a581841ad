use Rattle.std.proofs.Common.{List, sym, ap, ◌∙◌, slice_get}
use Rattle.oc_deeds.specs.Asks.{due_of, taken_up, takes_up, wakes}
use Rattle.oc_deeds.specs.Rooms.{goes_on}
use Rattle.oc_deeds.specs.declared.due.Due.{Due}
use Rattle.oc_deeds.specs.declared.work.Work.{Work}
use Rattle.oc_deeds.proofs.Lawful.{due_lawful}
use Rattle.oc_deeds.proofs.Results.{done_then, err_then}
use Rattle.oc_deeds.proofs.taking_up.takes_up.Goals as goal

pub returns-in-Aside-clause-did : goal.returns-in-Aside-clause-did
returns-in-Aside-clause-did g c =
    let s = c.args.doer.now in
    let is = sym (c.due_of.ensures ∙ ap (λ (ws : List Work). due_of (slice_get ws c.args.index)) c.works.ensures) ∙ c.in-Aside.is in
    done_then c.goes_on.result (λ does. c.parts_go_on.ensures.as_same (goes_on c.in-Aside.transfer c.args.now) (takes_up (slice_get (g.W.Doer.running s).works c.args.index) c.args.now) s c.goes_on.new.doer (λ honest. ap (λ (d : Due). taken_up d c.args.now (g.W.Doer.setting s) (g.W.Doer.running s)) is) does) c.goes_on.ensures.did

pub returns-in-Aside-clause-breaks : goal.returns-in-Aside-clause-breaks
returns-in-Aside-clause-breaks g c =
    let s = c.args.doer.now in
    let is = sym (c.due_of.ensures ∙ ap (λ (ws : List Work). due_of (slice_get ws c.args.index)) c.works.ensures) ∙ c.in-Aside.is in
    err_then c.goes_on.result (λ end stops. c.parts_stop.ensures.as_same end (goes_on c.in-Aside.transfer c.args.now) (takes_up (slice_get (g.W.Doer.running s).works c.args.index) c.args.now) s c.goes_on.new.doer (λ honest. ap (λ (d : Due). taken_up d c.args.now (g.W.Doer.setting s) (g.W.Doer.running s)) is) stops) c.goes_on.ensures.breaks

pub wakes-requires-clause-asks : goal.wakes-requires-clause-asks
wakes-requires-clause-asks g c =
    let s = c.args.doer.now in
    let is = sym (c.due_of.ensures ∙ ap (λ (ws : List Work). due_of (slice_get ws c.args.index)) c.works.ensures) ∙ c.in-Waits.is in
    (due_lawful (g.W.Doer.running s).node.control.nodes (g.W.Doer.running s).node.control.me (g.W.Doer.running s).works c.args.index c.in-Waits.pending (c.is_lawful.ensures.lawful_works s c.requires) is).0

pub wakes-requires-clause-input : goal.wakes-requires-clause-input
wakes-requires-clause-input g c =
    let s = c.args.doer.now in
    let is = sym (c.due_of.ensures ∙ ap (λ (ws : List Work). due_of (slice_get ws c.args.index)) c.works.ensures) ∙ c.in-Waits.is in
    (due_lawful (g.W.Doer.running s).node.control.nodes (g.W.Doer.running s).node.control.me (g.W.Doer.running s).works c.args.index c.in-Waits.pending (c.is_lawful.ensures.lawful_works s c.requires) is).1

pub returns-in-Waits-clause-did : goal.returns-in-Waits-clause-did
returns-in-Waits-clause-did g c =
    let s = c.args.doer.now in
    let is = sym (c.due_of.ensures ∙ ap (λ (ws : List Work). due_of (slice_get ws c.args.index)) c.works.ensures) ∙ c.in-Waits.is in
    done_then c.wakes.result (λ does. c.parts_go_on.ensures.as_same (wakes c.in-Waits.pending c.args.now) (takes_up (slice_get (g.W.Doer.running s).works c.args.index) c.args.now) s c.wakes.new.doer (λ honest. ap (λ (d : Due). taken_up d c.args.now (g.W.Doer.setting s) (g.W.Doer.running s)) is) does) c.wakes.ensures.did

pub returns-in-Waits-clause-breaks : goal.returns-in-Waits-clause-breaks
returns-in-Waits-clause-breaks g c =
    let s = c.args.doer.now in
    let is = sym (c.due_of.ensures ∙ ap (λ (ws : List Work). due_of (slice_get ws c.args.index)) c.works.ensures) ∙ c.in-Waits.is in
    err_then c.wakes.result (λ end stops. c.parts_stop.ensures.as_same end (wakes c.in-Waits.pending c.args.now) (takes_up (slice_get (g.W.Doer.running s).works c.args.index) c.args.now) s c.wakes.new.doer (λ honest. ap (λ (d : Due). taken_up d c.args.now (g.W.Doer.setting s) (g.W.Doer.running s)) is) stops) c.wakes.ensures.breaks

pub returns-in-Nothing-clause-did : goal.returns-in-Nothing-clause-did
returns-in-Nothing-clause-did g c =
    let s = c.args.doer.now in
    let is = sym (c.due_of.ensures ∙ ap (λ (ws : List Work). due_of (slice_get ws c.args.index)) c.works.ensures) ∙ c.in-Nothing.is in
    c.parts_go_on.ensures.nothing_done (takes_up (slice_get (g.W.Doer.running s).works c.args.index) c.args.now) s c.requires (λ honest. ap (λ (d : Due). taken_up d c.args.now (g.W.Doer.setting s) (g.W.Doer.running s)) is)
