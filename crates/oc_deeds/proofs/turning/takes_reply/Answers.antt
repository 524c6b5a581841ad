use Rattle.std.proofs.Common.{IfSome, ℕ, refl, subst, sym}
use Rattle.oc_model.specs.Lawful.{IsInput}
use Rattle.oc_deeds.specs.Turns.{rejects, takes_brought}
use Rattle.oc_deeds.proofs.Results.{done_then, err_then}
use Rattle.oc_deeds.proofs.turning.takes_reply.Goals as goal

pub takes_brought-requires-clause-serving : goal.takes_brought-requires-clause-serving
takes_brought-requires-clause-serving g c =
    c.parts_go_on.ensures.stays_serving (rejects c.args.refused) c.args.doer.now c.rejects.new.doer c.rejects.ensures c.requires.serving

pub takes_brought-requires-clause-input : goal.takes_brought-requires-clause-input
takes_brought-requires-clause-input g c =
    let old = (g.W.Doer.running c.args.doer.now).node.control in
    let new = (g.W.Doer.running c.rejects.new.doer).node.control in
    subst (λ (n : ℕ). IfSome c.args.input (IsInput n new.me)) (sym (c.parts_go_on.ensures.same_nodes (rejects c.args.refused) c.args.doer.now c.rejects.new.doer c.rejects.ensures))
    (subst (λ (m : ℕ). IfSome c.args.input (IsInput old.nodes m)) (sym (c.parts_go_on.ensures.same_me (rejects c.args.refused) c.args.doer.now c.rejects.new.doer c.rejects.ensures)) c.requires.input)

pub returns-clause-did : goal.returns-clause-did
returns-clause-did g c =
    let s = c.args.doer.now in
    done_then c.takes_brought.result (λ does. c.parts_go_on.ensures.follows (rejects c.args.refused) (takes_brought c.args.input) (takes_brought c.args.input) s c.rejects.new.doer c.takes_brought.new.doer c.rejects.ensures (λ honest. refl) does) c.takes_brought.ensures.did

pub returns-clause-breaks : goal.returns-clause-breaks
returns-clause-breaks g c =
    let s = c.args.doer.now in
    err_then c.takes_brought.result (λ end stops. c.parts_stop.ensures.follows end (rejects c.args.refused) (takes_brought c.args.input) (takes_brought c.args.input) s c.rejects.new.doer c.takes_brought.new.doer c.rejects.ensures (λ honest. refl) stops) c.takes_brought.ensures.breaks
