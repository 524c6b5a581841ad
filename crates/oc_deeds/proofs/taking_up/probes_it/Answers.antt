use Rattle.std.proofs.Common.{◌∷◌, [], ℕ, Some, ap, subst, sym, refl, ◌∙◌}
use Rattle.oc_base.specs.Lawful.{IsNode}
use Rattle.oc_deeds.specs.Choices.{free_number}
use Rattle.oc_deeds.specs.Deeds.{Probes, Reads, Running}
use Rattle.oc_deeds.specs.Parts.{in_turn, one}
use Rattle.oc_deeds.specs.Turns.{probes_it}
use Rattle.oc_deeds.proofs.Results.{done_then, err_then}
use Rattle.oc_deeds.proofs.taking_up.probes_it.Goals as goal

pub probes-requires-clause-serving : goal.probes-requires-clause-serving
probes-requires-clause-serving g c = c.parts_go_on.ensures.stays_serving (one (Reads c.millis-now.result)) c.args.doer.now c.millis-now.new.self c.millis-now.ensures c.requires.serving

pub probes-requires-clause-peer : goal.probes-requires-clause-peer
probes-requires-clause-peer g c = subst (λ (n : ℕ). IsNode n c.args.peer) (sym (c.parts_go_on.ensures.same_nodes (one (Reads c.millis-now.result)) c.args.doer.now c.millis-now.new.self c.millis-now.ensures)) c.requires.peer

pub returns-clause-did : goal.returns-clause-did
returns-clause-did g c =
    let s = c.args.doer.now in
    let b = c.millis-now.new.self in
    let now = c.millis-now.result in
    let peer = c.args.peer in
    let next = one (Probes peer (free_number (g.W.Doer.running s).dials) now) in
    let same = λ (honest : g.W.Doer.honest c.args.doer.now). ap (λ (n : ℕ). Probes peer n now ∷ []) (c.free_number-dial.ensures ∙ ap free_number c.dials_made.ensures ∙ ap (λ (r : Running). free_number r.dials) (c.parts_go_on.ensures.leaves (one (Reads now)) s b c.millis-now.ensures honest)) in
    done_then c.probes.result (λ does. (
      now,
      c.parts_go_on.ensures.as_same (in_turn (one (Reads now)) next) (probes_it (Some peer) now) s c.probes.new.self (λ honest. refl)
          (c.parts_go_on.ensures.follows (one (Reads now)) next (one (Probes peer c.free_number-dial.result now)) s b c.probes.new.self c.millis-now.ensures same does),
    )) c.probes.ensures.did

pub returns-clause-breaks : goal.returns-clause-breaks
returns-clause-breaks g c =
    let s = c.args.doer.now in
    let b = c.millis-now.new.self in
    let now = c.millis-now.result in
    let peer = c.args.peer in
    let next = one (Probes peer (free_number (g.W.Doer.running s).dials) now) in
    let same = λ (honest : g.W.Doer.honest c.args.doer.now). ap (λ (n : ℕ). Probes peer n now ∷ []) (c.free_number-dial.ensures ∙ ap free_number c.dials_made.ensures ∙ ap (λ (r : Running). free_number r.dials) (c.parts_go_on.ensures.leaves (one (Reads now)) s b c.millis-now.ensures honest)) in
    err_then c.probes.result (λ end stops. (
      now,
      c.parts_stop.ensures.as_same end (in_turn (one (Reads now)) next) (probes_it (Some peer) now) s c.probes.new.self (λ honest. refl)
          (c.parts_stop.ensures.follows end (one (Reads now)) next (one (Probes peer c.free_number-dial.result now)) s b c.probes.new.self c.millis-now.ensures same stops),
    )) c.probes.ensures.breaks
