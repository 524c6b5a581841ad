use Rattle.std.proofs.Common.{◌≡◌, ℕ, Option, None, Some, List, sym, ap, ◌∙◌}
use Rattle.oc_deeds.specs.Turns.{next_peer, probes_it, probes_next}
use Rattle.oc_deeds.specs.declared.dials.Dialling.{Dialling}
use Rattle.oc_deeds.proofs.Probings.{peer_is_node}
use Rattle.oc_deeds.proofs.Results.{done_then, err_then}
use Rattle.oc_deeds.proofs.turning.probes_next.Goals as goal

pub probes_it-requires-clause-peer : goal.probes_it-requires-clause-peer
probes_it-requires-clause-peer g c =
    let s = c.args.doer.now in
    peer_is_node (g.W.Doer.running s).node.control.nodes c.args.probing.now (g.W.Doer.running s).dials c.in-Some.peer c.requires.probing
    (ap (λ (ds : List Dialling). next_peer c.args.probing.now ds) (sym c.dials_made.ensures) ∙ sym c.next_peer.ensures.peer ∙ c.in-Some.is)

pub returns-in-Some-clause-did : goal.returns-in-Some-clause-did
returns-in-Some-clause-did g c =
    let s = c.args.doer.now in
    let is : next_peer c.args.probing.now (g.W.Doer.running s).dials ≡ Some c.in-Some.peer =
    ap (λ (ds : List Dialling). next_peer c.args.probing.now ds) (sym c.dials_made.ensures) ∙ sym c.next_peer.ensures.peer ∙ c.in-Some.is in
    done_then c.probes_it.result (λ does. (
      does.0,
      c.parts_go_on.ensures.as_same (probes_it (Some c.in-Some.peer) does.0) (probes_next c.args.probing.now does.0) s c.probes_it.new.doer
          (λ honest. ap (λ (o : Option ℕ). probes_it o does.0 (g.W.Doer.setting s) (g.W.Doer.running s)) is) does.1,
    )) c.probes_it.ensures.did

pub returns-in-Some-clause-breaks : goal.returns-in-Some-clause-breaks
returns-in-Some-clause-breaks g c =
    let s = c.args.doer.now in
    let is : next_peer c.args.probing.now (g.W.Doer.running s).dials ≡ Some c.in-Some.peer =
    ap (λ (ds : List Dialling). next_peer c.args.probing.now ds) (sym c.dials_made.ensures) ∙ sym c.next_peer.ensures.peer ∙ c.in-Some.is in
    err_then c.probes_it.result (λ end stops. (
      stops.0,
      c.parts_stop.ensures.as_same end (probes_it (Some c.in-Some.peer) stops.0) (probes_next c.args.probing.now stops.0) s c.probes_it.new.doer
          (λ honest. ap (λ (o : Option ℕ). probes_it o stops.0 (g.W.Doer.setting s) (g.W.Doer.running s)) is) stops.1,
    )) c.probes_it.ensures.breaks

pub returns-in-None-clause-did : goal.returns-in-None-clause-did
returns-in-None-clause-did g c =
    let s = c.args.doer.now in
    let is : next_peer c.args.probing.now (g.W.Doer.running s).dials ≡ None =
    ap (λ (ds : List Dialling). next_peer c.args.probing.now ds) (sym c.dials_made.ensures) ∙ sym c.next_peer.ensures.peer ∙ c.in-None.is in (
      0,
      c.parts_go_on.ensures.nothing_done (probes_next c.args.probing.now 0) s c.requires.serving
          (λ honest. ap (λ (o : Option ℕ). probes_it o 0 (g.W.Doer.setting s) (g.W.Doer.running s)) is),
    )
