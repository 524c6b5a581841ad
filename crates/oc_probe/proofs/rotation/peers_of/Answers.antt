use Rattle.std.proofs.Common.{sym, ◌∙◌}
use Rattle.oc_probe.proofs.Peers.{pass_empty, pass_own, put}
use Rattle.oc_probe.specs.Turns.{peers_of}
use Rattle.oc_probe.proofs.rotation.peers_of.Goals as goal
use Rattle.oc_probe.proofs.rotation.peers_of.Goals.{then-ne+then-is_some+in_ok-push, else-ne, else-ne-via-then-ne+else-is_some, else-ne-via-else-ne}

pub places-preserved : goal.places-preserved
places-preserved g c =
    let me = c.args.me in
    let k = c.places.place in
    let places = c.args.places.now in
    let all = peers_of me places in
    let so_far = c.places.peers.items in
    elim c.if-ne.branch [
      | then-ne+then-is_some+in_ok-push w ↦ rw (w.peers-is, w.in_ok-push.ensures.items) (put me k places w.index-places-place.result so_far all c.places-test.true (sym w.index-places-place.is) (sym w.is_some.ensures ∙ w.if-is_some.true) (sym c.ne.ensures ∙ w.if-ne.true) c.places.invariant)
      | else-ne w ↦ rw w.peers-is (elim w.else-ne.branch [
        | else-ne-via-then-ne+else-is_some v ↦ pass_empty me k places v.index-places-place.result so_far all c.places-test.true (sym v.index-places-place.is) (sym v.is_some.ensures ∙ v.if-is_some.false) c.places.invariant
        | else-ne-via-else-ne v ↦ pass_own me k places so_far all c.places-test.true (sym c.ne.ensures ∙ v.if-ne.false) c.places.invariant
      ])
    ]
