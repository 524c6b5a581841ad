use Rattle.std.proofs.Common.{length, subst, sym}
use Rattle.oc_base.specs.Lawful.{IsNode}
use Rattle.oc_model.specs.declared.event.Event.TheVariants.{Crash}
use Rattle.oc_model.specs.World.{World, ids}
use Rattle.oc_model.proofs.GoesOn.{ids-next_world}
use Rattle.std.proofs.Common.{ℕ, List}
use Rattle.oc_merge.proofs.way.restart.Goals as goal

pub play-requires-2-clause-event : goal.play-requires-2-clause-event
play-requires-2-clause-event g c =
    let w = g.N.Nodes.world c.args.nodes.now in
    subst (λ (v : World). IsNode (length (ids v)) c.args.node) (sym c.in_ok-play.ensures.world)
    (subst (λ (xs : List ℕ). IsNode (length xs) c.args.node) (sym (ids-next_world w (Crash c.args.node))) c.requires.node)
