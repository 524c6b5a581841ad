use Rattle.std.proofs.Common.{◌≡◌, ◌∙◌, ap, arith}
use Rattle.oc_base.specs.Groups.{shelf}
use Rattle.oc_base.specs.Shelves.{held_in_all}
use Rattle.oc_model.specs.World.{World, node}
use Rattle.oc_replay.proofs.Counts.{node_within, within_bytes}
use Rattle.oc_replay.proofs.summing.tally_at.Goals as goal

-- the bytes that a node holds are within the limits
pub held_in_all-requires : goal.held_in_all-requires
held_in_all-requires g c =
    let w : World = g.T.Stage.world c.args.stage.now in
    let same : held_in_all c.deref.result.now ≡ held_in_all (shelf (node w c.args.node).groups) = ap held_in_all (c.deref.ensures.value ∙ c.in_ok-held.ensures) in
    omega (arith, same, within_bytes (node w c.args.node).groups (node_within w.processes c.args.node c.requires.limits))
