-- One more start.
use Rattle.std.proofs.Common.{◌≡◌, suc, ◌+◌, ◌-◌, ◌++◌, map, ap, ◌∙◌, arith}
use Rattle.std.specs.List.{range_with_len}
use Rattle.oc_model.specs.declared.event.Event.TheVariants.{Up}
use Rattle.oc_schedule.proofs.Draws.{one_start_more}
use Rattle.oc_schedule.proofs.generating.put_starts.Goals as goal

pub loop-node-preserved : goal.loop-node-preserved
loop-node-preserved c =
    let x = c.loop-node.node in
    let k = c.args.nodes + 1 - (x + 1) in
    let more : c.args.nodes + 1 - x ≡ suc k = omega (arith, c.loop-node-test.true) in
    ap (λ items. items ++ map (λ y. Up y) (range_with_len (x + 1) k)) c.in_ok-push.ensures
    ∙ one_start_more c.loop-node.events x (c.args.nodes + 1 - x) k more ∙ c.loop-node.invariant
