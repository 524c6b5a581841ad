use Rattle.std.proofs.Common.{◌≡◌, length, ap, ◌∙◌, arith}
use Rattle.std.proofs.lemmas.Bool.{le-leb, leb-true}
use Rattle.std.proofs.lemmas.List.FromFn.{length-range_with_len}
use Rattle.oc_model.specs.World.{ids}
use Rattle.oc_world.proofs.world.World.has.Goals as goal

pub returns-then-node-ge1 : goal.returns-then-node-ge1
returns-then-node-ge1 c =
    let count : length (ids c.args.self.now.world) ≡ c.count.result = ap length c.count.ensures.ids ∙ length-range_with_len 1 c.count.result in
    let some = c.if-node-ge1.true in (
      λ h.
          let within = leb-true c.node.inside.0 c.count.result h in
          (omega (arith, some, c.node.view_is), omega (arith, within, count, c.node.view_is)),
      λ is. le-leb c.node.inside.0 c.count.result (omega (arith, is.1, count, c.node.view_is)),
    )
