use Rattle.std.proofs.Common.{◌≡◌, ℕ, ◌<◌, length, subst, ◌∙◌, arith}
use Rattle.oc_base.specs.Lawful.{IsNode}
use Rattle.oc_merge.proofs.Looking.{same_in, same_length, again_same, receiver_on, same_along}
use Rattle.oc_merge.proofs.heads.look_at_receivers.Goals as goal

pub look_again-requires-clause-heads : goal.look_again-requires-clause-heads
look_again-requires-clause-heads g c =
    same_in c.args.heads.now.items c.loop-number.heads.items c.loop-number.invariant.0 (g.N.Nodes.world c.args.nodes.now) c.args.records.now c.requires.heads

pub loop-number-preserved : goal.loop-number-preserved
loop-number-preserved g c =
    let w = g.N.Nodes.world c.args.nodes.now in
    let r = c.args.records.now in
    let hs = c.loop-number.heads.items in
    let bs = c.look_again.new.heads.items in
    let within : c.loop-number.number < length w.net = omega (arith, c.loop-number-test.true, c.sent-number-end.ensures) in
    let long : length hs ≡ r.header.nodes = same_length c.args.heads.now.items hs c.loop-number.invariant.0 ∙ c.requires.heads.all in
    let is : IsNode r.header.nodes c.in_ok-node.node = subst (λ (n : ℕ). IsNode n c.in_ok-node.node) c.requires.heads.ids_are c.in_ok-node.ensures.node in (
      same_along c.args.heads.now.items hs bs c.loop-number.invariant.0 (again_same g.N.Nodes.digest r w c.in_ok-node.node hs bs c.in_ok-look_again.ensures),
      receiver_on g.N.Nodes.digest r w hs bs c.loop-number.number c.in_ok-node.node within c.in_ok-node.ensures.to c.in_ok-look_again.ensures is long c.loop-number.invariant.1,
    )
