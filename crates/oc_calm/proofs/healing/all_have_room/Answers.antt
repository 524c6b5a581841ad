use Rattle.std.proofs.Common.{arith, ◌∙◌, sym}
use Rattle.std.specs.List.{list_all}
use Rattle.oc_calm.specs.Cluster.{IsUpNode}
use Rattle.oc_calm.specs.CalmRuns.{room_of}
use Rattle.oc_calm.proofs.Each.{all_next}
use Rattle.oc_calm.proofs.MemberOrder.{all_later, fails_here, all_pass}
use Rattle.oc_calm.proofs.healing.all_have_room.Goals as goal

pub has_room-requires : goal.has_room-requires
has_room-requires g c =
    (all_next (IsUpNode (g.C.Cluster.world c.args.cluster.now)) c.args.nodes.now c.loop-node.node-index c.node-item.result (omega arith) c.node-item.is c.loop-node.invariant.nodes).0

pub loop-node-preserved : goal.loop-node-preserved
loop-node-preserved g c =
    let w = g.C.Cluster.world c.args.cluster.now in
    let nodes = c.args.nodes.now in
    let i = c.loop-node.node-index in
    let x = c.node-item.result in
    record {
      same = all_later (room_of w) nodes i x (list_all (room_of w) nodes) (omega arith) c.node-item.is (sym c.has_room.ensures ∙ c.if-not-has_room.false) c.loop-node.invariant.same;
      nodes = (all_next (IsUpNode w) nodes i x (omega arith) c.node-item.is c.loop-node.invariant.nodes).1;
    }

pub returns-then-not-has_room : goal.returns-then-not-has_room
returns-then-not-has_room g c =
    let w = g.C.Cluster.world c.args.cluster.now in
    let nodes = c.args.nodes.now in
    fails_here (room_of w) nodes c.loop-node.node-index c.node-item.result (list_all (room_of w) nodes) (omega arith) c.node-item.is (sym c.has_room.ensures ∙ c.if-not-has_room.true) c.loop-node.invariant.same

pub returns : goal.returns
returns g c =
    let w = g.C.Cluster.world c.args.cluster.now in
    let nodes = c.args.nodes.now in
    all_pass (room_of w) nodes c.loop-node.node-index (list_all (room_of w) nodes) (omega arith) c.loop-node.invariant.same
