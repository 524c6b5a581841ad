use Rattle.std.proofs.Common.{arith}
use Rattle.oc_calm.proofs.FoundLengths.{all_found, known_more}
use Rattle.oc_calm.proofs.RoundRuns.{nodes_count, number_node}
use Rattle.oc_calm.proofs.lengths.find_lengths.Goals as goal

pub find_length-requires-clause-node : goal.find_length-requires-clause-node
find_length-requires-clause-node g c =
    number_node (g.C.Cluster.world c.args.cluster.now) c.nodes-number-end.result c.loop-number.number c.nodes-number-end.ensures.ids (omega arith) (omega arith)

pub find_length-requires-clause-few : goal.find_length-requires-clause-few
find_length-requires-clause-few g c =
    omega (arith, c.loop-number.invariant.found.places, nodes_count (g.C.Cluster.world c.args.cluster.now) c.nodes-number-end.result c.nodes-number-end.ensures.ids, c.nodes-number-end.ensures.few)

pub loop-number-preserved : goal.loop-number-preserved
loop-number-preserved g c = record {
  found = c.find_length.ensures.found;
  known = known_more c.loop-number.number c.loop-number.lengths c.find_length.new.lengths c.loop-number.invariant.known c.find_length.ensures.known c.find_length.ensures.here;
}

pub returns : goal.returns
returns g c =
    let w = g.C.Cluster.world c.args.cluster.now in
    all_found w c.loop-number.lengths c.loop-number.invariant.found
    (λ y node. c.loop-number.invariant.known y node.0 (omega (arith, node.1, nodes_count w c.nodes-number-end.result c.nodes-number-end.ensures.ids, c.loop-number-test.false)))
