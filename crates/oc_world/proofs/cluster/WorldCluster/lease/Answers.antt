use Rattle.std.proofs.Common.{length}
use Rattle.oc_model.specs.World.{ids}
use Rattle.oc_model.specs.World.{node as node_in}
use Rattle.oc_world.proofs.Leases.{leased_node}
use Rattle.oc_world.proofs.cluster.WorldCluster.lease.Goals as goal

pub returns-clause-strangers : goal.returns-clause-strangers
returns-clause-strangers c = record {
  node = λ x seq leased. leased_node (length (ids c.args.self.now.world)) (node_in c.args.self.now.world c.args.parent).control.kept.table c.args.parent x seq c.node.ensures.lawful.kept.table leased;
}
