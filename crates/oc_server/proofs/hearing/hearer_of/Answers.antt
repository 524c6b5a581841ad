use Rattle.std.proofs.Common.{◌≤◌, length, sym, subst}
use Rattle.oc_node.specs.NodeView.{NodeView}
use Rattle.oc_server.proofs.hearing.hearer_of.Goals as goal

pub ids_of-requires : goal.ids_of-requires
ids_of-requires g c = subst (λ (n : NodeView). length c.args.config.now.addresses ≤ n.control.nodes) (sym c.node-3.ensures) c.requires
