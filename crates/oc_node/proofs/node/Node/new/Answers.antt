use Rattle.oc_node.proofs.Reaching.{reached_made}
use Rattle.oc_node.proofs.node.Node.new.Goals as goal

pub invariant_of-result : goal.invariant_of-result
invariant_of-result c = (
  c.in_ok-durable.ensures.nodes,
  reached_made c.args.me c.args.nodes c.args.chain c.args.chunk c.args.areas.items c.in_ok-durable.durable.kept c.new-5.result c.none.result c.in_ok-leases.leases.ends c.in_ok-rates.rates.items c.in_ok-counts.counts.items c.requires.header c.requires.me c.in_ok-durable.ensures.kept c.new-5.ensures c.none.ensures c.in_ok-leases.ensures.unset c.in_ok-rates.ensures.items c.in_ok-counts.ensures.items,
)
