use Rattle.oc_config.proofs.Settled.{settled_say}
use Rattle.oc_config.proofs.law.each_node_has_its_table.Goals as goal

pub returns : goal.returns
returns c = settled_say
