use Rattle.oc_config.proofs.Stays.{change_keeps}
use Rattle.oc_config.proofs.law.a_change_keeps_the_network.Goals as goal

pub returns : goal.returns
returns c = change_keeps
