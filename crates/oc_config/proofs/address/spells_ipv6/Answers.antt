use Rattle.std.proofs.Common.{◌∙◌}
use Rattle.oc_config.proofs.Ipv6.{spells_is}
use Rattle.oc_config.proofs.address.spells_ipv6.Goals as goal

pub returns : goal.returns
returns c = c.is_ok.ensures.value ∙ spells_is c.args.host.now c.parse_ascii.result c.parse_ascii.ensures
