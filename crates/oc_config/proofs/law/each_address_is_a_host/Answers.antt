use Rattle.oc_config.proofs.AddressBytes.{address_bytes}
use Rattle.oc_config.proofs.law.each_address_is_a_host.Goals as goal

pub returns : goal.returns
returns c = address_bytes
