use Rattle.oc_policy.proofs.Pads.{padded_is}
use Rattle.oc_config.specs.declared.key_name.TheConstants.{MAX_KEY_BYTES}
use Rattle.oc_config.proofs.key_name.KeyName.padded.Goals as goal

pub invariant_of-result : goal.invariant_of-result
invariant_of-result c = padded_is MAX_KEY_BYTES c.args.key.now c.put_in_front.new.bytes c.requires c.put_in_front.ensures
