use Rattle.oc_policy.specs.declared.token.TheConstants.{MAX_TOKEN_BYTES}
use Rattle.oc_policy.proofs.Pads.{padded_is}
use Rattle.oc_policy.proofs.token.Token.padded.Goals as goal

pub invariant_of-result : goal.invariant_of-result
invariant_of-result c = padded_is MAX_TOKEN_BYTES c.args.token.now c.put_in_front.new.bytes c.requires c.put_in_front.ensures
