use Rattle.oc_base.proofs.Pads.{padded_is}
use Rattle.oc_base.proofs.group_name.GroupName.padded.Goals as goal

pub invariant_of-result : goal.invariant_of-result
invariant_of-result c = padded_is c.args.name.now c.put_in_front.new.bytes c.requires c.put_in_front.ensures
