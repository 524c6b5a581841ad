use Rattle.std.proofs.Common.{◌∙◌}
use Rattle.oc_place.proofs.Among.{any_is_has}
use Rattle.oc_place.proofs.membership.is_among.Goals as goal

pub returns : goal.returns
returns c = c.contains.ensures.value ∙ any_is_has c.args.ids.now c.args.id
