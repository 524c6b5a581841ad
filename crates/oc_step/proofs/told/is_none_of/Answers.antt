use Rattle.std.proofs.Common.{ap, not, ◌∙◌}
use Rattle.oc_place.proofs.Among.{any_is_has}
use Rattle.oc_step.proofs.told.is_none_of.Goals as goal

pub returns : goal.returns
returns c = ap not (c.contains.ensures.value ∙ any_is_has c.args.ids.now c.args.id)
