use Rattle.oc_base.proofs.FieldRuns.{four_of}
use Rattle.oc_base.proofs.words.four_fields.Goals as goal

pub returns : goal.returns
returns c = four_of _ _ _ _ c.in_ok-a.ensures.found c.in_ok-b.ensures
