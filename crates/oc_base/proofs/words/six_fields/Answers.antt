use Rattle.oc_base.proofs.FieldRuns.{six_of}
use Rattle.oc_base.proofs.words.six_fields.Goals as goal

pub returns : goal.returns
returns c = six_of _ _ _ _ _ _ c.in_ok-a.ensures.found c.in_ok-b.ensures.found c.in_ok-c.ensures
