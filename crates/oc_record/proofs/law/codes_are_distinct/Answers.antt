use Rattle.oc_record.proofs.law.codes_are_distinct.Goals as goal

pub returns : goal.returns
returns c = c.distinct-answer.ensures.exact.0 c.distinct-answer.ensures.computed
