use Rattle.oc_laws_tree.proofs.Refused.{heal_refused, heal_unchanged, heal_leads, heal_does, heal_tells}
use Rattle.oc_laws_tree.proofs.refusals.unable_worlds_refuse_heal.Goals as goal

pub returns-clause-refused : goal.returns-clause-refused
returns-clause-refused c = heal_refused

pub returns-clause-unchanged : goal.returns-clause-unchanged
returns-clause-unchanged c = heal_unchanged

pub returns-clause-leads : goal.returns-clause-leads
returns-clause-leads c = heal_leads

pub returns-clause-does : goal.returns-clause-does
returns-clause-does c = heal_does

pub returns-clause-tells : goal.returns-clause-tells
returns-clause-tells c = heal_tells
