use Rattle.oc_laws_tree.proofs.Refused.{settle_refused, settle_unchanged, settle_does, settle_tells}
use Rattle.oc_laws_tree.proofs.refusals.unready_worlds_refuse_settle.Goals as goal

pub returns-clause-refused : goal.returns-clause-refused
returns-clause-refused c = settle_refused

pub returns-clause-unchanged : goal.returns-clause-unchanged
returns-clause-unchanged c = settle_unchanged

pub returns-clause-does : goal.returns-clause-does
returns-clause-does c = settle_does

pub returns-clause-tells : goal.returns-clause-tells
returns-clause-tells c = settle_tells
