use Rattle.std.proofs.Common.{arith}
use Rattle.oc_place.proofs.Causes.{from_all}
use Rattle.oc_place.proofs.law.the_first_cause_refuses.Goals as goal

pub returns-clause-refused : goal.returns-clause-refused
returns-clause-refused c h x r why e = let f = (from_all h x r).first why e in (f.0, λ other cause. f.1 other (omega arith) cause)

pub returns-clause-adopted : goal.returns-clause-adopted
returns-clause-adopted c h x r why e = (from_all h x r).none e why (omega arith)
