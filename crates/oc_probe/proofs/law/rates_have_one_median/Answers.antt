use Rattle.oc_probe.proofs.Medians.{one_at_place}
use Rattle.oc_probe.proofs.law.rates_have_one_median.Goals as goal

pub returns : goal.returns
returns c = λ place rates m n p q. one_at_place place rates m n p q
