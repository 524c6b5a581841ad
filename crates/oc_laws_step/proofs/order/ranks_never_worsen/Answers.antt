use Rattle.oc_laws_step.proofs.RankOrder.{take_rank_no_worse}
use Rattle.oc_laws_step.proofs.order.ranks_never_worsen.Goals as goal

pub returns : goal.returns
returns c = take_rank_no_worse
