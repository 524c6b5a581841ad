use Rattle.oc_laws_world.proofs.Passing.{always}
use Rattle.oc_laws_world.proofs.RanksKept.{ranks_throughout, no_rank_worsens_throughout}
use Rattle.oc_model.specs.declared.event.Event.{Event}
use Rattle.oc_laws_world.specs.Ranks.{NoRankWorsens, InTreeAreRanked, ToldRanksHold, ParentsPrecede}
use Rattle.oc_laws_world.proofs.ranks.ranks_hold.Goals as goal

pub returns-clause-never_worse : goal.returns-clause-never_worse
returns-clause-never_worse c = always (λ w. (e : Event) → NoRankWorsens w e) no_rank_worsens_throughout

pub returns-clause-placed : goal.returns-clause-placed
returns-clause-placed c = always InTreeAreRanked (ranks_throughout InTreeAreRanked (λ old w holds. holds.placed))

pub returns-clause-told : goal.returns-clause-told
returns-clause-told c = always ToldRanksHold (ranks_throughout ToldRanksHold (λ old w holds. holds.told))

pub returns-clause-parents : goal.returns-clause-parents
returns-clause-parents c = always ParentsPrecede (ranks_throughout ParentsPrecede (λ old w holds. holds.parents))
