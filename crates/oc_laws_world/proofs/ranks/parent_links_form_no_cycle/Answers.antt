use Rattle.oc_model.specs.Chains.{HasNoCycle}
use Rattle.oc_laws_world.proofs.Passing.{always}
use Rattle.oc_laws_world.proofs.RanksKept.{ranks_throughout, no_cycle}
use Rattle.oc_laws_world.proofs.ranks.parent_links_form_no_cycle.Goals as goal

pub returns : goal.returns
returns c = always HasNoCycle (ranks_throughout HasNoCycle (λ old w holds. no_cycle w holds.parents))
