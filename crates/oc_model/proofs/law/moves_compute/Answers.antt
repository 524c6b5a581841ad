use Rattle.std.proofs.Common.{refl}
use Rattle.oc_model.proofs.law.moves_compute.Goals as goal

pub returns-clause-crossing_moves : goal.returns-clause-crossing_moves
returns-clause-crossing_moves c = refl

pub returns-clause-stale_ancestors : goal.returns-clause-stale_ancestors
returns-clause-stale_ancestors c = refl

pub returns-clause-stale_ancestors_settled : goal.returns-clause-stale_ancestors_settled
returns-clause-stale_ancestors_settled c = refl

pub returns-clause-reverse_move : goal.returns-clause-reverse_move
returns-clause-reverse_move c = refl

pub returns-clause-stale_lines : goal.returns-clause-stale_lines
returns-clause-stale_lines c = (refl, refl, refl, refl)

pub returns-clause-stale_settles : goal.returns-clause-stale_settles
returns-clause-stale_settles c = (refl, refl)
