use Rattle.oc_model.proofs.Clocks.{clocks-next_world}
use Rattle.oc_model.proofs.GoesOn.{ids-next_world, net-next_world, limits-next_world}
use Rattle.oc_laws_world.proofs.worlds.events_go_on.Goals as goal

pub returns-clause-ids : goal.returns-clause-ids
returns-clause-ids c = ids-next_world

pub returns-clause-net : goal.returns-clause-net
returns-clause-net c = net-next_world

pub returns-clause-limits : goal.returns-clause-limits
returns-clause-limits c = limits-next_world

pub returns-clause-clocks : goal.returns-clause-clocks
returns-clause-clocks c = clocks-next_world
