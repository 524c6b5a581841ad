use Rattle.std.proofs.Common.{arith}
use Rattle.oc_server.proofs.server.Server.hears_back.Goals as goal

pub comes_back-requires-clause-ids : goal.comes_back-requires-clause-ids
comes_back-requires-clause-ids g c = omega (arith, c.hearer_of-hearer.ensures.ids, c.hearer_of-hearer.ensures.nodes, c.requires.set.placed.count)

pub hearer_of-hearer-requires : goal.hearer_of-hearer-requires
hearer_of-hearer-requires g c = c.requires.set.placed.count
