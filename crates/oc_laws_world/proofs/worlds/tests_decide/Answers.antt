use Rattle.oc_model.proofs.Able.{able_tested, placed_tested}
use Rattle.oc_model.proofs.Ready.{ready_tested}
use Rattle.oc_model.proofs.Settled.{settled_tested, kept_new_tested}
use Rattle.oc_laws_world.proofs.worlds.tests_decide.Goals as goal

pub returns-clause-ready : goal.returns-clause-ready
returns-clause-ready c = ready_tested

pub returns-clause-able : goal.returns-clause-able
returns-clause-able c = able_tested

pub returns-clause-placed : goal.returns-clause-placed
returns-clause-placed c = placed_tested

pub returns-clause-settled : goal.returns-clause-settled
returns-clause-settled c = settled_tested

pub returns-clause-kept_new : goal.returns-clause-kept_new
returns-clause-kept_new c = kept_new_tested
