use Rattle.std.proofs.Common.{refl}
use Rattle.oc_laws_rest.proofs.News.{new_rests, source_rests, asks_once, same_up}
use Rattle.oc_laws_rest.proofs.law.new_networks_rest.Goals as goal

pub returns-clause-rests : goal.returns-clause-rests
returns-clause-rests c h xs m q r rs header only quiet = new_rests h header xs m only q r rs quiet

pub returns-clause-source : goal.returns-clause-source
returns-clause-source c h xs q rs header only quiet = source_rests h header xs 1 only refl q rs quiet

pub returns-clause-asks : goal.returns-clause-asks
returns-clause-asks c h xs m q r rs x header only quiet up other = asks_once h header xs m only q r rs quiet x up other

pub returns-clause-up : goal.returns-clause-up
returns-clause-up c h xs m q r rs x header only quiet = same_up h header xs m only q r rs quiet x
