use Rattle.oc_laws_rest.proofs.Links.{rounds_end}
use Rattle.oc_laws_rest.proofs.law.failures_are_noticed.Goals as goal

pub returns-clause-peers : goal.returns-clause-peers
returns-clause-peers c w r rs quiet = (rounds_end w r rs quiet).peers

pub returns-clause-up : goal.returns-clause-up
returns-clause-up c w r rs x quiet = (rounds_end w r rs quiet).ups x
