use Rattle.oc_laws_world.proofs.SentOn.{redirect_right}
use Rattle.oc_laws_world.proofs.redirects.only_chain_nodes_redirect.Goals as goal

pub returns-clause-client : goal.returns-clause-client
returns-clause-client c = λ n i k e. (redirect_right n i k e).client

pub returns-clause-chain : goal.returns-clause-chain
returns-clause-chain c = λ n i k e. (redirect_right n i k e).chain

pub returns-clause-listed : goal.returns-clause-listed
returns-clause-listed c = λ n i k e. (redirect_right n i k e).listed

pub returns-clause-past : goal.returns-clause-past
returns-clause-past c = λ n i k e. (redirect_right n i k e).past
