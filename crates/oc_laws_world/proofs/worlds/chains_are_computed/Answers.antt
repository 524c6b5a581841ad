use Rattle.oc_model.proofs.Chains.{chain_unique, chain_to-finds, chain_to-true}
use Rattle.oc_laws_world.proofs.worlds.chains_are_computed.Goals as goal

pub returns-clause-computed : goal.returns-clause-computed
returns-clause-computed c = λ w x r chain. (chain_to-true w x r chain, chain_to-finds w x r chain)

pub returns-clause-one : goal.returns-clause-one
returns-clause-one c = chain_unique
