use Rattle.std.proofs.Common.{ap, subst}
use Rattle.oc_calm.specs.Cluster.{HasChain}
use Rattle.oc_model.specs.World.{World}
use Rattle.oc_world.specs.World.{WorldView, processes_of}
use Rattle.oc_world.proofs.Turns.{has_chain}
use Rattle.oc_world.proofs.world.World.chain_length.Goals as goal

pub returns : goal.returns
returns c =
    let s = c.self.inside in
    subst (λ (w : World). HasChain w s.chain) (ap (λ (v : WorldView). v.world) c.self.view_is) (has_chain s.chain s.net.nodes (processes_of s.processes.items) s.net.messages c.self.invariant)
