use Rattle.std.proofs.Common.{◌≡◌, ap, subst, ◌∙◌}
use Rattle.oc_calm.specs.Cluster.{is_ack}
use Rattle.oc_model.specs.Runs.{last_body}
use Rattle.oc_model.specs.World.{World}
use Rattle.oc_world.specs.World.{WorldView}
use Rattle.oc_world.proofs.Leases.{acks_end}
use Rattle.oc_world.proofs.world.World.ends_with_ack.Goals as goal

pub returns : goal.returns
returns c = subst (λ (w : World). c.ends_with_ack.result ≡ is_ack (last_body w)) (ap (λ (v : WorldView). v.world) c.self.view_is) (c.ends_with_ack.ensures ∙ acks_end c.self.inside.net.messages)
