use Rattle.oc_calm.proofs.MemberOrder.{leader_first}
use Rattle.oc_calm.proofs.RoundRuns.{roll_ups}
use Rattle.oc_calm.proofs.healing.first_member.Goals as goal

pub loop-node-init : goal.loop-node-init
loop-node-init g c =
    let w = g.C.Cluster.world c.args.cluster.now in
    record { same = leader_first w c.args.up.now c.requires; nodes = roll_ups w c.args.up.now c.requires }
