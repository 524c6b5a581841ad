use Rattle.std.proofs.Common.{◌∙◌, arith}
use Rattle.oc_calm.proofs.MemberOrder.{member_greatest}
use Rattle.oc_calm.proofs.joining.member_before.Goals as goal

pub returns-clause-member : goal.returns-clause-member
returns-clause-member g c =
    c.last_up.ensures.greatest
    ∙ member_greatest (g.C.Cluster.world c.args.cluster.now) c.chain.result c.args.leader c.args.node c.min.result c.chain.ensures c.requires.ids c.requires.node (omega (arith, c.min.ensures, c.node.view_is))
