use Rattle.std.proofs.Common.{◌≡◌, ◌-◌, suc, sym, ◌∙◌, arith}
use Rattle.oc_calm.specs.CalmRuns.{greatest_up}
use Rattle.oc_calm.proofs.MemberOrder.{greatest_here, greatest_lower, greatest_none}
use Rattle.oc_calm.proofs.joining.last_up.Goals as goal

pub down-preserved : goal.down-preserved
down-preserved g c =
    let w = g.C.Cluster.world c.args.cluster.now in
    let n = c.down.number in
    let more : n ≡ suc (n - 1) = omega (arith, c.down-test.true) in
    record {
      same = greatest_lower w c.args.leader n (n - 1) (greatest_up w c.args.leader c.args.most) more (sym c.is_up.ensures ∙ c.if-is_up.false) c.down.invariant.same;
      few = omega (arith, c.down.invariant.few);
    }

pub returns-then-is_up-clause-greatest : goal.returns-then-is_up-clause-greatest
returns-then-is_up-clause-greatest g c =
    let w = g.C.Cluster.world c.args.cluster.now in
    let n = c.down.number in
    let more : n ≡ suc (n - 1) = omega (arith, c.down-test.true) in
    greatest_here w c.args.leader n (n - 1) (greatest_up w c.args.leader c.args.most) more (sym c.is_up.ensures ∙ c.if-is_up.true) c.down.invariant.same

pub returns-clause-greatest : goal.returns-clause-greatest
returns-clause-greatest g c =
    let w = g.C.Cluster.world c.args.cluster.now in
    greatest_none w c.args.leader c.down.number (greatest_up w c.args.leader c.args.most) (omega (arith, c.down-test.false)) c.down.invariant.same
