use Rattle.std.proofs.Common.{◌≡◌, ◌+◌, ◌*◌, ◌-◌, suc, ap, sym, ◌∙◌, arith}
use Rattle.oc_model.specs.Runs.{and_then, rests}
use Rattle.oc_model.specs.Adopting.{is_acting}
use Rattle.oc_calm.specs.CalmRuns.{rise_left, rise_once_run, rise_run}
use Rattle.oc_calm.proofs.Each.{left_as, up_node_stays}
use Rattle.oc_calm.proofs.HealRuns.{rise_starts, rise_goes, rise_over, rise_rests}
use Rattle.oc_calm.proofs.Ways.{all_left, less_left, none_left, cut_in_rest, even_on_err}
use Rattle.oc_calm.proofs.joining.rise.Goals as goal

pub rising-init : goal.rising-init
rising-init g c =
    let w = g.C.Cluster.world c.args.cluster.now in
    let m = c.args.leader in
    let n = 2 * m - 0 in
    record {
      left = left_as (rise_left n m) (rise_starts m n w (omega arith)) (all_left (rise_run m) w c.args.acts.now);
      node = c.requires;
    }

pub returns-then-is_acting-clause-ok : goal.returns-then-is_acting-clause-ok
returns-then-is_acting-clause-ok g c =
    let v = g.C.Cluster.world c.rising.cluster in
    let m = c.args.leader in
    let n = 2 * m - c.rising.counter in
    none_left (left_as rests (rise_rests n m v (sym (c.is_acting.ensures ∙ ap is_acting c.mode.ensures.mode) ∙ c.if-is_acting.true)) c.rising.invariant.left)

pub returns-in_err-rise_once-clause-err : goal.returns-in_err-rise_once-clause-err
returns-in_err-rise_once-clause-err g c =
    let v = g.C.Cluster.world c.rising.cluster in
    let m = c.args.leader in
    let k = 2 * m - c.rising.counter in
    let n = 2 * m - (c.rising.counter + 1) in
    let more : k ≡ suc n = omega (arith, c.rising-test.true) in
    even_on_err c.from_residual.result
    (cut_in_rest (rise_left n m) (left_as (λ z. and_then (rise_once_run m z) (rise_left n m)) (rise_goes k n m v more) c.rising.invariant.left) c.in_err-rise_once.ensures.err)

pub rising-preserved : goal.rising-preserved
rising-preserved g c =
    let v = g.C.Cluster.world c.rising.cluster in
    let m = c.args.leader in
    let k = 2 * m - c.rising.counter in
    let n = 2 * m - (c.rising.counter + 1) in
    let more : k ≡ suc n = omega (arith, c.rising-test.true) in
    record {
      left = less_left (left_as (λ z. and_then (rise_once_run m z) (rise_left n m)) (rise_goes k n m v more) c.rising.invariant.left) c.in_ok-rise_once.ensures.ok;
      node = up_node_stays m c.in_ok-rise_once.ensures.ok c.rising.invariant.node;
    }

pub returns-clause-ok : goal.returns-clause-ok
returns-clause-ok g c =
    let v = g.C.Cluster.world c.rising.cluster in
    let m = c.args.leader in
    let n = 2 * m - c.rising.counter in
    none_left (left_as rests (rise_over n m v (omega arith)) c.rising.invariant.left)
