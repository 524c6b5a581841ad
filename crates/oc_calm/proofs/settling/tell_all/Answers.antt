use Rattle.std.proofs.Common.{◌≡◌, ◌+◌, ◌-◌, suc, sym, ◌∙◌, arith}
use Rattle.oc_model.specs.Runs.{and_then, rests}
use Rattle.oc_calm.specs.Played.{check_in_run}
use Rattle.oc_calm.specs.CalmRuns.{telling_left, telling_run}
use Rattle.oc_calm.proofs.Each.{left_as, up_node_stays}
use Rattle.oc_calm.proofs.TellingRuns.{telling_starts, telling_goes, telling_rests, telling_over}
use Rattle.oc_calm.proofs.Ways.{all_left, less_left, none_left, cut_in_rest, even_on_err}
use Rattle.oc_calm.proofs.settling.tell_all.Goals as goal

pub telling-init : goal.telling-init
telling-init g c =
    let w = g.C.Cluster.world c.args.cluster.now in
    let x = c.args.node in
    let most = c.waiting-most.result in
    let all : most - 0 ≡ most = omega arith in
    record {
      left = left_as (telling_left (most - 0) x) (telling_starts x (most - 0) w (all ∙ c.waiting-most.ensures)) (all_left (telling_run x) w c.args.acts.now);
      node = c.requires;
    }

pub returns-then-waiting-eq0-clause-ok : goal.returns-then-waiting-eq0-clause-ok
returns-then-waiting-eq0-clause-ok g c =
    let v = g.C.Cluster.world c.telling.cluster in
    let n = c.waiting-most.result - c.telling.counter in
    none_left (left_as rests (telling_rests n c.args.node v (sym c.waiting.ensures ∙ c.if-waiting-eq0.true)) c.telling.invariant.left)

pub returns-in_err-check_in-clause-err : goal.returns-in_err-check_in-clause-err
returns-in_err-check_in-clause-err g c =
    let v = g.C.Cluster.world c.telling.cluster in
    let x = c.args.node in
    let n = c.waiting-most.result - (c.telling.counter + 1) in
    let more : c.waiting-most.result - c.telling.counter ≡ suc n = omega (arith, c.telling-test.true) in
    even_on_err c.from_residual.result
    (cut_in_rest (telling_left n x)
    (left_as (λ z. and_then (check_in_run x z) (telling_left n x)) (telling_goes (c.waiting-most.result - c.telling.counter) n x v more (λ e. c.if-waiting-eq0.false (c.waiting.ensures ∙ e))) c.telling.invariant.left)
    c.in_err-check_in.ensures.err)

pub telling-preserved : goal.telling-preserved
telling-preserved g c =
    let v = g.C.Cluster.world c.telling.cluster in
    let x = c.args.node in
    let n = c.waiting-most.result - (c.telling.counter + 1) in
    let more : c.waiting-most.result - c.telling.counter ≡ suc n = omega (arith, c.telling-test.true) in
    record {
      left =
          less_left
          (left_as (λ z. and_then (check_in_run x z) (telling_left n x)) (telling_goes (c.waiting-most.result - c.telling.counter) n x v more (λ e. c.if-waiting-eq0.false (c.waiting.ensures ∙ e))) c.telling.invariant.left)
          c.in_ok-check_in.ensures.ok;
      node = up_node_stays x c.in_ok-check_in.ensures.ok c.telling.invariant.node;
    }

pub returns-clause-ok : goal.returns-clause-ok
returns-clause-ok g c =
    let v = g.C.Cluster.world c.telling.cluster in
    let n = c.waiting-most.result - c.telling.counter in
    none_left (left_as rests (telling_over n c.args.node v (omega arith)) c.telling.invariant.left)
