use Rattle.std.proofs.Common.{◌≡◌, ◌+◌, ◌-◌, ◌++◌, ℕ, List, filter, sym, ap, subst, ◌∙◌, arith}
use Rattle.std.specs.List.{range_with_len}
use Rattle.oc_model.specs.World.{ids, is_up, up_ids}
use Rattle.oc_calm.proofs.RoundRuns.{nodes_count, number_node, roll_takes, roll_passes, roll_found}
use Rattle.oc_calm.proofs.rounds.roll.Goals as goal
use Rattle.oc_calm.proofs.rounds.roll.Goals.{then-is_up+in_ok-push, else-is_up}

pub is_up-requires : goal.is_up-requires
is_up-requires g c = number_node (g.C.Cluster.world c.args.cluster.now) c.nodes-number-end.result c.loop-number.number c.nodes-number-end.ensures.ids (omega arith) (omega arith)

pub loop-number-preserved : goal.loop-number-preserved
loop-number-preserved g c =
    let w = g.C.Cluster.world c.args.cluster.now in
    let k = c.loop-number.number in
    let end = c.nodes-number-end.result + 1 in
    let out = c.loop-number.up.items in
    let rest : List ℕ = filter (is_up w) (range_with_len (k + 1) (end - (k + 1))) in
    elim c.if-is_up.branch [
      | then-is_up+in_ok-push found ↦
          ap (λ (xs : List ℕ). xs ++ rest) (ap (λ v. v.items) found.up-is ∙ found.in_ok-push.ensures.items)
          ∙ roll_takes (is_up w) k end out (up_ids w) (omega arith) (sym c.is_up.ensures ∙ found.if-is_up.true) c.loop-number.invariant
      | else-is_up other ↦
          ap (λ (xs : List ℕ). xs ++ rest) (ap (λ v. v.items) other.up-is)
          ∙ roll_passes (is_up w) k end out (up_ids w) (omega arith) (sym c.is_up.ensures ∙ other.if-is_up.false) c.loop-number.invariant
    ]

pub returns : goal.returns
returns g c =
    let w = g.C.Cluster.world c.args.cluster.now in
    let n = c.nodes-number-end.result in
    record {
      ids = subst (λ (m : ℕ). ids w ≡ range_with_len 1 m) (nodes_count w n c.nodes-number-end.ensures.ids) c.nodes-number-end.ensures.ids;
      up = roll_found (is_up w) c.loop-number.number (n + 1) c.loop-number.up.items (up_ids w) (omega arith) c.loop-number.invariant;
    }
