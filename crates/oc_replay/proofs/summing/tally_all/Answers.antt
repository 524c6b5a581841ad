use Rattle.std.proofs.Common.{◌≡◌, ◌∙◌, ◌+◌, length, ap, sym, subst, arith}
use Rattle.std.proofs.lemmas.List.FromFn.{length-range_with_len}
use Rattle.oc_model.specs.World.{ids}
use Rattle.oc_replay.specs.Summary.{FitsWith}
use Rattle.oc_replay.proofs.Counts.{IsCounted, counted_fits, counted_more}
use Rattle.oc_replay.proofs.summing.tally_all.Goals as goal

pub tally_at-requires-clause-node : goal.tally_at-requires-clause-node
tally_at-requires-clause-node g c =
    let count : length (ids (g.T.Stage.world c.args.stage.now)) ≡ c.args.nodes = ap length c.requires.ids ∙ length-range_with_len 1 c.args.nodes in
    (omega arith, omega (arith, count))

-- the counts with one more node fit
pub with-total-requires : goal.with-total-requires
with-total-requires g c =
    subst (FitsWith c.loop-id.total) (sym c.in_ok-tally_at.ensures)
    (counted_fits (g.T.Stage.world c.args.stage.now) c.loop-id.id c.args.nodes c.loop-id.total c.requires.limits c.requires.few (omega arith) c.loop-id.invariant)

-- the node is counted
pub loop-id-preserved : goal.loop-id-preserved
loop-id-preserved g c =
    subst (IsCounted (g.T.Stage.world c.args.stage.now) (c.loop-id.id + 1) c.args.nodes) (sym c.with-total.ensures)
    (counted_more (g.T.Stage.world c.args.stage.now) c.loop-id.id c.args.nodes c.loop-id.total c.in_ok-tally_at.field-0 (omega arith) c.in_ok-tally_at.ensures c.loop-id.invariant)
