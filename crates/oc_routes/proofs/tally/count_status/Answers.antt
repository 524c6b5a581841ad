use Rattle.std.proofs.Common.{◌∙◌, set, slice_index_or, ap, arith}
use Rattle.std.proofs.lemmas.List.{get_or_default}
use Rattle.std.proofs.lemmas.List.Edits.{map_over_more}
use Rattle.oc_routes.specs.Tallies.{counted_in}
use Rattle.oc_routes.specs.declared.tally.StatusCount.{StatusCount}
use Rattle.oc_routes.proofs.tally.count_status.Goals as goal

pub loop-row-preserved : goal.loop-row-preserved
loop-row-preserved c =
    let rows = c.loop-row.replied in
    let i = c.loop-row.row-index in
    let row : StatusCount = slice_index_or rows i (record { status = 0; count = 0 }) in
    ap (λ (new : StatusCount). set rows i new) c.counted_in.ensures
    ∙ map_over_more (counted_in c.args.status) c.args.replied.now rows i row c.loop-row-test.true c.loop-row.invariant (get_or_default rows i _ row (omega arith))
