use Rattle.std.proofs.Common.{◌≡◌, drop}
use Rattle.std.specs.Prelude.{filter}
use Rattle.oc_model.specs.Choice.{is_suitable, nearest}
use Rattle.oc_place.specs.Best.{with_rest}
use Rattle.oc_place.proofs.choosing.choose.Given as goal

-- the best so far and the nearest of the rest are the nearest of all
abbrev pub invariant-loop-candidate : goal.invariant-loop-candidate
invariant-loop-candidate l =
    with_rest l.best (nearest (filter (is_suitable l.direct) (drop l.candidate-index l.list))) ≡ nearest (filter (is_suitable l.direct) l.list)
