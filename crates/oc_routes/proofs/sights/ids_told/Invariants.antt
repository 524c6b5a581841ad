-- The ids so far and those to come are all.
use Rattle.std.proofs.Common.{◌≡◌, ◌+◌, ◌-◌, ◌++◌, filter}
use Rattle.oc_routes.specs.Sights.{ids_from, ids_with, is_told, sight_of}
use Rattle.oc_routes.proofs.sights.ids_told.Given as goal

abbrev pub invariant-loop-before : goal.invariant-loop-before
invariant-loop-before l =
    l.ids.items ++ filter (is_told (sight_of l.seen)) (ids_from (l.before + 1) (l.seen.ids - l.before)) ≡ ids_with (is_told (sight_of l.seen)) (sight_of l.seen)
