-- The items so far and those to come are all.
use Rattle.std.proofs.Common.{◌≡◌, ◌++◌, drop, codes}
use Rattle.std.specs.List.{flat_map}
use Rattle.oc_routes.specs.Json.{separated}
use Rattle.oc_routes.specs.Sights.{sight_of}
use Rattle.oc_routes.proofs.arrays.put_separated.Given as goal

abbrev pub invariant-loop-item : goal.invariant-loop-item
invariant-loop-item g l =
    l.out.items ++ flat_map (λ y. codes "," ++ g.I.ArrayItem.text (sight_of l.seen) y) (drop l.item-index l.rest) ≡ l.fn.out.items ++ separated (g.I.ArrayItem.text (sight_of l.seen)) l.items
