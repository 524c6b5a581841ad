-- The items so far and those to come are all.
use Rattle.std.proofs.Common.{◌≡◌, ◌++◌, drop, codes}
use Rattle.std.specs.List.{flat_map}
use Rattle.oc_replay.specs.Bodies.{spaced}
use Rattle.oc_replay.proofs.items.put_spaced.Given as goal

abbrev pub invariant-loop-item : goal.invariant-loop-item
invariant-loop-item g l =
    l.out.items ++ flat_map (λ y. codes " " ++ g.I.ListItem.text y) (drop l.item-index l.rest) ≡ l.fn.out.items ++ spaced g.I.ListItem.text l.items
