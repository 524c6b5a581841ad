use Rattle.std.proofs.Common.{◌≡◌, None, replicate}
use Rattle.oc_config.proofs.nodes.free_places.Given as goal

-- the places so far are empty
abbrev pub invariant-loop : goal.invariant-loop
invariant-loop l = l.places.items ≡ replicate l.counter None
