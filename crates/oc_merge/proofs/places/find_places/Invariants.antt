use Rattle.std.proofs.Common.{◌≤◌, length}
use Rattle.oc_merge.specs.Heads.{ArePlacesFrom}
use Rattle.oc_merge.proofs.places.find_places.Given as goal

-- the places from this line on
abbrev pub invariant-lines : goal.invariant-lines
invariant-lines l = record { within : l.place ≤ length l.lines; places : ArePlacesFrom l.nodes l.lines l.place l.first.items l.next.items }

abbrev pub decreases-lines : goal.decreases-lines
decreases-lines l = l.place
