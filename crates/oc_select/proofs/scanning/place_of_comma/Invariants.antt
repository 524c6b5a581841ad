-- the first comma of the rest is that of all
use Rattle.std.proofs.Common.{◌≡◌, false, drop}
use Rattle.oc_select.specs.Scanning.{comma_from}
use Rattle.oc_select.proofs.scanning.place_of_comma.Given as goal

abbrev pub invariant-loop-at : goal.invariant-loop-at
invariant-loop-at l = comma_from l.at l.quoted (drop l.at l.list) ≡ comma_from 0 false l.list
