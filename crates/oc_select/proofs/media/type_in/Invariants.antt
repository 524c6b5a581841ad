-- the rows that are left give what all give
use Rattle.std.proofs.Common.{◌≡◌, length, map}
use Rattle.oc_select.specs.Media.{type_in}
use Rattle.oc_select.proofs.media.type_in.Given as goal

abbrev pub invariant-loop-rest : goal.invariant-loop-rest
invariant-loop-rest l = type_in (map (λ row. (row.0.now, row.1.now)) l.rest) l.ending ≡ type_in (map (λ row. (row.0.now, row.1.now)) l.rows) l.ending

abbrev pub decreases-loop-rest : goal.decreases-loop-rest
decreases-loop-rest l = length l.rest
