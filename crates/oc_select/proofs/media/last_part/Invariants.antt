-- the last part of the rest is that of all
use Rattle.std.proofs.Common.{◌≡◌, length}
use Rattle.oc_select.specs.Media.{last_part}
use Rattle.oc_select.proofs.media.last_part.Given as goal

abbrev pub invariant-parts : goal.invariant-parts
invariant-parts l = last_part l.separator l.last ≡ last_part l.separator l.bytes

abbrev pub decreases-parts : goal.decreases-parts
decreases-parts l = length l.last
