use Rattle.std.proofs.Common.{◌≡◌, length}
use Rattle.oc_base.specs.Words.{words}
use Rattle.oc_base.proofs.words.first_word.Given as goal

abbrev pub invariant-spaces : goal.invariant-spaces
invariant-spaces l = words l.rest ≡ words l.line

abbrev pub decreases-spaces : goal.decreases-spaces
decreases-spaces l = length l.rest
