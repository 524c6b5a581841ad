use Rattle.oc_merge.specs.Heads.{IsFirstChoice}
use Rattle.oc_merge.proofs.choosing.first_choice.Given as goal

-- the first line that can be taken, so far as the heads so far tell
abbrev pub invariant-loop-index : goal.invariant-loop-index
invariant-loop-index l = IsFirstChoice l.heads l.index l.chosen
