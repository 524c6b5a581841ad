-- The lines so far and those to come are the whole block.
use Rattle.std.proofs.Common.{◌≡◌, ◌++◌, drop}
use Rattle.oc_replay.specs.Lines.{held_text}
use Rattle.oc_replay.proofs.lines.put_held.Given as goal

abbrev pub invariant-loop-line : goal.invariant-loop-line
invariant-loop-line l = l.out.items ++ held_text (drop l.line-index l.shelf) ≡ l.fn.out.items ++ held_text l.shelf
