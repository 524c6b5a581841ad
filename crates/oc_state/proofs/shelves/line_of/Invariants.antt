use Rattle.std.proofs.Common.{◌≡◌, drop}
use Rattle.oc_base.specs.Shelves.{line_of}
use Rattle.oc_state.proofs.shelves.line_of.Given as goal

abbrev pub invariant-loop-line : goal.invariant-loop-line
invariant-loop-line l = line_of l.group (drop l.line-index l.shelf) ≡ line_of l.group l.shelf
