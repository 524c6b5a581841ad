use Rattle.std.proofs.Common.{◌≡◌, drop}
use Rattle.oc_model.specs.Shelves.{first_behind}
use Rattle.oc_state.proofs.shelves.first_behind.Given as goal

abbrev pub invariant-loop-line : goal.invariant-loop-line
invariant-loop-line l = first_behind l.have (drop l.line-index l.shelf) ≡ first_behind l.have l.shelf
