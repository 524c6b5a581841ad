use Rattle.std.proofs.Common.{◌≡◌, ◌+◌, drop}
use Rattle.oc_base.specs.Shelves.{held_in_all}
use Rattle.oc_base.proofs.shelf.held_in_all.Given as goal

-- the bytes so far, and those of the groups to come, are all
abbrev pub invariant-loop-line : goal.invariant-loop-line
invariant-loop-line l = l.held + held_in_all (drop l.line-index l.shelf) ≡ held_in_all l.shelf
