use Rattle.std.proofs.Common.{◌≡◌, ◌++◌, take, length}
use Rattle.std.specs.List.{flat_map}
use Rattle.oc_base.specs.Spelling.{two}
use Rattle.oc_wire.specs.Spelling.{child_bytes}
use Rattle.oc_wire.proofs.encoding.put_children.Given as goal

abbrev pub invariant-loop-child : goal.invariant-loop-child
invariant-loop-child l = l.out.items ≡ l.fn.out.items ++ (two (length l.fn.children) ++ flat_map child_bytes (take l.child-index l.children))
