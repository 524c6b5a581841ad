use Rattle.std.proofs.Common.{◌≡◌, ◌∷◌, ◌++◌, take, length}
use Rattle.std.specs.List.{flat_map}
use Rattle.oc_wire.specs.Spelling.{line_bytes}
use Rattle.oc_wire.proofs.encoding.put_have.Given as goal

abbrev pub invariant-loop-line : goal.invariant-loop-line
invariant-loop-line l = l.out.items ≡ l.fn.out.items ++ (length l.fn.have ∷ flat_map line_bytes (take l.line-index l.lines))
