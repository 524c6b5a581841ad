use Rattle.std.proofs.Common.{◌≡◌, ◌++◌, take, length}
use Rattle.std.specs.List.{flat_map}
use Rattle.oc_base.specs.Spelling.{two, four}
use Rattle.oc_base.proofs.writing.put_ids.Given as goal

abbrev pub invariant-loop-id : goal.invariant-loop-id
invariant-loop-id l = l.out.items ≡ l.fn.out.items ++ (two (length l.fn.ids) ++ flat_map four (take l.id-index l.ids))
