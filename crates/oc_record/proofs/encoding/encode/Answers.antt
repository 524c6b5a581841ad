use Rattle.std.proofs.lemmas.List.Elements.{All-from_recursion}
use Rattle.oc_record.specs.Spelling.{HasSpelling}
use Rattle.oc_record.proofs.encoding.encode.Goals as goal

pub put_record-requires : goal.put_record-requires
put_record-requires c = rw c.record-item.is (All-from_recursion HasSpelling c.args.list.now c.requires c.loop-record.record-index _ c.loop-record-test.true)
