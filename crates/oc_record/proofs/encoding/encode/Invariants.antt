use Rattle.std.proofs.Common.{◌≡◌, take}
use Rattle.oc_record.specs.Spelling.{records_bytes}
use Rattle.oc_record.proofs.encoding.encode.Given as goal

abbrev pub invariant-loop-record : goal.invariant-loop-record
invariant-loop-record l = l.out.items ≡ records_bytes (take l.record-index l.list)
