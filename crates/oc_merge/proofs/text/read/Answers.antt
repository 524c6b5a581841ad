use Rattle.std.specs.Str.Lines.{lines}
use Rattle.oc_merge.specs.Reading.{is_ended}
use Rattle.oc_merge.proofs.Lawful.{AreRecords-from_lines}
use Rattle.oc_merge.proofs.text.read.Goals as goal

pub returns-clause-lawful : goal.returns-clause-lawful
returns-clause-lawful c = AreRecords-from_lines (is_ended c.args.bytes.now) (lines c.args.bytes.now) c.read_lines.result c.read_lines.ensures
