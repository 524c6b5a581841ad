use Rattle.std.proofs.Common.{rules}
use Rattle.oc_record.proofs.decoding.row_with.Goals as goal

pub returns-clause-some : goal.returns-clause-some
returns-clause-some c = rw c.row_of.ensures (search rules)

pub returns-clause-none : goal.returns-clause-none
returns-clause-none c = rw c.row_of.ensures (search rules)
