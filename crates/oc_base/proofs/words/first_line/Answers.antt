use Rattle.std.proofs.Common.{rules}
use Rattle.oc_base.proofs.LineCuts.{lines_last, lines_more}
use Rattle.oc_base.proofs.words.first_line.Goals as goal

pub returns-in_default-None-clause-first : goal.returns-in_default-None-clause-first
returns-in_default-None-clause-first c = search (rules, lines_last)

pub returns-in_default-Some-clause-first : goal.returns-in_default-Some-clause-first
returns-in_default-Some-clause-first c = search (rules, lines_more)
