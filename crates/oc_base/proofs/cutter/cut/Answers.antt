use Rattle.std.proofs.Common.{◌==◌, sym}
use Rattle.oc_base.proofs.Cuts.{split_whole, split_at_first}
use Rattle.oc_base.proofs.cutter.cut.Goals as goal

pub returns-in-None-clause-last : goal.returns-in-None-clause-last
returns-in-None-clause-last c = split_whole (λ b. b == c.args.separator) c.args.bytes.now (sym c.in-None.ensures)

pub returns-in-Some-clause-first : goal.returns-in-Some-clause-first
returns-in-Some-clause-first c = split_at_first (λ b. b == c.args.separator) c.args.bytes.now c.in-Some.at (sym c.in-Some.ensures)
