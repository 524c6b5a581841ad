use Rattle.std.proofs.Common.{nat_cmp, sym, ap, ◌∙◌, arith}
use Rattle.std.specs.Cmp.Lexicographic.{slice_cmp}
use Rattle.oc_base.proofs.Finding.{free_before, free_last, found_here}
use Rattle.oc_base.proofs.named.look_up.Goals as goal

pub returns-in-Less : goal.returns-in-Less
returns-in-Less g c = free_before g.T.Named.name_of c.args.name.now c.args.items.now c.loop-at.at c.index-items-at.result c.requires c.loop-at-test.true c.index-items-at.is (ap (slice_cmp nat_cmp c.args.name.now) (sym c.name.ensures) ∙ sym c.in-Less.ensures) c.loop-at.invariant

pub returns-in-Equal : goal.returns-in-Equal
returns-in-Equal g c = found_here g.T.Named.name_of c.args.name.now c.args.items.now c.loop-at.at c.index-items-at.result c.loop-at-test.true c.index-items-at.is (ap (slice_cmp nat_cmp c.args.name.now) (sym c.name.ensures) ∙ sym c.in-Equal.ensures) c.loop-at.invariant

pub returns : goal.returns
returns g c = free_last g.T.Named.name_of c.args.name.now c.args.items.now c.loop-at.at (omega arith) c.loop-at.invariant
