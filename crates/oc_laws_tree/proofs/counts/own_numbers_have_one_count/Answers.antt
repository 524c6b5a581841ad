use Rattle.oc_laws_world.proofs.Passing.{always}
use Rattle.oc_laws_tree.specs.Clients.{HaveOneCount, ZeroCountsNone, OwnNumbersAreBelow}
use Rattle.oc_laws_tree.proofs.CountsKept.{counts_throughout, one_count, zero_counts_none, own_numbers_below}
use Rattle.oc_laws_tree.proofs.counts.own_numbers_have_one_count.Goals as goal

pub returns-clause-one_count : goal.returns-clause-one_count
returns-clause-one_count c = always HaveOneCount (counts_throughout HaveOneCount one_count)

pub returns-clause-zero : goal.returns-clause-zero
returns-clause-zero c = always ZeroCountsNone (counts_throughout ZeroCountsNone zero_counts_none)

pub returns-clause-below : goal.returns-clause-below
returns-clause-below c = always OwnNumbersAreBelow (counts_throughout OwnNumbersAreBelow own_numbers_below)
