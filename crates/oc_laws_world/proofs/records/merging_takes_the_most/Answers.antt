use Rattle.std.proofs.Common.{[], refl}
use Rattle.oc_laws_world.specs.Merges.{entries_of}
use Rattle.oc_laws_world.proofs.Takings.{take_stays, taken_within, taken_merge, full_most, full_one, order_taking, order_more, order_one}
use Rattle.oc_laws_world.proofs.records.merging_takes_the_most.Goals as goal

pub returns-clause-stays : goal.returns-clause-stays
returns-clause-stays c = take_stays

pub returns-clause-front : goal.returns-clause-front
returns-clause-front c = λ r taken is. taken_within r [] taken (λ x. (entries_of x r.lines, refl)) is

pub returns-clause-merge : goal.returns-clause-merge
returns-clause-merge c = λ r taken is. taken_merge r [] taken is

pub returns-clause-most : goal.returns-clause-most
returns-clause-most c = full_most

pub returns-clause-one : goal.returns-clause-one
returns-clause-one c = full_one

pub returns-clause-ordered : goal.returns-clause-ordered
returns-clause-ordered c = λ r taken is. order_taking r [] taken is

pub returns-clause-one_order : goal.returns-clause-one_order
returns-clause-one_order c = λ r a b first full_a second full_b. order_one r [] a b first full_a second full_b

pub returns-clause-one_more : goal.returns-clause-one_more
returns-clause-one_more c = λ r taken place l ordered first. order_more r [] taken place l ordered first
