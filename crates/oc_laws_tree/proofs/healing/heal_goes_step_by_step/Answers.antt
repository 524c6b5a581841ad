use Rattle.oc_laws_tree.specs.Healing.{WhereAble, DoesStepOne, DoesStepTwo, DoesStepThree, DoesStepFour, HealTakes}
use Rattle.oc_laws_tree.proofs.Heals.{heal_step_one, heal_step_two, heal_step_three, heal_step_four, heal_takes}
use Rattle.oc_laws_tree.proofs.Reached.{within_limits}
use Rattle.oc_laws_tree.proofs.healing.heal_goes_step_by_step.Goals as goal

pub returns-clause-one : goal.returns-clause-one
returns-clause-one c = within_limits (WhereAble DoesStepOne) heal_step_one

pub returns-clause-two : goal.returns-clause-two
returns-clause-two c = within_limits (WhereAble DoesStepTwo) heal_step_two

pub returns-clause-three : goal.returns-clause-three
returns-clause-three c = within_limits (WhereAble DoesStepThree) heal_step_three

pub returns-clause-four : goal.returns-clause-four
returns-clause-four c = within_limits (WhereAble DoesStepFour) heal_step_four

pub returns-clause-number : goal.returns-clause-number
returns-clause-number c = within_limits (WhereAble HealTakes) heal_takes
