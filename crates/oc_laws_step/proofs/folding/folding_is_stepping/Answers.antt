use Rattle.std.proofs.Common.{◌∙◌, ap}
use Rattle.oc_base.specs.Groups.{shelf}
use Rattle.oc_model.specs.Records.{folded}
use Rattle.oc_model.specs.Step.{piece_of, kept_at, plan}
use Rattle.oc_laws_step.proofs.Steps.{writes}
use Rattle.oc_laws_step.proofs.folding.folding_is_stepping.Goals as goal

pub returns-clause-folds : goal.returns-clause-folds
returns-clause-folds c = λ n i. (writes n.control (shelf n.groups) i).kept

pub returns-clause-no_record : goal.returns-clause-no_record
returns-clause-no_record c = λ n i none. (writes n.control (shelf n.groups) i).kept ∙ ap (folded n.control.kept) none

pub returns-clause-no_content : goal.returns-clause-no_content
returns-clause-no_content c = λ n i none. ap (λ at. kept_at at n.groups (piece_of i) (plan n.control (shelf n.groups) i).seals) none

pub returns-clause-one_file : goal.returns-clause-one_file
returns-clause-one_file c = λ n i. (writes n.control (shelf n.groups) i).one
