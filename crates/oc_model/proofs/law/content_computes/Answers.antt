use Rattle.std.proofs.Common.{refl}
use Rattle.oc_model.proofs.law.content_computes.Goals as goal

pub returns-clause-first_path : goal.returns-clause-first_path
returns-clause-first_path c = refl

pub returns-clause-first_path_held : goal.returns-clause-first_path_held
returns-clause-first_path_held c = refl

pub returns-clause-sealed_group : goal.returns-clause-sealed_group
returns-clause-sealed_group c = refl

pub returns-clause-sealed_group_held : goal.returns-clause-sealed_group_held
returns-clause-sealed_group_held c = refl

pub returns-clause-served_counts : goal.returns-clause-served_counts
returns-clause-served_counts c = refl

pub returns-clause-torn_gate : goal.returns-clause-torn_gate
returns-clause-torn_gate c = refl

pub returns-clause-torn_gate_held : goal.returns-clause-torn_gate_held
returns-clause-torn_gate_held c = refl

pub returns-clause-down_and_unknown : goal.returns-clause-down_and_unknown
returns-clause-down_and_unknown c = refl

pub returns-clause-publish_elsewhere : goal.returns-clause-publish_elsewhere
returns-clause-publish_elsewhere c = refl

pub returns-clause-publish_elsewhere_held : goal.returns-clause-publish_elsewhere_held
returns-clause-publish_elsewhere_held c = refl
