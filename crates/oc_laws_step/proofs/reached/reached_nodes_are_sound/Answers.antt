use Rattle.oc_base.specs.Groups.{shelf}
use Rattle.oc_laws_step.proofs.Soundness.{sound_new, sound_planned, sound_restarted, sound_started}
use Rattle.oc_laws_step.proofs.reached.reached_nodes_are_sound.Goals as goal

pub returns-clause-new : goal.returns-clause-new
returns-clause-new c = sound_new

pub returns-clause-step : goal.returns-clause-step
returns-clause-step c = λ n i sound. sound_planned n.control (shelf n.groups) i sound

pub returns-clause-start : goal.returns-clause-start
returns-clause-start c = sound_restarted

pub returns-clause-recovery : goal.returns-clause-recovery
returns-clause-recovery c = sound_started
