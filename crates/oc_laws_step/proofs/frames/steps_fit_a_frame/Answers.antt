use Rattle.oc_laws_step.proofs.Soundness.{fits}
use Rattle.oc_laws_step.proofs.frames.steps_fit_a_frame.Goals as goal

pub returns : goal.returns
returns c = fits
