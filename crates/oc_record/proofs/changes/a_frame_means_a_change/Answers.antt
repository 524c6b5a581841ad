use Rattle.oc_record.proofs.Frames.{writes_exactly, measured_fair}
use Rattle.oc_record.proofs.changes.a_frame_means_a_change.Goals as goal

pub returns : goal.returns
returns c = λ n i fair sound calm. writes_exactly n i sound calm (measured_fair n.control.nodes n.control.me i fair)
