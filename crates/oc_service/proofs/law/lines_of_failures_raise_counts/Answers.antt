use Rattle.std.proofs.Common.{refl}
use Rattle.std.proofs.lemmas.Bool.{false≢true}
use Rattle.oc_deeds.specs.Sends.{sends}
use Rattle.oc_service.proofs.BorneOut.{rise_for_lines}
use Rattle.oc_service.proofs.law.lines_of_failures_raise_counts.Goals as goal

pub returns : goal.returns
unfolding sends
returns c = record {
  counts = rise_for_lines;
  examples = record {
    reads = refl;
    read = (tt, (tt, (tt, (refl, (tt, tt)))));
    sent = (tt, (tt, (refl, tt)));
    ended = λ h. false≢true h.1.1.1.0;
    gave_way = λ h. false≢true h.1.1.0;
    late = λ h. false≢true h.1.1.0;
  };
}
