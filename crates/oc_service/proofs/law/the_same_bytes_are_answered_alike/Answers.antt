use Rattle.std.proofs.Common.{refl}
use Rattle.oc_deeds.specs.Sends.{sends}
use Rattle.oc_service.proofs.Alike.{early_alike, held_cut, same_alike}
use Rattle.oc_service.proofs.law.the_same_bytes_are_answered_alike.Goals as goal

pub returns : goal.returns
unfolding sends
returns c =
    let verdicts = c.a_request_has_one_verdict.ensures in
    record {
      lent = held_cut;
      same = same_alike verdicts.one;
      early = early_alike verdicts.one verdicts.cut;
      waits = λ probing d count now median started s r. refl;
      examples = record {
        held_of_two = refl;
        line = refl;
        alike = record { lines_are = refl; given_are = λ d. refl; node_is = refl };
      };
    }
