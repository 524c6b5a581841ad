use Rattle.std.proofs.Common.{inl, refl}
use Rattle.std.proofs.lemmas.Bool.{false≢true}
use Rattle.oc_deeds.proofs.RepliedDeeds.{given_front, given_whole}
use Rattle.oc_deeds.proofs.law.connections_are_given_their_replies.Goals as goal

pub returns : goal.returns
returns c = record {
  front = given_front;
  whole = given_whole;
  examples = record {
    ordered = ((refl, λ chunked. absurd (false≢true chunked)), (tt, (record { phase = refl; works = inl refl }, tt)));
    whole = refl;
    owed = refl;
    other = refl;
    cut = refl;
    owed_then = refl;
    one_after_another = (refl, ((refl, λ chunked. absurd (false≢true chunked)), ((refl, λ chunked. absurd (false≢true chunked)), (tt, (record { phase = refl; works = inl refl }, tt)))));
    all_given = refl;
    all_owed = refl;
    permission = refl;
  };
}
