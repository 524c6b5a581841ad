use Rattle.std.proofs.Common.{refl}
use Rattle.oc_deeds.proofs.law.examples_compute.Goals as goal

pub returns : goal.returns
returns c = record {
  published_calls = refl;
  published_lines = refl;
  published_bytes = refl;
  published_works = refl;
  noted_lines = refl;
  content_calls = refl;
  content_left = refl;
  content_given = refl;
  kept_calls = refl;
  ending_calls = refl;
  dial_calls = refl;
  dial_nowhere = refl;
  dial_under_way = refl;
  dial_outbox = refl;
  dial_errand = refl;
  dial_over = refl;
}
