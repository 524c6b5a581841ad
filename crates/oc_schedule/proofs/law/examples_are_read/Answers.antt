use Rattle.std.proofs.Common.{refl}
use Rattle.hex.proofs.OnLiterals.{hex_on_literals}
use Rattle.oc_schedule.proofs.law.examples_are_read.Goals as goal

pub returns : goal.returns
unfolding hex_on_literals
returns c = record {
  empty_schedule = refl;
  first_path = refl;
  repeated_delivery = refl;
  publish_elsewhere = refl;
  sealed_group = refl;
  skipped_lines = refl;
  spaces_and_returns = refl;
  areas = refl;
  chunk = refl;
  empty = refl;
  no_header = refl;
  chain_too_long = refl;
  chunk_too_great = refl;
  chunk_without_number = refl;
  lone_return = refl;
  late_area = refl;
  message_nought = refl;
  leading_zero = refl;
  too_many_words = refl;
  first_field_first = refl;
  no_group = refl;
  odd_digits = refl;
}
