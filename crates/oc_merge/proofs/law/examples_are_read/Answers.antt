use Rattle.std.proofs.Common.{refl}
use Rattle.std.specs.Fmt.{digits}
use Rattle.hex.proofs.OnLiterals.{hex_on_literals}
use Rattle.oc_merge.proofs.law.examples_are_read.Goals as goal

pub returns : goal.returns
unfolding digits hex_on_literals
returns c = record {
  start = refl;
  start_with_files = refl;
  files_of_another = refl;
  files_with_spaces = refl;
  files_too_late = refl;
  inputs = refl;
  two_records = refl;
  cut_off_line = refl;
  cut_off_end = refl;
  no_start = refl;
  areas = refl;
  other_areas = refl;
  other_numbers = refl;
  empty = refl;
  only_cut_off = refl;
  no_header = refl;
  no_up = refl;
  second_up = refl;
  other_node = refl;
  never_recorded = refl;
  message_without_bytes = refl;
  message_of_no_bytes = refl;
  message_of_odd_digits = refl;
  message_past_the_nodes = refl;
}
