use Rattle.std.proofs.Common.{refl}
use Rattle.std.specs.Fmt.{digits}
use Rattle.oc_deeds.specs.Rereading.{takes_measures}
use Rattle.oc_deeds.specs.Sends.{sends}
use Rattle.oc_deeds.proofs.turn_law.turns_compute.Goals as goal

pub returns : goal.returns
unfolding digits sends takes_measures
returns c = record {
  gives = refl;
  lays_aside = refl;
  breaks = refl;
  no_content = refl;
  failed = refl;
  gave_way = refl;
  not_due = refl;
  grown = refl;
  late = refl;
  first_wait = refl;
  tick_wait = refl;
  work_wait = refl;
  second_wait = refl;
  interval_wait = refl;
  oldest = refl;
  besides = refl;
  neither = refl;
  least = refl;
  next = refl;
  permits = refl;
  waits = refl;
  known = refl;
  known_text = refl;
  other = refl;
  other_text = refl;
  part = refl;
  part_text = refl;
  part_content = refl;
  to_come = refl;
  content_to_come = refl;
  at = refl;
  first_tick = refl;
  no_tick = refl;
  first_recorded = refl;
  same_second = refl;
  next_second = refl;
  quiet_turn = refl;
  taken_over = refl;
  taken_before = refl;
  grown_network = refl;
  other_areas = refl;
  more_told = refl;
  one_header = refl;
  one_area = refl;
  restarts = refl;
  stranger = refl;
  refused = refl;
  unread = refl;
  still = refl;
  cleared = refl;
  again = refl;
}
