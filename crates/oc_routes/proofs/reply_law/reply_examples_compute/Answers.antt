use Rattle.std.proofs.Common.{refl}
use Rattle.std.specs.Fmt.{digits}
use Rattle.httparse.specs.Grammar.{trim_ows}
use Rattle.oc_base.specs.Reading.{within_at}
use Rattle.oc_chunked.specs.Texts.{chunks_written}
use Rattle.oc_wire.specs.FieldReading.{rejoin_at}
use Rattle.oc_wire.specs.MessageReading.{body_at, decoded}
use Rattle.oc_routes.proofs.reply_law.reply_examples_compute.Goals as goal

pub returns-clause-judged : goal.returns-clause-judged
unfolding within_at rejoin_at body_at decoded
returns-clause-judged c = record { waits = refl; ended = refl; failed = refl; whole = refl; more_behind = refl; whole_at_its_end = refl; thousandth = refl; permits = refl; permitted = refl; refused_at_its_head = refl; sealed_with_a_body = refl; refused_at_the_last = refl; head_refused = refl; follows = refl; follows_known = refl; here = refl; message = refl; mac_without_a_key = refl; no_mac = refl; no_mac_of_no_message = refl; path_before_mac = refl; part_before_mac = refl; publish_needs_none = refl; nothing_waits = refl; nothing_ended = refl; nothing_failed = refl }

pub returns-clause-hinted : goal.returns-clause-hinted
returns-clause-hinted c = record { nothing = refl; known = refl; of_length = refl; first_of = refl; greatest = refl; too_great = refl; here_first = refl; refused_with_here = refl; refused = refl; refused_of_a_head = refl; before_the_rules = refl; denied = refl; behind_the_path = refl; not_of_a_post = refl; not_of_a_denied_post = refl; refused_of_a_report = refl; not_of_a_report = refl; not_of_a_probe = refl }

pub returns-clause-conditions : goal.returns-clause-conditions
returns-clause-conditions c = record { met = refl; shorter = refl; longer = refl; of_a_seal = refl; none_said = refl; absent = refl; absent_and_longer = refl; elsewhere = refl }

pub returns-clause-pieces : goal.returns-clause-pieces
unfolding digits chunks_written
returns-clause-pieces c = record { plain = refl; plain_is_whole = refl; chunked = refl; none_chunked = refl; none_chunked_is_whole = refl; none_plain = refl; told_longer = refl; told_longer_goes_on = refl; told_behind_the_group = refl; owed_behind = refl }

pub returns-clause-waiting : goal.returns-clause-waiting
returns-clause-waiting c = record { held = refl; not_held = refl; gives = refl; waits = refl; waits_for_a_group = refl; too_long = refl; sealed_shorter = refl; sealed_whole = refl; follower = refl; follower_of_a_sealed_group = refl; follower_behind = refl; follower_sent_away = refl; known = refl; unknown = refl; told = refl; here = refl; here_without_a_group = refl; once = refl; early = refl; grown = refl; sealed = refl; timed_out = refl; time_left = refl }

pub returns-clause-shown : goal.returns-clause-shown
unfolding digits
returns-clause-shown c = record { plain = refl; told = refl; told_to_a_follower = refl; told_and_sealed = refl; told_and_not_held = refl; told_before = refl; known = refl; known_to_a_follower = refl; unknown = refl; here = refl; not_here = refl; sent = refl; nowhere = refl; nowhere_to_a_follower = refl; nowhere_and_not_here = refl; sent_sealed = refl; sent_sealed_here = refl; sent_told = refl; sent_known = refl; past_told = refl; past_here = refl; sent_following = refl; reported = refl; message = refl; nothing_back = refl; published = refl }

pub returns-clause-selected : goal.returns-clause-selected
unfolding digits trim_ows
returns-clause-selected c = record { whole = refl; known = refl; known_open = refl; known_before = refl; told = refl; told_and_not_held = refl; told_and_sealed = refl; not_held = refl; past = refl; followed = refl; changed = refl; part = refl; part_of_the_length_told = refl; none = refl; takes_no_input = refl; takes_its_input = refl; start_counts = refl; start_alone = refl; no_start = refl; told_and_nowhere = refl; part_told = refl }
