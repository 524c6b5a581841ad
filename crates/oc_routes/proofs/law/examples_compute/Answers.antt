use Rattle.std.proofs.Common.{refl}
use Rattle.std.specs.Fmt.{digits}
use Rattle.hex.proofs.OnLiterals.{hex_on_literals}
use Rattle.oc_base.specs.Reading.{within_at}
use Rattle.oc_wire.specs.FieldReading.{rejoin_at}
use Rattle.oc_wire.specs.MessageReading.{body_at, decoded}
use Rattle.oc_routes.proofs.law.examples_compute.Goals as goal

pub returns-clause-routed : goal.returns-clause-routed
returns-clause-routed c = record { client = refl; head_alone = refl; follows = refl; version_1_0_follows_nothing = refl; nearly_follow = refl; first_start = refl; publish = refl; seal = refl; seal_of_a_get = refl; condition = refl; condition_of_a_seal = refl; greatest_condition = refl; condition_too_great = refl; no_condition = refl; condition_of_a_get = refl; condition_of_a_message = refl; condition_before_rules = refl; message = refl; probe = refl; status = refl; metrics = refl; page = refl; named_status = refl; named_metrics = refl; named_page = refl; own = refl; own_below = refl; own_is_not_posted = refl; nearly_own = refl; broken_path = refl; method_before_path = refl; status_is_not_posted = refl; no_report = refl; query_of_a_report = refl; report_denied = refl; pages_alone = refl; page_alone = refl; report_of_an_area = refl; token = refl; token_of_a_report = refl; two_tokens = refl; another_token = refl; another_scheme = refl; no_token = refl; no_token_of_a_report = refl; no_token_would_do = refl; put = refl; percent = refl; message_is_not_read = refl; probe_is_not_posted = refl; no_number = refl; leading_zero = refl; first_start_counts = refl; start_too_great = refl; area_too_great = refl; denied = refl; head_is_denied = refl; query_before_rules = refl; newsroom = refl; news = refl; post_news = refl }

pub returns-clause-answered : goal.returns-clause-answered
unfolding digits hex_on_literals within_at rejoin_at body_at decoded
returns-clause-answered c = record { message = refl; message_to_another = refl; no_message = refl; seal_with_a_body = refl; recv_line = refl; publish_line = refl; client_line = refl; denied_line = refl; unauthorized_line = refl; at_line = refl; mac_line = refl; at_reply = refl; at_reply_of_a_byte = refl; mac_reply = refl; denied_reply = refl; unauthorized_reply = refl; method_reply = refl; head_reply = refl; kept_reply = refl; no_reply = refl; reply = refl; others = refl; redirected = refl; follower_redirected = refl; redirected_of_a_sealed_group = refl; past_its_end = refl; head_past_its_end = refl; at_its_end = refl; past_the_end_of_an_open_group = refl; not_the_source = refl; no_address_of_the_source = refl; no_group_to_seal = refl; served = refl; head_alone = refl; followed = refl; sealed = refl; last_of_its_connection = refl; not_held = refl; nothing_back = refl; message_with_a_mac = refl; nothing_back_needs_none = refl; status = refl; metrics_head = refl; page_followed = refl; probe_head = refl; selected_whole = refl; selected_part = refl; selected_part_of_an_open_group = refl; selected_none = refl; known = refl; known_to_a_head = refl; refused_condition = refl; refused_condition_of_a_head = refl; part_sent_on = refl; film = refl; not_last = refl; thousandth = refl; of_version_1_0 = refl; closing = refl; nothing_to_continue = refl; kept_without_a_body = refl; closed_by_a_body = refl; closed_by_the_last = refl }
