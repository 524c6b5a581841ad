-- Worked examples compute.
use Rattle.std.proofs.Common.{refl}
use Rattle.std.specs.Fmt.{digits}
use Rattle.httparse.specs.Grammar.{trim_ows}
use Rattle.oc_select.proofs.law.examples_compute.Goals as goal

pub returns-clause-tags : goal.returns-clause-tags
unfolding digits trim_ows
returns-clause-tags c = record { tag = refl; other = refl; weak = refl; weak_is_not_strong = refl; any = refl; any_with_more = refl; empty_members = refl; commas_alone = refl; no_quotes = refl; comma_within = refl; quote_missing = refl; two_fields = refl; one_of_two_wrong = refl }

pub returns-clause-ranges : goal.returns-clause-ranges
unfolding digits trim_ows
returns-clause-ranges c = record { between = refl; capitals = refl; last = refl; backwards = refl; two_ranges = refl; space = refl; no_number = refl; three = refl; twenty_digits = refl; two_fields = refl; part = refl; past_the_end = refl; at_the_end = refl; last_more = refl; last_none = refl; last_of_nothing = refl }

pub returns-clause-orders : goal.returns-clause-orders
unfolding digits trim_ows
returns-clause-orders c = record { range = refl; head_has_none = refl; start_has_none = refl; file_has_no_start = refl; match_first = refl; then_none_match = refl; same_tag = refl; another_tag = refl; past = refl }

pub returns-clause-texts : goal.returns-clause-texts
unfolding digits trim_ows
returns-clause-texts c = record { tag = refl; file_tag = refl; part = refl; open_part = refl; none = refl }

pub returns-clause-types : goal.returns-clause-types
unfolding digits trim_ows
returns-clause-types c = record { html = refl; last_ending = refl; directory = refl; unknown = refl; nothing = refl }
