use Rattle.std.proofs.Common.{refl}
use Rattle.std.specs.Fmt.{digits}
use Rattle.httparse.proofs.OnLiterals.{httparse_on_literals}
use Rattle.percent_encoding.proofs.OnLiterals.{percent_encoding_on_literals}
use Rattle.oc_http.proofs.law.examples_compute.Goals as goal

pub returns-clause-refused : goal.returns-clause-refused
unfolding httparse_on_literals digits
returns-clause-refused c = record { none = refl; old = refl; most_fields = refl; too_many_fields = refl; no_host = refl; two_hosts = refl; coding = refl; both = refl; no_number = refl; empty = refl; too_great = refl; twice = refl; no_length = refl; most = refl; too_long = refl }

pub returns-clause-replies : goal.returns-clause-replies
unfolding httparse_on_literals digits
returns-clause-replies c = record { none = refl; chunked = refl; refused = refl; strange = refl; twice = refl; both = refl; long = refl; too_long = refl }

pub returns-clause-parts : goal.returns-clause-parts
unfolding httparse_on_literals digits
returns-clause-parts c = record { path = refl; query = refl; no_query = refl; absolute = refl; authority = refl; other_scheme = refl; zeros = refl; greatest = refl; closes_last = refl; closes_not = refl; waits = refl; waits_not = refl; chunked = refl; no_mac = refl; mac = refl; two_macs = refl; token = refl; selectors = refl; no_body = refl; body = refl; group_length = refl; no_group_length = refl; two_group_lengths = refl }

pub returns-clause-texts : goal.returns-clause-texts
unfolding httparse_on_literals digits
returns-clause-texts c = record { request = refl; request_with_mac = refl; get = refl; probe = refl; follow = refl; redirect = refl; content = refl; no_content = refl; method = refl; denied = refl; elsewhere = refl; unknown = refl; past_the_end = refl; to_head = refl; page = refl; message = refl; whole = refl; part = refl; not_modified = refl; changed = refl; kept = refl }

pub returns-clause-paths : goal.returns-clause-paths
unfolding httparse_on_literals percent_encoding_on_literals digits
returns-clause-paths c = record { plain = refl; either_case = refl; once = refl; empty = refl; alone = refl; one_digit = refl; no_digit = refl; no_first_digit = refl; two_marks = refl; nul = refl; slash = refl; small_slash = refl; written = refl; head = refl; no_head = refl; other = refl }
