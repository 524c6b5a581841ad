-- The two forms of heads, and the answer of `httparse` to bytes that end in a line feed.
use Rattle.std.proofs.Common.{◌≡◌, ℕ, ◌*◌, ◌<◌, ◌≤◌, inl, inr, true, List, [], ◌∷◌, ◌++◌, length, refl, sym, ap, ◌∙◌, arith, length-append}
use Rattle.std.specs.Prelude.{All}
use Rattle.std.specs.List.{AllByRecursion, flat_map}
use Rattle.std.proofs.lemmas.List.{append_assoc}
use Rattle.std.proofs.lemmas.List.Elements.{recursion_from_All}
use Rattle.std.proofs.lemmas.Bool.Decides.{nat_tests}
use Rattle.httparse.specs.Ascii.{line_feed, space}
use Rattle.httparse.specs.Grammar.{LineEnd, crlf, lf, print_end, Field, IsField, print_field, print_section, RequestHead, ReadsRequest, print_request, MayBecomeRequest, ResponseHead, ReadsResponse, print_response, is_uri_byte, print_blank, print_version, print_reason}
use Rattle.httparse.specs.Spans.{RequestExceeds, ResponseExceeds}
use Rattle.httparse.proofs.GrammarLemmas.{request_unique, response_unique}
use Rattle.oc_base.specs.declared.limits.TheConstants.{MAX_HEAD_BYTES}
use Rattle.oc_http.specs.Unfinished.{CanBecome}
use Rattle.oc_http.specs.declared.taking.TheConstants.{FIELD_ROOM}
use Rattle.oc_http.proofs.LineEnds.{ended, ends_high}
use Rattle.oc_http.proofs.Heads.{IsForm}

-- the end of a line without its line feed
abbrev pub before_feed : LineEnd → List ℕ
before_feed crlf = 13 ∷ []
before_feed lf = []

pub print_end-ended : (end : LineEnd) → print_end end ≡ ended (before_feed end)
print_end-ended crlf = refl
print_end-ended lf = refl

-- fields and an empty line end in a line feed
section-ended : (front : List ℕ) (fields : List Field) (last : LineEnd) → front ++ print_section fields last ≡ ended (front ++ (flat_map print_field fields ++ before_feed last))
section-ended front fields last =
    ap (λ (end : List ℕ). front ++ (flat_map print_field fields ++ end)) (print_end-ended last)
    ∙ ap (λ (x : List ℕ). front ++ x) (sym (append_assoc (flat_map print_field fields) (before_feed last) (line_feed ∷ [])))
    ∙ sym (append_assoc front (flat_map print_field fields ++ before_feed last) (line_feed ∷ []))

-- a request's head up to its fields
abbrev request_front : RequestHead → List ℕ
request_front h = print_blank h.blank ++ h.method ++ space ∷ h.target ++ space ∷ print_version h.minor ++ print_end h.line_end

abbrev request_line : RequestHead → List ℕ
request_line h = request_front h ++ (flat_map print_field h.fields ++ before_feed h.last)

request-ended : (h : RequestHead) → print_request h ≡ ended (request_line h)
unfolding print_request
request-ended h = section-ended (request_front h) h.fields h.last

-- heads of requests are a form
pub request_form : IsForm ReadsRequest
request_form = record {
  line = request_line;
  front = λ bytes h rest reads. reads.1 ∙ ap (λ (x : List ℕ). x ++ rest) (request-ended h);
  again = λ bytes other h rest behind reads e. (reads.0, e ∙ ap (λ (x : List ℕ). x ++ behind) (sym (request-ended h)));
  unique = request_unique;
}

-- a response's head up to its fields
abbrev response_front : ResponseHead → List ℕ
response_front h = print_blank h.blank ++ print_version h.minor ++ space ∷ h.digits ++ print_reason h.reason ++ print_end h.line_end

abbrev response_line : ResponseHead → List ℕ
response_line h = response_front h ++ (flat_map print_field h.fields ++ before_feed h.last)

response-ended : (h : ResponseHead) → print_response h ≡ ended (response_line h)
unfolding print_response
response-ended h = section-ended (response_front h) h.fields h.last

-- heads of responses are a form
pub response_form : IsForm ReadsResponse
response_form = record {
  line = response_line;
  front = λ bytes h rest reads. reads.1 ∙ ap (λ (x : List ℕ). x ++ rest) (response-ended h);
  again = λ bytes other h rest behind reads e. (reads.0, e ∙ ap (λ (x : List ℕ). x ++ behind) (sym (response-ended h)));
  unique = response_unique;
}

-- a byte of a target is past the line feed
uri_high : (b : ℕ) → is_uri_byte b ≡ true → line_feed < b
uri_high b passes = grind (arith, nat_tests)

uris_high : (bytes : List ℕ) → AllByRecursion (λ b. is_uri_byte b ≡ true) bytes → AllByRecursion (λ b. line_feed < b) bytes
uris_high [] all = tt
uris_high (b ∷ bytes) all = (uri_high b all.0, uris_high bytes all.1)

-- bytes that end in a line feed and may become a request can become one
pub CanBecome-request : (line : List ℕ) → MayBecomeRequest (ended line) → CanBecome ReadsRequest (ended line)
CanBecome-request line (inl found) = found
CanBecome-request line (inr cut) =
    let method = cut.1 in
    let target = cut.2 in
    let high : AllByRecursion (λ b. line_feed < b) (space ∷ target) = (omega arith, uris_high target (recursion_from_All (λ b. is_uri_byte b ≡ true) target cut.4)) in
    absurd (ends_high (print_blank cut.0 ++ method) space target line high (sym cut.5))

-- the end of a line is a byte at least
pub long_end : (end : LineEnd) → 1 ≤ length (print_end end)
long_end crlf = omega arith
long_end lf = omega arith

-- a field takes three bytes at least
long_field : (f : Field) → IsField f → 3 ≤ length (print_field f)
long_field f field =
    let end = long_end f.end in
    omega (arith, field.name.0, length-append f.name (58 ∷ f.raw), length-append (f.name ++ 58 ∷ f.raw) (print_end f.end))

-- the fields of a head take at least three times their number in bytes
pub long_fields : (fields : List Field) → AllByRecursion IsField fields → 3 * length fields ≤ length (flat_map print_field fields)
long_fields [] all = omega arith
long_fields (f ∷ fields) all =
    let first = long_field f all.0 in
    let later = long_fields fields all.1 in
    omega (arith, length-append (print_field f) (flat_map print_field fields))

-- the fields of a head are less than a third of its bytes
pub few_fields : (front : List ℕ) (fields : List Field) (last : LineEnd) → All IsField fields → 3 * length fields < length (front ++ print_section fields last)
few_fields front fields last all =
    let some = long_fields fields (recursion_from_All IsField fields all) in
    let end = long_end last in
    omega (arith, length-append front (print_section fields last), length-append (flat_map print_field fields) (print_end last))

-- bytes as long as a head hold no head with more fields than there is room for
too_few : (bytes front rest text : List ℕ) (count : ℕ) → bytes ≡ front ++ rest → front ++ print_end lf ≡ text ++ [] → 3 * count < length text → FIELD_ROOM < count → length bytes ≤ MAX_HEAD_BYTES → ⊥
too_few bytes front rest text count split whole few over fits =
    omega (arith, ap length split, length-append front rest, ap length whole, length-append front (print_end lf), length-append text [])

pub request_fits : (bytes : List ℕ) (room : ℕ) → FIELD_ROOM ≤ room → length bytes ≤ MAX_HEAD_BYTES → RequestExceeds room bytes → ⊥
unfolding print_request
request_fits bytes room enough fits found =
    let h = found.3 in
    let few : 3 * length h.fields < length (print_request h) = few_fields (request_front h) h.fields h.last found.4.0.fields in
    too_few bytes found.0 found.1 (print_request h) (length h.fields) found.2 found.4.1 few (omega (arith, found.5)) fits

pub response_fits : (bytes : List ℕ) (room : ℕ) → FIELD_ROOM ≤ room → length bytes ≤ MAX_HEAD_BYTES → ResponseExceeds room bytes → ⊥
unfolding print_response
response_fits bytes room enough fits found =
    let h = found.3 in
    let few : 3 * length h.fields < length (print_response h) = few_fields (response_front h) h.fields h.last found.4.0.fields in
    too_few bytes found.0 found.1 (print_response h) (length h.fields) found.2 found.4.1 few (omega (arith, found.5)) fits
