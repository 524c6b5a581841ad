-- The contents of a node's request for its reader.
use Rattle.std.proofs.Common.{◌≡◌, ℕ, ◌^◌, ◌<◌, ◌≤◌, true, false, ◌&&◌, List, [], ◌∷◌, ◌++◌, length, Option, Some, None, Result, Ok, refl, sym, ap, ◌∙◌, arith, length-append}
use Rattle.std.specs.Prelude.{codes, decimal, nat_lt, IfSome}
use Rattle.std.specs.Char.{is_ascii_digit}
use Rattle.std.specs.List.{list_all, AllByRecursion, flat_map}
use Rattle.std.specs.Str.{IsUtf8}
use Rattle.std.specs.Str.Parse.{digits_value}
use Rattle.std.proofs.lemmas.Bool.{and_from, lt-ltb}
use Rattle.std.proofs.lemmas.Bool.Decides.{nat_tests}
use Rattle.std.proofs.lemmas.Fmt.{decimal_is_IsNumeral, digits_decimal, digits_value-decimal, length-decimal-le}
use Rattle.std.proofs.lemmas.List.{append_assoc, append-nil}
use Rattle.std.proofs.lemmas.List.Elements.{All-from_recursion}
use lib.Utf8.{encode}
use Rattle.httparse.specs.Grammar.{RequestHead, IsRequestHead, print_request, Field, IsField, print_field, crlf, is_token, is_uri_byte, is_value_byte, is_ows}
use Rattle.httparse.proofs.OnLiterals.{httparse_on_literals}
use Rattle.percent_encoding.proofs.OnLiterals.{percent_encoding_on_literals}
use Rattle.oc_base.specs.declared.limits.TheConstants.{MAX_BODY_BYTES, MAX_HEAD_BYTES}
use Rattle.oc_http.specs.Answers.{written_head, AnswersRequest, IsDecided}
use Rattle.oc_http.specs.Escapes.{decoded}
use Rattle.oc_http.specs.Paths.{message_path}
use Rattle.oc_http.specs.Fields.{Named, named, is_length}
use Rattle.oc_http.specs.Requests.{read_request, read_request_parts}
use Rattle.oc_http.specs.Taking.{SaysRequest}
use Rattle.oc_http.specs.Writing.{IsHost, is_host_byte, IsMac, is_mac_digit, line_end, mac_line, type_line, request_head_with, request_with}
use Rattle.oc_http.specs.declared.fault.HttpFault.{HttpFault}
use Rattle.oc_http.specs.declared.head.Head.{Head}
use Rattle.oc_http.proofs.Forms.{request_form}
use Rattle.oc_base.proofs.Numerals.{numerals}
use Rattle.oc_http.proofs.OneAnswer.{one_answer}
use Rattle.oc_http.proofs.Tests.{list_all-weaker, AllPass-from_test, IsToken-from_test, trim_ows-visible}

-- a field as it is written: a space before the value
abbrev written_field : List ℕ → List ℕ → Field
written_field name value = record { name = name; raw = 32 ∷ value; end = crlf }

-- the MAC field, where there is one
abbrev mac_fields : Option (List ℕ) → List Field
mac_fields None = []
mac_fields (Some mac) = written_field (codes "Overcast-Mac") mac ∷ []

-- the head with this MAC, this host and this length
abbrev head_with : Option (List ℕ) → List ℕ → List ℕ → RequestHead
head_with mac host digits = record {
  blank = [];
  method = codes "POST";
  target = codes "/!overcast";
  minor = 1;
  line_end = crlf;
  fields = written_field (codes "Host") host ∷ written_field (codes "Content-Type") (codes "application/octet-stream") ∷ written_field (codes "Content-Length") digits ∷ mac_fields mac;
  last = crlf;
}

-- the name and value of the MAC field
abbrev mac_named : Option (List ℕ) → List Named
mac_named None = []
mac_named (Some mac) = (codes "Overcast-Mac", mac) ∷ []

-- the names and values of all fields
abbrev fields_with : Option (List ℕ) → List ℕ → List ℕ → List Named
fields_with mac host digits =
    (codes "Host", host) ∷ (codes "Content-Type", codes "application/octet-stream") ∷ (codes "Content-Length", digits) ∷ mac_named mac

-- the written text, with the host and the digits between texts
shape_of_text : (host digits end kind length mac : List ℕ) → (((host ++ end) ++ kind) ++ ((length ++ digits) ++ end)) ++ (mac ++ end) ≡ host ++ ((end ++ (kind ++ length)) ++ (digits ++ (end ++ (mac ++ end))))
shape_of_text host digits end kind length mac = simp append_assoc

-- the text that the grammar prints, in the same parts
shape_of_print : (host digits end middle mac : List ℕ) → (((host ++ end) ++ (middle ++ ((digits ++ end) ++ mac))) ++ end) ++ [] ≡ host ++ ((end ++ middle) ++ (digits ++ (end ++ (mac ++ end))))
shape_of_print host digits end middle mac = simp (append_assoc, append-nil)

-- the texts
abbrev opening : List ℕ
opening = codes "POST /!overcast HTTP/1.1\r\nHost: "

abbrev length_name : List ℕ
length_name = codes "Content-Length: "

abbrev parts_of_text : Option (List ℕ) → List ℕ → List ℕ → List ℕ
parts_of_text mac host digits = opening ++ (host ++ ((line_end ++ (type_line ++ length_name)) ++ (digits ++ (line_end ++ (mac_line mac ++ line_end)))))

written-parts : (mac : Option (List ℕ)) (host : List ℕ) (count : ℕ) → request_head_with mac host count ≡ parts_of_text mac host (decimal count)
written-parts mac host count = ap (λ (x : List ℕ). opening ++ x) (shape_of_text host (decimal count) line_end type_line length_name (mac_line mac))

-- the line of the MAC
mac_printed : (mac : Option (List ℕ)) → flat_map print_field (mac_fields mac) ≡ mac_line mac
unfolding httparse_on_literals
mac_printed None = refl
mac_printed (Some mac) = append-nil (mac_line (Some mac))

printed-parts : (mac : Option (List ℕ)) (host digits : List ℕ) → print_request (head_with mac host digits) ++ [] ≡ parts_of_text mac host digits
unfolding httparse_on_literals
printed-parts mac host digits =
    ap (λ (x : List ℕ). opening ++ x) (shape_of_print host digits line_end (type_line ++ length_name) (flat_map print_field (mac_fields mac)))
    ∙ ap (λ (x : List ℕ). opening ++ (host ++ ((line_end ++ (type_line ++ length_name)) ++ (digits ++ (line_end ++ (x ++ line_end)))))) (mac_printed mac)

-- the text of the head is the text that is written
text_with : (mac : Option (List ℕ)) (host : List ℕ) (count : ℕ) → request_head_with mac host count ≡ print_request (head_with mac host (decimal count)) ++ []
text_with mac host count = written-parts mac host count ∙ sym (printed-parts mac host (decimal count))

host_value : (b : ℕ) → is_host_byte b ≡ true → is_value_byte b ≡ true
host_value b passes = grind (arith, nat_tests)

host_visible : (b : ℕ) → is_host_byte b ≡ true → is_ows b ≡ false
host_visible b passes = grind (arith, nat_tests)

mac_value : (b : ℕ) → is_mac_digit b ≡ true → is_value_byte b ≡ true
mac_value b passes = grind (arith, nat_tests)

mac_visible : (b : ℕ) → is_mac_digit b ≡ true → is_ows b ≡ false
mac_visible b passes = grind (arith, nat_tests)

digit_value_byte : (b : ℕ) → is_ascii_digit b ≡ true → is_value_byte b ≡ true
digit_value_byte b passes = grind (arith, nat_tests)

digit_visible : (b : ℕ) → is_ascii_digit b ≡ true → is_ows b ≡ false
digit_visible b passes = grind (arith, nat_tests)

-- a field with a name and a value of their classes is one
good_field : (name value : List ℕ) → is_token name ≡ true → list_all is_value_byte value ≡ true → IsField (written_field name value)
good_field name value token passes = record {
  name = IsToken-from_test name token;
  raw = AllPass-from_test is_value_byte (32 ∷ value) (and_from (is_value_byte 32) (list_all is_value_byte value) refl passes);
}

-- the target is text
target_text : IsUtf8 (codes "/!overcast")
unfolding encode
target_text = (codes "/!overcast", (refl, refl))

-- the field of a MAC is of its class
good_mac : (mac : Option (List ℕ)) → IfSome mac IsMac → AllByRecursion IsField (mac_fields mac)
unfolding httparse_on_literals
good_mac None good = tt
good_mac (Some mac) good = (good_field (codes "Overcast-Mac") mac refl (list_all-weaker is_mac_digit is_value_byte mac_value mac good.digits), tt)

-- each part is of its class
good_head : (mac : Option (List ℕ)) (host digits : List ℕ) → IfSome mac IsMac → list_all is_host_byte host ≡ true → list_all is_ascii_digit digits ≡ true → IsRequestHead (head_with mac host digits)
unfolding httparse_on_literals
good_head mac host digits good hosts numbers =
    let fields : AllByRecursion IsField (head_with mac host digits).fields = (
      good_field (codes "Host") host refl (list_all-weaker is_host_byte is_value_byte host_value host hosts),
      (
        good_field (codes "Content-Type") (codes "application/octet-stream") refl refl,
        (
          good_field (codes "Content-Length") digits refl (list_all-weaker is_ascii_digit is_value_byte digit_value_byte digits numbers),
          good_mac mac good,
        ),
      ),
    ) in
    record {
      method = IsToken-from_test (codes "POST") refl;
      target = (omega arith, AllPass-from_test is_uri_byte (codes "/!overcast") refl);
      target_text = target_text;
      minor = omega arith;
      fields = All-from_recursion IsField (head_with mac host digits).fields fields;
    }

-- the value of the MAC is found
found_mac : (mac : Option (List ℕ)) → IfSome mac IsMac → named (mac_fields mac) ≡ mac_named mac
unfolding httparse_on_literals
found_mac None good = refl
found_mac (Some mac) good = ap (λ (value : List ℕ). (codes "Overcast-Mac", value) ∷ []) (trim_ows-visible is_mac_digit mac_visible mac good.digits)

-- the fields that are found are those that were written
found_fields : (mac : Option (List ℕ)) (host digits : List ℕ) → IfSome mac IsMac → list_all is_host_byte host ≡ true → list_all is_ascii_digit digits ≡ true → named (head_with mac host digits).fields ≡ fields_with mac host digits
unfolding httparse_on_literals
found_fields mac host digits good hosts numbers =
    let first = trim_ows-visible is_host_byte host_visible host hosts in
    let third = trim_ows-visible is_ascii_digit digit_visible digits numbers in
    let last = found_mac mac good in
    λ i. (codes "Host", first i) ∷ (codes "Content-Type", codes "application/octet-stream") ∷ (codes "Content-Length", third i) ∷ last i

-- the path of messages has no escape
plain_path : decoded message_path ≡ Some message_path
unfolding percent_encoding_on_literals
plain_path = refl

-- the fields give this head
said_with : (mac : Option (List ℕ)) (host digits : List ℕ) (count : ℕ) → is_length digits ≡ true → digits_value 10 digits ≡ count → nat_lt MAX_BODY_BYTES count ≡ false → read_request_parts (codes "POST") (codes "/!overcast") 1 (fields_with mac host digits) ≡ Ok (written_head mac count)
unfolding httparse_on_literals
said_with None host digits count good value few = rw (good, value, few, plain_path) refl
said_with (Some mac) host digits count good value few = rw (good, value, few, plain_path) refl

-- digits of a length that is read
good_digits : (count : ℕ) → count ≤ MAX_BODY_BYTES → is_length (decimal count) ≡ true
good_digits count few =
    let fits : count < 2 ^ 64 = omega (arith, few) in
    let some : nat_lt 0 (length (decimal count)) ≡ true = lt-ltb _ _ (decimal_is_IsNumeral count fits).0.0 in
    let value : digits_value 10 (decimal count) < 2 ^ 64 = omega (arith, digits_value-decimal numerals count fits) in
    and_from (nat_lt 0 (length (decimal count)) && list_all is_ascii_digit (decimal count)) _ (and_from _ _ some (digits_decimal numerals count fits)) (lt-ltb _ _ value)

-- the line of a MAC is short
short_mac : (mac : Option (List ℕ)) → IfSome mac IsMac → length (mac_line mac) ≤ 80
short_mac None good = omega arith
short_mac (Some mac) good = omega (arith, good.long, length-append (codes "Overcast-Mac: " ++ mac) line_end, length-append (codes "Overcast-Mac: ") mac)

-- the head is no longer than a head may be
short_head : (mac : Option (List ℕ)) (host : List ℕ) (count : ℕ) → IfSome mac IsMac → IsHost host → count ≤ MAX_BODY_BYTES → length (request_head_with mac host count) ≤ MAX_HEAD_BYTES
short_head mac host count made good few =
    let fits : count < 2 ^ 64 = omega (arith, few) in
    let digits = length-decimal-le 20 count (omega arith) (omega arith) fits in
    let behind = line_end ++ (mac_line mac ++ line_end) in
    let middle = line_end ++ (type_line ++ length_name) in
    omega (arith, short_mac mac made, length-append (mac_line mac) line_end, ap length (written-parts mac host count), length-append opening (host ++ (middle ++ (decimal count ++ behind))), length-append host (middle ++ (decimal count ++ behind)), length-append middle (decimal count ++ behind), length-append (decimal count) behind, good.most, digits)

-- the head that is written has these contents
pub written_says : (mac : Option (List ℕ)) (host : List ℕ) (count : ℕ) → IfSome mac IsMac → IsHost host → count ≤ MAX_BODY_BYTES → SaysRequest (request_head_with mac host count) (written_head mac count)
written_says mac host count made good few =
    let fits : count < 2 ^ 64 = omega (arith, few) in
    let numbers = digits_decimal numerals count fits in
    let no_more : nat_lt MAX_BODY_BYTES count ≡ false = grind (arith, nat_tests) in
    record {
      head = head_with mac host (decimal count);
      whole = (good_head mac host (decimal count) made good.bytes numbers, text_with mac host count);
      fits = short_head mac host count made good few;
      answer_is =
          ap (λ (fields : List Named). read_request_parts (codes "POST") (codes "/!overcast") 1 fields) (found_fields mac host (decimal count) made good.bytes numbers)
          ∙ said_with mac host (decimal count) count (good_digits count few) (digits_value-decimal numerals count fits) no_more;
    }

-- the answer to the written text is nothing else
pub written_read : (mac : Option (List ℕ)) (host body rest : List ℕ) (answer : Result Head HttpFault) → IfSome mac IsMac → IsHost host → length body ≤ MAX_BODY_BYTES → AnswersRequest (request_with mac host body) rest answer → IsDecided answer → (answer ≡ Ok (written_head mac (length body))) × (rest ≡ body)
written_read mac host body rest answer made good few answered own =
    one_answer read_request request_form (request_with mac host body) rest body answer (Ok (written_head mac (length body))) answered (request_head_with mac host (length body), refl, written_says mac host (length body) made good few) own tt
