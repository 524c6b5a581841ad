-- The fields of a head.
use Rattle.std.specs.Prelude.{ℕ, ◌^◌, Bool, true, false, not, ◌&&◌, ◌||◌, ◌==◌, nat_lt, if◌then◌else◌, Option, Some, None, List, [], ◌∷◌, length, map, codes}
use Rattle.std.specs.Char.{is_ascii_digit}
use Rattle.std.specs.List.{list_all, list_any, slice_split}
use Rattle.std.specs.Str.{byte, str_eq_ignore_ascii_case}
use Rattle.std.specs.Str.Parse.{digits_value}
use Rattle.httparse.specs.Grammar.{Field, trim_ows}
use Rattle.httparse.specs.Spans.{name_and_value}
use Rattle.oc_select.specs.declared.selectors.Selectors.{Selectors}
pub use Rattle.oc_select.specs.Values.{is_present, only_of}

-- a field: its name, and its value without the spaces and tabs at both ends
abbrev pub Named : Type 0
Named = List ℕ × List ℕ

-- the fields of a head
abbrev pub named : List Field → List Named
named fields = map name_and_value fields

-- two texts are the same, apart from upper and lower case
abbrev pub is_alike : List ℕ → List ℕ → Bool
is_alike = str_eq_ignore_ascii_case

-- the values of the fields of a name
abbrev pub values : List ℕ → List Named → List (List ℕ)
values name [] = []
values name (field ∷ fields) = if is_alike field.0 name then field.1 ∷ values name fields else values name fields

-- presence of the field more than once
abbrev pub is_repeated : List (List ℕ) → Bool
is_repeated [] = false
is_repeated (value ∷ more) = is_present more

-- the value of the first field
abbrev pub first_of : List (List ℕ) → Option (List ℕ)
first_of [] = None
first_of (value ∷ more) = Some value

-- a single field, whose value is this text in upper or lower case
abbrev pub is_only : List ℕ → List (List ℕ) → Bool
is_only text [] = false
is_only text (value ∷ []) = is_alike value text
is_only text (value ∷ second ∷ more) = false

abbrev pub hosts : List Named → List (List ℕ)
hosts = values (codes "host")

abbrev pub codings : List Named → List (List ℕ)
codings = values (codes "transfer-encoding")

abbrev pub lengths : List Named → List (List ℕ)
lengths = values (codes "content-length")

abbrev pub expectations : List Named → List (List ℕ)
expectations = values (codes "expect")

abbrev pub locations : List Named → List (List ℕ)
locations = values (codes "location")

abbrev pub connections : List Named → List (List ℕ)
connections = values (codes "connection")

abbrev pub authorizations : List Named → List (List ℕ)
authorizations = values (codes "authorization")

abbrev pub macs : List Named → List (List ℕ)
macs = values (codes "overcast-mac")

abbrev pub group_lengths : List Named → List (List ℕ)
group_lengths = values (codes "overcast-length")

-- a Host other than the one that a request has; one of version 1.0 may have none
abbrev pub has_host_fault : ℕ → List (List ℕ) → Bool
has_host_fault minor values = is_repeated values || (minor == 1 && not (is_present values))

-- digits and nothing else, of a number that fits a u64; leading zeros are allowed
abbrev pub is_length : List ℕ → Bool
is_length value = nat_lt 0 (length value) && list_all is_ascii_digit value && nat_lt (digits_value 10 value) (2 ^ 64)

-- a Content-Length that is not just one number
abbrev pub is_unusable : List (List ℕ) → Bool
is_unusable [] = false
is_unusable (value ∷ []) = not (is_length value)
is_unusable (value ∷ second ∷ more) = true

-- the number of the first Content-Length; none where there is no field
abbrev pub length_of : List (List ℕ) → Option ℕ
length_of [] = None
length_of (value ∷ more) = Some (digits_value 10 value)

-- the number of a value that is one
abbrev pub number_in : List ℕ → Option ℕ
number_in value = if is_length value then Some (digits_value 10 value) else None

-- the number of the field, where there is just one and its value is a number
abbrev pub number_of : List (List ℕ) → Option ℕ
number_of [] = None
number_of (value ∷ []) = number_in value
number_of (value ∷ second ∷ more) = None

-- a list at commas with a part `close`
abbrev pub lists_close : List ℕ → Bool
lists_close value = list_any (λ part. is_alike (trim_ows part) (codes "close")) (slice_split (λ b. b == byte ",") value)

-- fields with a Connection field that lists `close`
abbrev pub closes : List Named → Bool
closes fields = list_any lists_close (connections fields)

-- the fields that say on what conditions a content is asked for, and which part of it
abbrev pub selectors_of : List Named → Selectors
selectors_of fields = record {
  if_match = values (codes "if-match") fields;
  if_none_match = values (codes "if-none-match") fields;
  if_modified_since = values (codes "if-modified-since") fields;
  if_unmodified_since = values (codes "if-unmodified-since") fields;
  if_range = values (codes "if-range") fields;
  range = values (codes "range") fields;
}
