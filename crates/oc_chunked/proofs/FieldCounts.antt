-- The number of trailer fields.
use Rattle.std.proofs.Common.{◌≡◌, ◌≢◌, ℕ, ◌≤◌, List, [], length, take, refl, sym, ap, ◌∙◌, arith, length-append}
use Rattle.std.proofs.lemmas.List.{length-map, length-take-le}
use Rattle.httparse.specs.declared.Error.{Error}
use Rattle.httparse.specs.declared.Error.TheVariants as errors
use Rattle.httparse.specs.declared.spans.HeaderSpan.{HeaderSpan}
use Rattle.httparse.specs.Grammar.{lf, print_end, Field, print_section, NeverHasSection}
use Rattle.httparse.specs.Spans.{SectionExceeds, AreFieldsAt, header_bytes, name_and_value}
use Rattle.oc_http.proofs.Forms.{few_fields}
use Rattle.oc_chunked.specs.declared.limits.TheConstants.{FIELD_ROOM, MAX_TRAILER_BYTES}

-- a text of the greatest length or less has no more fields than there is room for
fields_fit : (bytes : List ℕ) (room : ℕ) → FIELD_ROOM ≤ room → length bytes ≤ MAX_TRAILER_BYTES → SectionExceeds room bytes → ⊥
fields_fit bytes room enough short found =
    let few = few_fields [] found.3 lf found.4.0 in
    omega (arith, few, found.5, ap length found.2, length-append found.0 found.1, ap length found.4.1, length-append found.0 (print_end lf), length-append (print_section found.3 lf) [])

-- each error but one says that there can be no fields, and that one cannot be
pub never_fields : (bytes : List ℕ) (room : ℕ) (error : Error) → FIELD_ROOM ≤ room → length bytes ≤ MAX_TRAILER_BYTES → (error ≢ errors.TooManyHeaders → NeverHasSection bytes) → (error ≡ errors.TooManyHeaders → SectionExceeds room bytes) → NeverHasSection bytes
never_fields bytes room errors.TooManyHeaders enough short never exceeds = absurd (fields_fit bytes room enough short (exceeds refl))
never_fields bytes room error enough short never exceeds = never (λ same. cc)

-- the number of fields that were written is that of all fields
pub count_of_fields : (bytes : List ℕ) (headers : List HeaderSpan) (count : ℕ) (fields : List Field) → count ≤ length headers → AreFieldsAt bytes headers count fields → count ≡ length fields
count_of_fields bytes headers count fields fits same =
    sym (length-take-le count headers fits)
    ∙ sym (length-map (take count headers) (header_bytes bytes))
    ∙ ap length same
    ∙ length-map fields name_and_value
