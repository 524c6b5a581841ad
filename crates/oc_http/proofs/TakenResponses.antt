-- Facts at the end of each line of a head of a response.
use Rattle.std.proofs.Common.{◌≡◌, ◌≢◌, ℕ, ◌≤◌, List, ◌++◌, length, drop, refl, sym, subst}
use Rattle.httparse.specs.declared.Error.{Error}
use Rattle.httparse.specs.declared.Error.TheVariants as errors
use Rattle.httparse.specs.declared.spans.HeaderSpan.{HeaderSpan}
use Rattle.httparse.specs.declared.spans.ResponseSpans.{ResponseSpans}
use Rattle.httparse.specs.Grammar.{ReadsResponse, HasNoResponse, NeverHasResponse, MayBecomeResponse}
use Rattle.httparse.specs.Spans.{IsResponseWithin, IsResponseOf, ResponseExceeds}
use Rattle.oc_base.specs.declared.limits.TheConstants.{MAX_HEAD_BYTES}
use Rattle.oc_http.specs.Lines.{HasNoLineEnd, IsResponseTaken}
use Rattle.oc_http.specs.Unfinished.{IsUnfinished, IsHopeless}
use Rattle.oc_http.specs.declared.taking.TheConstants.{FIELD_ROOM}
use Rattle.oc_http.proofs.LineEnds.{ended}
use Rattle.oc_http.proofs.Heads.{IsUnfinished-open, whole_at_end, IsHopeless-line}
use Rattle.oc_http.proofs.Forms.{response_form, response_fits}

-- a head that was found has nothing after it
pub taken_response : (bytes before line : List ℕ) (spans : List HeaderSpan) (parts : ResponseSpans) → bytes ≡ before ++ ended line → IsUnfinished ReadsResponse before → HasNoLineEnd line → length bytes ≤ MAX_HEAD_BYTES → IsResponseWithin bytes spans parts → IsResponseOf bytes spans parts → IsResponseTaken bytes spans parts
taken_response bytes before line spans parts grown unfinished one fits within found =
    let rest = drop parts.len bytes in
    let none = whole_at_end response_form before line found.0 rest unfinished one (subst (λ (x : List ℕ). ReadsResponse x found.0 rest) grown found.1.reads) in
    record {
      head = found.0;
      whole = subst (λ (x : List ℕ). ReadsResponse bytes found.0 x) none found.1.reads;
      fits = fits;
      within = within;
      cover = found.1;
    }

-- bytes that hold no head, and may become one, are unfinished
pub open_response : (bytes : List ℕ) → HasNoResponse bytes → MayBecomeResponse bytes → IsUnfinished ReadsResponse bytes
open_response bytes none may =
    IsUnfinished-open bytes none may

-- each error but one says that no head can come, and the last cannot be
never_response : (bytes : List ℕ) (room : ℕ) (error : Error) → (error ≢ errors.TooManyHeaders → NeverHasResponse bytes) → (ResponseExceeds room bytes → ⊥) → (error ≡ errors.TooManyHeaders → ResponseExceeds room bytes) → NeverHasResponse bytes
never_response bytes room errors.TooManyHeaders never few exceeds = absurd (few (exceeds refl))
never_response bytes room error never few exceeds = never (λ same. cc)

-- bytes that `httparse` refuses are hopeless
pub hopeless_response : (bytes before line : List ℕ) (room : ℕ) (error : Error) → bytes ≡ before ++ ended line → IsUnfinished ReadsResponse before → HasNoLineEnd line → length bytes ≤ MAX_HEAD_BYTES → FIELD_ROOM ≤ room → (error ≢ errors.TooManyHeaders → NeverHasResponse bytes) → (error ≡ errors.TooManyHeaders → ResponseExceeds room bytes) → IsHopeless ReadsResponse bytes
hopeless_response bytes before line room error grown unfinished one fits enough never exceeds =
    let none = never_response bytes room error never (response_fits bytes room enough fits) exceeds in
    subst (IsHopeless ReadsResponse) (sym grown) (IsHopeless-line response_form before line unfinished one (subst NeverHasResponse grown none))
