-- Facts at the end of each line of a head of a request.
use Rattle.std.proofs.Common.{◌≡◌, ◌≢◌, ℕ, ◌≤◌, List, [], ◌∷◌, ◌++◌, length, drop, refl, sym, ◌∙◌, subst}
use Rattle.std.proofs.lemmas.List.{append_assoc}
use Rattle.httparse.specs.declared.Error.{Error}
use Rattle.httparse.specs.declared.Error.TheVariants as errors
use Rattle.httparse.specs.declared.spans.HeaderSpan.{HeaderSpan}
use Rattle.httparse.specs.declared.spans.RequestSpans.{RequestSpans}
use Rattle.httparse.specs.Ascii.{line_feed}
use Rattle.httparse.specs.Grammar.{ReadsRequest, HasNoRequest, NeverHasRequest, MayBecomeRequest}
use Rattle.httparse.specs.Spans.{IsRequestWithin, IsRequestOf, RequestExceeds}
use Rattle.oc_base.specs.declared.limits.TheConstants.{MAX_HEAD_BYTES}
use Rattle.oc_http.specs.Lines.{HasNoLineEnd, IsRequestTaken}
use Rattle.oc_http.specs.Unfinished.{CanBecome, IsUnfinished, IsHopeless}
use Rattle.oc_http.specs.declared.taking.TheConstants.{FIELD_ROOM}
use Rattle.oc_http.proofs.LineEnds.{ended}
use Rattle.oc_http.proofs.Heads.{IsUnfinished-open, whole_at_end, IsHopeless-line}
use Rattle.oc_http.proofs.Forms.{request_form, CanBecome-request, request_fits}

-- a head that was found has nothing after it
pub taken_request : (bytes before line : List ℕ) (spans : List HeaderSpan) (parts : RequestSpans) → bytes ≡ before ++ ended line → IsUnfinished ReadsRequest before → HasNoLineEnd line → length bytes ≤ MAX_HEAD_BYTES → IsRequestWithin bytes spans parts → IsRequestOf bytes spans parts → IsRequestTaken bytes spans parts
taken_request bytes before line spans parts grown unfinished one fits within found =
    let rest = drop parts.len bytes in
    let none = whole_at_end request_form before line found.0 rest unfinished one (subst (λ (x : List ℕ). ReadsRequest x found.0 rest) grown found.1.reads) in
    record {
      head = found.0;
      whole = subst (λ (x : List ℕ). ReadsRequest bytes found.0 x) none found.1.reads;
      fits = fits;
      within = within;
      cover = found.1;
    }

-- bytes that hold no head, and may become one, are unfinished
pub open_request : (bytes before line : List ℕ) → bytes ≡ before ++ ended line → HasNoRequest bytes → MayBecomeRequest bytes → IsUnfinished ReadsRequest bytes
open_request bytes before line grown none may =
    let text : bytes ≡ ended (before ++ line) = grown ∙ sym (append_assoc before line (line_feed ∷ [])) in
    let can = CanBecome-request (before ++ line) (subst MayBecomeRequest text may) in
    IsUnfinished-open bytes none (subst (CanBecome ReadsRequest) (sym text) can)

-- each error but one says that no head can come, and the last cannot be
never_request : (bytes : List ℕ) (room : ℕ) (error : Error) → (error ≢ errors.TooManyHeaders → NeverHasRequest bytes) → (RequestExceeds room bytes → ⊥) → (error ≡ errors.TooManyHeaders → RequestExceeds room bytes) → NeverHasRequest bytes
never_request bytes room errors.TooManyHeaders never few exceeds = absurd (few (exceeds refl))
never_request bytes room error never few exceeds = never (λ same. cc)

-- bytes that `httparse` refuses are hopeless
pub hopeless_request : (bytes before line : List ℕ) (room : ℕ) (error : Error) → bytes ≡ before ++ ended line → IsUnfinished ReadsRequest before → HasNoLineEnd line → length bytes ≤ MAX_HEAD_BYTES → FIELD_ROOM ≤ room → (error ≢ errors.TooManyHeaders → NeverHasRequest bytes) → (error ≡ errors.TooManyHeaders → RequestExceeds room bytes) → IsHopeless ReadsRequest bytes
hopeless_request bytes before line room error grown unfinished one fits enough never exceeds =
    let none = never_request bytes room error never (request_fits bytes room enough fits) exceeds in
    subst (IsHopeless ReadsRequest) (sym grown) (IsHopeless-line request_form before line unfinished one (subst NeverHasRequest grown none))
