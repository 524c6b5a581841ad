-- The answers of `httparse` on lines, as steps.
use Rattle.std.proofs.Common.{◌≡◌, ◌≢◌, ℕ, ◌+◌, ◌≤◌, inl, inr, List, [], ◌∷◌, ◌++◌, length, drop, sym, ap, ◌∙◌, subst, arith, length-append}
use Rattle.std.proofs.lemmas.Bool.{cases_lt, lt-ltb, le-ltb}
use Rattle.std.proofs.lemmas.Bool.Decides.{leb_tells}
use Rattle.httparse.specs.Ascii.{line_feed}
use Rattle.httparse.specs.declared.Error.{Error}
use Rattle.httparse.specs.declared.Error.TheVariants as errors
use Rattle.httparse.specs.declared.spans.HeaderSpan.{HeaderSpan}
use Rattle.httparse.specs.Grammar.{Field, LineEnd, ReadsChunkLine, HasNoChunkLine, MayBecomeChunkLine, HasNoSection, MayBecomeSection, NeverHasSection}
use Rattle.httparse.specs.Spans.{IsSectionWithin, IsSectionOf, SectionExceeds}
use Rattle.oc_base.specs.declared.limits.TheConstants.{MAX_FIELDS}
use Rattle.oc_http.specs.Unfinished.{IsUnfinished}
use Rattle.oc_http.proofs.Heads.{IsUnfinished-open}
use Rattle.oc_chunked.specs.Chunked.{ReadsFields}
use Rattle.oc_chunked.specs.declared.fault.ChunkFault.TheVariants.{Bad}
use Rattle.oc_chunked.specs.declared.limits.TheConstants.{FIELD_ROOM, MAX_SIZE_LINE_BYTES, MAX_TRAILER_BYTES}
use Rattle.oc_chunked.specs.Stages.{in_size, in_trailer, refused, stage_at}
use Rattle.oc_chunked.specs.Taken.{Takes}
use Rattle.oc_chunked.specs.Views.{GoesOn, state_within, behind_fields}
use Rattle.oc_chunked.proofs.SizeSteps.{size_more, size_long}
use Rattle.oc_chunked.proofs.TrailerSteps.{trailer_more, trailer_long, trailer_bad, trailer_end, trailer_many}
use Rattle.oc_chunked.proofs.FieldCounts.{never_fields, count_of_fields}

-- a size line that goes on, while it is short
pub size_goes : (line before : List ℕ) (b : ℕ) → line ≡ before ++ b ∷ [] → (IsUnfinished ReadsChunkLine before → IsUnfinished ReadsChunkLine (before ++ b ∷ [])) → GoesOn in_size before b (state_within (length line) MAX_SIZE_LINE_BYTES)
size_goes line before b is goes =
    let long : length line ≡ length before + 1 = ap length is ∙ length-append before (b ∷ []) in
    elim (cases_lt (length line) MAX_SIZE_LINE_BYTES) [
      | inl short ↦ rw (lt-ltb _ _ short) (size_more before b goes (omega (arith, short)), omega (arith, short))
      | inr full ↦ rw (le-ltb _ _ full) (size_long before b goes (omega (arith, full)))
    ]

-- trailer fields that go on, while they are short
pub trailer_goes : (line before : List ℕ) (b : ℕ) → line ≡ before ++ b ∷ [] → (IsUnfinished ReadsFields before → IsUnfinished ReadsFields (before ++ b ∷ [])) → GoesOn in_trailer before b (state_within (length line) MAX_TRAILER_BYTES)
trailer_goes line before b is goes =
    let long : length line ≡ length before + 1 = ap length is ∙ length-append before (b ∷ []) in
    elim (cases_lt (length line) MAX_TRAILER_BYTES) [
      | inl short ↦ rw (lt-ltb _ _ short) (trailer_more before b goes (omega (arith, short)), omega (arith, short))
      | inr full ↦ rw (le-ltb _ _ full) (trailer_long before b goes (omega (arith, full)))
    ]

-- bytes that may become a size line are unfinished
pub open_size : (line before : List ℕ) (b : ℕ) → line ≡ before ++ b ∷ [] → HasNoChunkLine line → MayBecomeChunkLine line → IsUnfinished ReadsChunkLine (before ++ b ∷ [])
open_size line before b is none may = subst (IsUnfinished ReadsChunkLine) is (IsUnfinished-open line none may)

-- bytes that may become trailer fields are unfinished
pub open_trailer : (line before : List ℕ) (b : ℕ) → line ≡ before ++ b ∷ [] → HasNoSection line → MayBecomeSection line → IsUnfinished ReadsFields (before ++ b ∷ [])
open_trailer line before b is none may =
    subst (IsUnfinished ReadsFields) is (IsUnfinished-open line (λ fields rest. none fields.0 fields.1 rest) (may.0, (may.1, may.2), may.3))

-- a line that `httparse` refuses is no trailer field
pub refused_trailer : (line before : List ℕ) (b room : ℕ) (error : Error) → line ≡ before ++ b ∷ [] → b ≡ line_feed → FIELD_ROOM ≤ room → (error ≢ errors.TooManyHeaders → NeverHasSection line) → (error ≡ errors.TooManyHeaders → SectionExceeds room line) → Takes (in_trailer before) (b ∷ []) [] (refused Bad)
refused_trailer line before b room error is feed enough never exceeds =
    let e : line ≡ before ++ line_feed ∷ [] = is ∙ ap (λ (x : ℕ). before ++ x ∷ []) feed in
    subst (λ (x : ℕ). Takes (in_trailer before) (x ∷ []) [] (refused Bad)) (sym feed)
    (trailer_bad before (λ short. subst NeverHasSection e (never_fields line room error enough (omega (arith, ap length e, length-append before (line_feed ∷ []))) never exceeds)))

-- all the trailer fields, or too many
pub found_trailer : (line before : List ℕ) (b len count : ℕ) (headers : List HeaderSpan) → line ≡ before ++ b ∷ [] → IsSectionWithin line headers len count → IsSectionOf line 0 headers (len, count) → Takes (in_trailer before) (b ∷ []) [] (stage_at (behind_fields count) [])
found_trailer line before b len count headers is within found =
    let fields : List Field × LineEnd = (found.0, found.1) in
    let many = count_of_fields line headers count found.0 within.count_fits found.2.fields_are in
    let reads : ReadsFields (before ++ b ∷ []) fields (drop len line) = subst (λ (x : List ℕ). ReadsFields x fields (drop len line)) is found.2.reads in
    elim (leb_tells count MAX_FIELDS) [
      | inl few ↦ rw (few.0) (trailer_end before b fields (drop len line) reads (omega (arith, few.1)))
      | inr over ↦ rw (over.0) (trailer_many before b fields (drop len line) reads (omega (arith, over.1)))
    ]
