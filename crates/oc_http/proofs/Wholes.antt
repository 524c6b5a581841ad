-- A head for a reader of whole messages: that of a reader that understands chunks, except for the faults left to refuse.
use Rattle.std.proofs.Common.{◌≡◌, ℕ, Bool, true, false, cond, List, [], ◌∷◌, length, Option, Some, None, Ok, Err, codes, refl, ap, ◌∙◌, subst}
use Rattle.std.specs.Prelude.{IsErrOf, ◌&&◌, not, nat_lt, unwrap_or}
use Rattle.httparse.specs.Grammar.{ResponseHead, ReadsResponse, status_code}
use Rattle.oc_base.specs.declared.limits.TheConstants.{MAX_FIELDS, MAX_BODY_BYTES}
use Rattle.oc_http.specs.Fields.{named, is_only, is_present, is_unusable, length_of, codings, lengths}
use Rattle.oc_http.specs.Lengths.{fault_or}
use Rattle.oc_http.specs.Responses.{reply_head_fault, whole_fault, reply_head_of, read_reply_head, read_reply_start}
use Rattle.oc_http.specs.Taking.{Took, SaysReplyHead, RefusesReplyHead, SaysReplyStart, RefusesReplyStart}
use Rattle.oc_http.specs.declared.fault.HttpFault.{HttpFault}
use Rattle.oc_http.specs.declared.fault.HttpFault.TheVariants.{Source, Ended, Head, HeadLong, Fields, Coding, Length, BodyLong, Memory}
use Rattle.oc_http.specs.declared.reply.ReplyHead.{ReplyHead}
use Rattle.oc_http.proofs.Answered.{IsFieldFault, chain, none, first_fault, refusal}

-- the first fault for a reader that understands chunks
abbrev head_first : Bool → Bool → Bool → List (List ℕ) → Option HttpFault
head_first over coded only told = cond over (Some Fields) (cond (coded && not (only && not (is_present told))) (Some (Coding (is_present told))) (cond (is_unusable told) (Some (Length false)) None))

-- the first fault for a reader of whole messages
abbrev start_first : Bool → Bool → List (List ℕ) → Option HttpFault
start_first over coded told = cond over (Some Fields) (cond coded (Some (Coding (is_present told))) (cond (is_unusable told) (Some (Length false)) (cond (nat_lt MAX_BODY_BYTES (unwrap_or (length_of told) 0)) (Some BodyLong) None)))

-- the faults left for the second reader where the first has none
abbrev left_first : Bool → List (List ℕ) → Option HttpFault
left_first chunked told = cond chunked (Some (Coding false)) (cond (nat_lt MAX_BODY_BYTES (unwrap_or (length_of told) 0)) (Some BodyLong) None)

-- a length that nobody refuses changes nothing
passed : (bad : Bool) (rest : Option HttpFault) → cond bad (Some (Length false)) None ≡ None → cond bad (Some (Length false)) rest ≡ rest
passed true rest h = cc
passed false rest h = refl

-- the second reader refuses what is left, where the first refuses nothing
left_is : (over coded only : Bool) (told : List (List ℕ)) → (only ≡ true → coded ≡ true) → head_first over coded only told ≡ None → start_first over coded told ≡ left_first (only && not (is_present told)) told
left_is true coded only told implied h = cc
left_is false false true told implied h = let e = implied refl in cc
left_is false false false told implied h = passed (is_unusable told) _ h
left_is false true false told implied h = cc
left_is false true true [] implied h = refl
left_is false true true (value ∷ more) implied h = cc

-- a length that the first reader refuses is refused by the second
stays : (bad : Bool) (rest : Option HttpFault) (fault : HttpFault) → cond bad (Some (Length false)) None ≡ Some fault → cond bad (Some (Length false)) rest ≡ Some fault
stays true rest fault h = h
stays false rest fault h = cc

-- a fault for the first reader is the same for the second
same_first : (over coded only : Bool) (told : List (List ℕ)) (fault : HttpFault) → head_first over coded only told ≡ Some fault → start_first over coded told ≡ Some fault
same_first true coded only told fault h = h
same_first false false only told fault h = stays (is_unusable told) _ fault h
same_first false true false told fault h = h
same_first false true true [] fault h = cc
same_first false true true (value ∷ more) fault h = h

-- a field with a single value is present
only_present : (text : List ℕ) (values : List (List ℕ)) → is_only text values ≡ true → is_present values ≡ true
only_present text [] h = h
only_present text (value ∷ more) h = refl

-- a value that is given has no fault
none_ok : {A : Type 0} (value got : A) (first : Option HttpFault) → fault_or value first ≡ Ok got → (value ≡ got) × (first ≡ None)
none_ok value got None h = (cc, refl)
none_ok value got (Some first) h = cc

-- the head read for the first reader, and then tested, is the one read for the second
start_is : (head : ResponseHead) (said : ReplyHead) → read_reply_head head ≡ Ok said → read_reply_start head ≡ fault_or said (whole_fault said)
start_is head said h =
    let fields = named head.fields in
    let all = reply_head_of (status_code head) fields in
    let p = none_ok all said (reply_head_fault fields) h in
    let rest = left_is (nat_lt MAX_FIELDS (length fields)) (is_present (codings fields)) (is_only (codes "chunked") (codings fields)) (lengths fields) (only_present (codes "chunked") (codings fields)) p.1 in
    ap (fault_or all) rest ∙ ap (λ (r : ReplyHead). fault_or r (whole_fault r)) p.0

-- a head refused for the first reader is read as refused for the second
start_err : (head : ResponseHead) (fault : HttpFault) → read_reply_head head ≡ Err fault → read_reply_start head ≡ Err fault
start_err head fault h =
    let fields = named head.fields in
    let all = reply_head_of (status_code head) fields in
    ap (fault_or all) (same_first (nat_lt MAX_FIELDS (length fields)) (is_present (codings fields)) (is_only (codes "chunked") (codings fields)) (lengths fields) fault (first_fault all (reply_head_fault fields) fault h))

-- bytes refused for the first reader are refused for the second
pub start_refuses : (bytes : List ℕ) (done : Type 0) (fault : HttpFault) → RefusesReplyHead bytes done fault → RefusesReplyStart bytes done fault
start_refuses bytes done Source stops = stops
start_refuses bytes done Ended stops = stops
start_refuses bytes done Head stops = stops
start_refuses bytes done HeadLong stops = stops
start_refuses bytes done Memory stops = tt
start_refuses bytes done fault said = record { head = said.head; whole = said.whole; fits = said.fits; answer_is = start_err said.head fault said.answer_is }

-- a head with nothing left to refuse
pub start_says : (bytes : List ℕ) (head : ReplyHead) → SaysReplyHead bytes head → whole_fault head ≡ None → SaysReplyStart bytes head
start_says bytes head said left = record { head = said.head; whole = said.whole; fits = said.fits; answer_is = start_is said.head head said.answer_is ∙ ap (fault_or head) left }

-- a fault that is left is a fault of the fields
left_field : (head : ReplyHead) (fault : HttpFault) → whole_fault head ≡ Some fault → IsFieldFault fault
left_field head fault = chain head.chunked (Coding false) _ fault (tt {0}) (chain (nat_lt MAX_BODY_BYTES (unwrap_or head.length 0)) BodyLong None fault (tt {0}) (none fault))

-- a head that is refused for a fault that is left
pub start_stops : {S : Type 0} (gives fails : S → List ℕ → S → Type 0) (old new : S) (done : Type 0) (bytes : List ℕ) (head : ReplyHead) (fault : HttpFault) → gives old bytes new → SaysReplyHead bytes head → whole_fault head ≡ Some fault → (taken : List ℕ) × Took gives fails old taken new fault × RefusesReplyStart taken done fault
start_stops gives fails old new done bytes head fault came said left =
    refusal gives fails ReadsResponse read_reply_start old new done bytes said.head came said.whole said.fits fault (left_field head fault left) (start_is said.head head said.answer_is ∙ ap (fault_or head) left)

-- a fault that is left is no failure of the source
pub left_never_source : {A : Type 0} (head : ReplyHead) (fault : HttpFault) → whole_fault head ≡ Some fault → IsErrOf {T = A} (Err fault) Source → ⊥
left_never_source head fault left is = let same : fault ≡ Source = cc in left_field head Source (subst (λ (f : HttpFault). whole_fault head ≡ Some f) same left)
