-- The contents of a whole head are the answer, or the fault that it is refused for.
use Rattle.std.proofs.Common.{◌≡◌, ℕ, ◌≤◌, Bool, true, false, cond, List, [], ◌++◌, length, Option, Some, None, Result, Ok, Err, subst}
use Rattle.std.specs.Prelude.{IfOk, IfErr, IsErrOf, ⊤, ◌&&◌, not, nat_lt, unwrap_or}
use Rattle.oc_base.specs.declared.limits.TheConstants.{MAX_HEAD_BYTES, MAX_FIELDS, MAX_BODY_BYTES}
use Rattle.oc_http.specs.Fields.{Named, named, is_present, is_unusable, length_of, hosts, codings, lengths}
use Rattle.oc_http.specs.Lengths.{fault_or}
use Rattle.oc_http.specs.Gives.{Gives}
use Rattle.oc_http.specs.Fields.{has_host_fault}
use Rattle.oc_http.specs.Requests.{read_request, head_fault, method_of, is_post}
use Rattle.oc_http.specs.Responses.{read_reply_head, reply_head_fault, is_chunked}
use Rattle.oc_http.specs.Taking.{Took, IsAnswered, StopsInHead, RefusesHead}
use Rattle.oc_http.specs.declared.fault.HttpFault.{HttpFault}
use Rattle.oc_http.specs.declared.fault.HttpFault.TheVariants.{Source, Ended, Head, HeadLong, Fields, Host, Coding, Length, BodyLong, Memory}
use Rattle.oc_http.specs.declared.head.Method.{Method}
use Rattle.oc_http.proofs.Stops.{Joins}

-- a fault that a whole head can have
abbrev pub IsFieldFault : HttpFault → Type 0
IsFieldFault Fields = ⊤
IsFieldFault Host = ⊤
IsFieldFault (Coding both) = ⊤
IsFieldFault (Length missing) = ⊤
IsFieldFault BodyLong = ⊤
IsFieldFault fault = ⊥

-- a reader of heads that refuses a whole head for such faults only
abbrev pub RefusesFields : {H A : Type 0} → (H → Result A HttpFault) → Type 0
RefusesFields {H} read = (head : H) (fault : HttpFault) → read head ≡ Err fault → IsFieldFault fault

-- a fault of an if-chain is that of the first test that passes, or of the rest
pub chain : (b : Bool) (first : HttpFault) (rest : Option HttpFault) (fault : HttpFault) → IsFieldFault first → (rest ≡ Some fault → IsFieldFault fault) → cond b (Some first) rest ≡ Some fault → IsFieldFault fault
chain true first rest fault good later h = let e : first ≡ fault = cc in subst IsFieldFault e good
chain false first rest fault good later h = later h

-- an absent fault is none of any kind
pub none : (fault : HttpFault) → None ≡ Some fault → IsFieldFault fault
none fault h = cc

-- an error is the first fault
pub first_fault : {A : Type 0} (value : A) (first : Option HttpFault) (fault : HttpFault) → fault_or value first ≡ Err fault → first ≡ Some fault
first_fault value None fault h = cc
first_fault value (Some first) fault h = cc

head_fault-field : (method : Method) (minor : ℕ) (fields : List Named) (fault : HttpFault) → head_fault method minor fields ≡ Some fault → IsFieldFault fault
head_fault-field method minor fields fault =
    chain (nat_lt MAX_FIELDS (length fields)) Fields _ fault (tt {0})
    (chain (has_host_fault minor (hosts fields)) Host _ fault (tt {0})
    (chain (is_present (codings fields)) (Coding (is_present (lengths fields))) _ fault (tt {0})
    (chain (is_unusable (lengths fields)) (Length false) _ fault (tt {0})
    (chain (is_post method && not (is_present (lengths fields))) (Length true) _ fault (tt {0})
    (chain (nat_lt MAX_BODY_BYTES (unwrap_or (length_of (lengths fields)) 0)) BodyLong None fault (tt {0}) (none fault))))))

reply_head_fault-field : (fields : List Named) (fault : HttpFault) → reply_head_fault fields ≡ Some fault → IsFieldFault fault
reply_head_fault-field fields fault =
    chain (nat_lt MAX_FIELDS (length fields)) Fields _ fault (tt {0})
    (chain (is_present (codings fields) && not (is_chunked fields)) (Coding (is_present (lengths fields))) _ fault (tt {0})
    (chain (is_unusable (lengths fields)) (Length false) None fault (tt {0}) (none fault)))

pub request_fields : RefusesFields read_request
request_fields head fault h = head_fault-field (method_of head.method) head.minor (named head.fields) fault (first_fault _ _ fault h)

pub reply_head_fields : RefusesFields read_reply_head
reply_head_fields head fault h = reply_head_fault-field (named head.fields) fault (first_fault _ _ fault h)

-- the contents that were read are those of the head
pub says : {S H A : Type 0} (gives : S → List ℕ → S → Type 0) (Reads : List ℕ → H → List ℕ → Type 0) (read : H → Result A HttpFault) (old new : S) (bytes : List ℕ) (head : H) (answer : Result A HttpFault) → gives old bytes new → Reads bytes head [] → length bytes ≤ MAX_HEAD_BYTES → Gives answer (read head) → IfOk answer (λ value. (taken : List ℕ) × gives old taken new × IsAnswered Reads read taken (Ok value))
says gives Reads read old new bytes head (Ok value) came whole fits said = (bytes, came, record { head = head; whole = whole; fits = fits; answer_is = said })
says gives Reads read old new bytes head (Err fault) came whole fits said = tt

-- a fault of a whole head is the answer to it
pub refusal : {S H A : Type 0} (gives fails : S → List ℕ → S → Type 0) (Reads : List ℕ → H → List ℕ → Type 0) (read : H → Result A HttpFault) (old new : S) (done : Type 0) (bytes : List ℕ) (head : H) → gives old bytes new → Reads bytes head [] → length bytes ≤ MAX_HEAD_BYTES → (fault : HttpFault) → IsFieldFault fault → read head ≡ Err fault → (taken : List ℕ) × Took gives fails old taken new fault × RefusesHead Reads read taken done fault
refusal gives fails Reads read old new done bytes head came whole fits Fields good said = (bytes, came, record { head = head; whole = whole; fits = fits; answer_is = said })
refusal gives fails Reads read old new done bytes head came whole fits Host good said = (bytes, came, record { head = head; whole = whole; fits = fits; answer_is = said })
refusal gives fails Reads read old new done bytes head came whole fits (Coding both) good said = (bytes, came, record { head = head; whole = whole; fits = fits; answer_is = said })
refusal gives fails Reads read old new done bytes head came whole fits (Length missing) good said = (bytes, came, record { head = head; whole = whole; fits = fits; answer_is = said })
refusal gives fails Reads read old new done bytes head came whole fits BodyLong good said = (bytes, came, record { head = head; whole = whole; fits = fits; answer_is = said })
refusal gives fails Reads read old new done bytes head came whole fits fault good said = absurd good

pub refuses : {S H A : Type 0} (gives fails : S → List ℕ → S → Type 0) (Reads : List ℕ → H → List ℕ → Type 0) (read : H → Result A HttpFault) → RefusesFields read → (old new : S) (done : Type 0) (bytes : List ℕ) (head : H) (answer : Result A HttpFault) → gives old bytes new → Reads bytes head [] → length bytes ≤ MAX_HEAD_BYTES → Gives answer (read head) → IfErr answer (λ fault. (taken : List ℕ) × Took gives fails old taken new fault × RefusesHead Reads read taken done fault)
refuses gives fails Reads read good old new done bytes head (Ok value) came whole fits said = tt
refuses gives fails Reads read good old new done bytes head (Err Memory) came whole fits said = (bytes, came, tt)
refuses gives fails Reads read good old new done bytes head (Err fault) came whole fits said =
    refusal gives fails Reads read old new done bytes head came whole fits fault (good head fault said) said

-- a head before whose end reading stopped is refused for that fault
pub RefusesHead-stopped : {H A : Type 0} (Reads : List ℕ → H → List ℕ → Type 0) (read : H → Result A HttpFault) (bytes : List ℕ) (done : Type 0) (fault : HttpFault) → StopsInHead Reads bytes done fault → RefusesHead Reads read bytes done fault
RefusesHead-stopped Reads read bytes done Source stops = stops
RefusesHead-stopped Reads read bytes done Ended stops = stops
RefusesHead-stopped Reads read bytes done Head stops = stops
RefusesHead-stopped Reads read bytes done HeadLong stops = stops
RefusesHead-stopped Reads read bytes done Memory stops = tt
RefusesHead-stopped Reads read bytes done fault stops = absurd stops

-- the contents of a whole head are no failure of the source
pub never_source : {H A : Type 0} (read : H → Result A HttpFault) → RefusesFields read → (head : H) (answer : Result A HttpFault) → Gives answer (read head) → IsErrOf answer Source → ⊥
never_source read good head (Ok value) said is = cc
never_source read good head (Err Source) said is = good head Source said
never_source read good head (Err fault) said is = cc

-- bytes that came, and others after them before a fault
pub took_then : {S : Type 0} {gives fails : S → List ℕ → S → Type 0} → Joins gives fails → (old middle new : S) (before behind : List ℕ) → gives old before middle → (fault : HttpFault) → Took gives fails middle behind new fault → Took gives fails old (before ++ behind) new fault
took_then joins old middle new before behind came Source took = joins.last old middle new before behind came took
took_then joins old middle new before behind came fault took = joins.both old middle new before behind came took
