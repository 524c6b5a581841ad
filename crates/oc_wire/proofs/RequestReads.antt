-- Facts of the bytes of a source in memory that reading tells.
use Rattle.std.proofs.Common.{◌≡◌, ℕ, inl, inr, true, List, [], ◌++◌, length, Ok, Err, refl, sym, ap, ◌∙◌, arith}
use Rattle.std.specs.Prelude.{Contains}
use Rattle.std.proofs.lemmas.List.{append-nil}
use Rattle.oc_io.specs.SourceView.{SourceView, source_of, GivesFront, FailsBehind, IsEmptied}
use Rattle.oc_http.specs.Answers.{IsDecided}
use Rattle.oc_http.specs.Answers as heads
use Rattle.oc_http.specs.Taking.{Took, SaysRequest, RefusesRequest, RefusesBody}
use Rattle.oc_http.specs.declared.fault.HttpFault.{HttpFault}
use Rattle.oc_http.specs.declared.fault.HttpFault.TheVariants as http
use Rattle.oc_http.specs.declared.head.Head.{Head}
use Rattle.oc_wire.specs.declared.fault.WireFault.{WireFault}
use Rattle.oc_wire.specs.declared.fault.WireFault.TheVariants as wire
use Rattle.oc_wire.specs.Faults.{fault_of_http, fault_of_wire}
use Rattle.oc_wire.specs.MessageReading.{decoded, Gives}
use Rattle.oc_wire.specs.Requests.{is_route, IsRequest, HasNoHead, IsRequestOrFault, AnswersRequest}

-- a source over these bytes, of which no call is to fail
pub record IsOver (bytes : List ℕ) (source : SourceView) : Type 0 where
  pub left : source.left ≡ bytes
  pub none : source.calls.listed ≡ []

pub over_is : (bytes items fails : List ℕ) (source : SourceView) → items ≡ bytes → fails ≡ [] → source ≡ source_of items fails → IsOver bytes source
over_is bytes items fails source copied none new = record {
  left = ap (λ (s : SourceView). s.left) new ∙ copied;
  none = ap (λ (s : SourceView). s.calls.listed) new ∙ none;
}

-- nothing is in an empty list
none_in : (listed : List ℕ) (x : ℕ) → listed ≡ [] → Contains listed x → ⊥
none_in listed x none has = omega (arith, has.1, ap (λ (xs : List ℕ). length xs) none)

-- a head that was read
pub head_read : (bytes : List ℕ) (old new : SourceView) (head : Head) → IsOver bytes old → (taken : List ℕ) → GivesFront old taken new → SaysRequest taken head → heads.AnswersRequest bytes new.left (Ok head) × IsOver new.left new
head_read bytes old new head over taken gives says =
    ((taken, sym over.left ∙ gives.front, says), record { left = refl; none = gives.calls.listed ∙ over.none })

-- a head that was refused
no_head : (bytes : List ℕ) (old new : SourceView) (fault : HttpFault) → IsOver bytes old → (taken : List ℕ) → GivesFront old taken new → RefusesRequest taken (IsEmptied new) fault → IsDecided {A = Head} (Err fault) → HasNoHead bytes
no_head bytes old new fault over taken gives refuses decided = record { fault = fault; behind = new.left; reads = (taken, sym over.left ∙ gives.front, refuses); decided = decided }

pub head_refused : (bytes : List ℕ) (old new : SourceView) (fault : HttpFault) → IsOver bytes old → (h : (taken : List ℕ) × Took GivesFront FailsBehind old taken new fault × RefusesRequest taken (IsEmptied new) fault)
    → IsRequestOrFault bytes (Err fault)
head_refused bytes old new http.Source over h = absurd (none_in old.calls.listed new.calls.made over.none h.1.listed)
head_refused bytes old new http.Ended over h = inl (no_head bytes old new http.Ended over h.0 h.1 h.2 tt)
head_refused bytes old new http.Head over h = inl (no_head bytes old new http.Head over h.0 h.1 h.2 tt)
head_refused bytes old new http.HeadLong over h = inl (no_head bytes old new http.HeadLong over h.0 h.1 h.2 tt)
head_refused bytes old new http.Fields over h = inl (no_head bytes old new http.Fields over h.0 h.1 h.2 tt)
head_refused bytes old new http.Host over h = inl (no_head bytes old new http.Host over h.0 h.1 h.2 tt)
head_refused bytes old new (http.Coding both) over h = inl (no_head bytes old new (http.Coding both) over h.0 h.1 h.2 tt)
head_refused bytes old new (http.Length missing) over h = inl (no_head bytes old new (http.Length missing) over h.0 h.1 h.2 tt)
head_refused bytes old new http.BodyLong over h = inl (no_head bytes old new http.BodyLong over h.0 h.1 h.2 tt)
head_refused bytes old new http.Memory over h = tt

-- a body that was read
pub body_read : (bytes : List ℕ) (mid new : SourceView) (head : Head) (body : List ℕ) → heads.AnswersRequest bytes mid.left (Ok head) → GivesFront mid body new → length body ≡ head.length → IsRequest bytes head body
body_read bytes mid new head body reads gives long = record { behind = mid.left; reads = reads; rest = new.left; whole = gives.front; long = long }

-- a body that was refused
pub body_refused : (bytes : List ℕ) (mid new : SourceView) (head : Head) (fault : HttpFault) → heads.AnswersRequest bytes mid.left (Ok head) → IsOver mid.left mid
    → (h : (taken : List ℕ) × Took GivesFront FailsBehind mid taken new fault × RefusesBody head.length taken (IsEmptied new) fault) → IsRequestOrFault bytes (Err fault)
body_refused bytes mid new head http.Source reads over h = absurd (none_in mid.calls.listed new.calls.made over.none h.1.listed)
body_refused bytes mid new head http.Ended reads over h =
    let all : mid.left ≡ h.0 = h.1.front ∙ ap (λ (x : List ℕ). h.0 ++ x) h.2.1 ∙ append-nil h.0 in
    inr (record { head = head; behind = mid.left; reads = reads; short = omega (arith, ap (λ (x : List ℕ). length x) all, h.2.0) })
body_refused bytes mid new head http.Head reads over h = absurd h.2
body_refused bytes mid new head http.HeadLong reads over h = absurd h.2
body_refused bytes mid new head http.Fields reads over h = absurd h.2
body_refused bytes mid new head http.Host reads over h = absurd h.2
body_refused bytes mid new head (http.Coding both) reads over h = absurd h.2
body_refused bytes mid new head (http.Length missing) reads over h = absurd h.2
body_refused bytes mid new head http.BodyLong reads over h = absurd h.2
body_refused bytes mid new head http.Memory reads over h = tt

-- the cause that there is no request is the cause that there is no message
pub request_fault : (nodes : ℕ) (bytes : List ℕ) (fault : HttpFault) → IsRequestOrFault bytes (Err fault) → AnswersRequest nodes bytes (Err (fault_of_http fault))
request_fault nodes bytes http.Source h = h
request_fault nodes bytes http.Ended h = h
request_fault nodes bytes http.Head h = h
request_fault nodes bytes http.HeadLong h = h
request_fault nodes bytes http.Fields h = h
request_fault nodes bytes http.Host h = h
request_fault nodes bytes (http.Coding both) h = h
request_fault nodes bytes (http.Length missing) h = h
request_fault nodes bytes http.BodyLong h = h
request_fault nodes bytes http.Memory h = tt

-- the cause that a body is none is the cause that there is no message
pub message_fault : (nodes : ℕ) (bytes : List ℕ) (head : Head) (body : List ℕ) (fault : WireFault) → IsRequest bytes head body → is_route head ≡ true → Gives (Err fault) (decoded nodes body) → AnswersRequest nodes bytes (Err (fault_of_wire fault))
message_fault nodes bytes head body wire.Stranger request route given = record { head = head; body = body; request = request; route = route; reads = given }
message_fault nodes bytes head body (wire.Kind code) request route given = record { head = head; body = body; request = request; route = route; reads = given }
message_fault nodes bytes head body wire.Short request route given = record { head = head; body = body; request = request; route = route; reads = given }
message_fault nodes bytes head body wire.Value request route given = record { head = head; body = body; request = request; route = route; reads = given }
message_fault nodes bytes head body wire.Trailing request route given = record { head = head; body = body; request = request; route = route; reads = given }
message_fault nodes bytes head body wire.Memory request route given = tt
