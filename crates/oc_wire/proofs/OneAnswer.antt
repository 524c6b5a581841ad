-- There is one answer to the bytes of a request, and a message that was sent is that answer.
use Rattle.std.proofs.Common.{◌≡◌, ℕ, ◌⊎◌, inl, inr, Option, List, [], length, take, Result, Ok, Err, refl, sym, ap, ◌∙◌, arith}
use Rattle.std.proofs.lemmas.List.{append-nil, length-append, take_at}
use Rattle.oc_http.specs.Answers.{IsDecided, written_head}
use Rattle.oc_http.specs.Answers as heads
use Rattle.oc_http.specs.Taking.{SaysRequest}
use Rattle.oc_http.specs.Writing.{request_head_with, request_with}
use Rattle.oc_http.specs.declared.fault.HttpFault.{HttpFault}
use Rattle.oc_http.specs.declared.head.Head.{Head}
use Rattle.oc_model.specs.declared.message.Message.{Message}
use Rattle.oc_wire.specs.declared.fault.WireFault.{WireFault}
use Rattle.oc_wire.specs.declared.http_fault.HttpWireFault.{HttpWireFault}
use Rattle.oc_wire.specs.declared.http_fault.HttpWireFault.TheVariants as faults
use Rattle.oc_wire.specs.MessageReading.{decoded}
use Rattle.oc_wire.specs.Requests.{IsRequest, HasNoHead, IsCutOff, Brings, IsElsewhere, AnswersRequest, HasMemory, IsGiven}
use Rattle.oc_wire.specs.Spelling.{spelling}

-- there is one answer to the bytes of a head
abbrev pub HasOneHead : Type 0
HasOneHead = (left r s : List ℕ) (first second : Result Head HttpFault) → heads.AnswersRequest left r first → heads.AnswersRequest left s second → IsDecided first → IsDecided second → (first ≡ second) × (r ≡ s)

-- bytes begin with one request
one_request : HasOneHead → (bytes : List ℕ) (h k : Head) (b c : List ℕ) → IsRequest bytes h b → IsRequest bytes k c → (h ≡ k) × (b ≡ c)
one_request one bytes h k b c x y =
    let same = one bytes x.behind y.behind (Ok h) (Ok k) x.reads y.reads tt tt in
    let head : h ≡ k = cc (same.0) in
    let long : length b ≡ length c = x.long ∙ ap (λ (z : Head). z.length) head ∙ sym y.long in
    let left : take (length b) x.behind ≡ b = ap (take (length b)) x.whole ∙ take_at b x.rest (length b) refl in
    let right : take (length c) y.behind ≡ c = ap (take (length c)) y.whole ∙ take_at c y.rest (length c) refl in
    (head, sym left ∙ ap (λ (n : ℕ). take n x.behind) long ∙ ap (take (length c)) same.1 ∙ right)

-- bytes that begin with a request are not refused as none
not_none : HasOneHead → (bytes : List ℕ) (head : Head) (body : List ℕ) → HasNoHead bytes ⊎ IsCutOff bytes → IsRequest bytes head body → ⊥
not_none one bytes head body (inl x) y = absurd (cc ((one bytes x.behind y.behind (Err x.fault) (Ok head) x.reads y.reads x.decided tt).0))
not_none one bytes head body (inr x) y =
    let same = one bytes x.behind y.behind (Ok x.head) (Ok head) x.reads y.reads tt tt in
    let heads-same : x.head ≡ head = cc (same.0) in
    omega (arith, x.short, ap (λ (z : Head). z.length) heads-same, ap (λ (z : List ℕ). length z) same.1, ap (λ (z : List ℕ). length z) y.whole, length-append body y.rest, y.long)

-- a request is on one route
one_route : HasOneHead → (nodes : ℕ) (bytes : List ℕ) (read : Result Message WireFault) → IsElsewhere bytes → Brings nodes bytes read → ⊥
one_route one nodes bytes read x y =
    let same = one_request one bytes x.head y.head x.body y.body x.request y.request in
    absurd (cc (rw same.0 at x.route, y.route))

-- a request brings one message, or has one fault
one_read : HasOneHead → (nodes : ℕ) (bytes : List ℕ) (first second : Result Message WireFault) → Brings nodes bytes first → Brings nodes bytes second → first ≡ second
one_read one nodes bytes first second x y = sym x.reads ∙ ap (decoded nodes) (one_request one bytes x.head y.head x.body y.body x.request y.request).1 ∙ y.reads

-- one answer, want of memory left out
pub one_answer : HasOneHead → (nodes : ℕ) (bytes : List ℕ) (first second : Result Message HttpWireFault) → AnswersRequest nodes bytes first → AnswersRequest nodes bytes second → HasMemory first → HasMemory second → first ≡ second
one_answer one nodes bytes (Ok m) (Ok n) x y h k = let same = one_read one nodes bytes (Ok m) (Ok n) x y in cc
one_answer one nodes bytes (Ok m) (Err faults.NotHttp) x y h k = absurd (not_none one bytes x.head x.body y x.request)
one_answer one nodes bytes (Ok m) (Err faults.Route) x y h k = absurd (one_route one nodes bytes (Ok m) y x)
one_answer one nodes bytes (Ok m) (Err (faults.Wire g)) x y h k = let same = one_read one nodes bytes (Ok m) (Err g) x y in absurd cc
one_answer one nodes bytes (Ok m) (Err faults.Memory) x y h k = absurd k
one_answer one nodes bytes (Err faults.NotHttp) (Ok n) x y h k = absurd (not_none one bytes y.head y.body x y.request)
one_answer one nodes bytes (Err faults.NotHttp) (Err faults.NotHttp) x y h k = refl
one_answer one nodes bytes (Err faults.NotHttp) (Err faults.Route) x y h k = absurd (not_none one bytes y.head y.body x y.request)
one_answer one nodes bytes (Err faults.NotHttp) (Err (faults.Wire g)) x y h k = absurd (not_none one bytes y.head y.body x y.request)
one_answer one nodes bytes (Err faults.NotHttp) (Err faults.Memory) x y h k = absurd k
one_answer one nodes bytes (Err faults.Route) (Ok n) x y h k = absurd (one_route one nodes bytes (Ok n) x y)
one_answer one nodes bytes (Err faults.Route) (Err faults.NotHttp) x y h k = absurd (not_none one bytes x.head x.body y x.request)
one_answer one nodes bytes (Err faults.Route) (Err faults.Route) x y h k = refl
one_answer one nodes bytes (Err faults.Route) (Err (faults.Wire g)) x y h k = absurd (one_route one nodes bytes (Err g) x y)
one_answer one nodes bytes (Err faults.Route) (Err faults.Memory) x y h k = absurd k
one_answer one nodes bytes (Err (faults.Wire f)) (Ok n) x y h k = let same = one_read one nodes bytes (Err f) (Ok n) x y in absurd cc
one_answer one nodes bytes (Err (faults.Wire f)) (Err faults.NotHttp) x y h k = absurd (not_none one bytes x.head x.body y x.request)
one_answer one nodes bytes (Err (faults.Wire f)) (Err faults.Route) x y h k = absurd (one_route one nodes bytes (Err f) y x)
one_answer one nodes bytes (Err (faults.Wire f)) (Err (faults.Wire g)) x y h k = let same = one_read one nodes bytes (Err f) (Err g) x y in cc
one_answer one nodes bytes (Err (faults.Wire f)) (Err faults.Memory) x y h k = absurd k
one_answer one nodes bytes (Err faults.Memory) second x y h k = absurd h

-- a message that is spelled in a request is brought by it
pub brings : (nodes : ℕ) (mac : Option (List ℕ)) (host : List ℕ) (m : Message) → SaysRequest (request_head_with mac host (length (spelling m))) (written_head mac (length (spelling m))) → decoded nodes (spelling m) ≡ Ok m → Brings nodes (request_with mac host (spelling m)) (Ok m)
brings nodes mac host m says reads = record {
  head = written_head mac (length (spelling m));
  body = spelling m;
  request = record { behind = spelling m; reads = (request_head_with mac host (length (spelling m)), refl, says); rest = []; whole = sym (append-nil (spelling m)); long = refl };
  route = refl;
  reads = reads;
}

-- the message that is brought is the answer, unless memory ran out
pub is_given : ((nodes : ℕ) (bytes : List ℕ) (first second : Result Message HttpWireFault) → AnswersRequest nodes bytes first → AnswersRequest nodes bytes second → HasMemory first → HasMemory second → first ≡ second)
    → (nodes : ℕ) (bytes : List ℕ) (answer : Result Message HttpWireFault) (m : Message) → AnswersRequest nodes bytes answer → Brings nodes bytes (Ok m) → IsGiven answer m
is_given one nodes bytes (Ok n) m x y = one nodes bytes (Ok n) (Ok m) x y tt tt
is_given one nodes bytes (Err faults.NotHttp) m x y = one nodes bytes (Err faults.NotHttp) (Ok m) x y tt tt
is_given one nodes bytes (Err faults.Route) m x y = one nodes bytes (Err faults.Route) (Ok m) x y tt tt
is_given one nodes bytes (Err (faults.Wire f)) m x y = one nodes bytes (Err (faults.Wire f)) (Ok m) x y tt tt
is_given one nodes bytes (Err faults.Memory) m x y = tt
