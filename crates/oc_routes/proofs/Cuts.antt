-- The verdict on bytes with more after them.
use Rattle.std.proofs.Common.{◌≡◌, ℕ, ◌+◌, ◌-◌, ◌≤◌, Bool, true, false, None, Result, Ok, Err, List, ◌++◌, length, take, refl, sym, ap, ◌∙◌, arith, length-append}
use Rattle.std.specs.Prelude.{not, ◌&&◌, nat_lt, if◌then◌else◌}
use Rattle.std.proofs.lemmas.Bool.{ltb-false, le-ltb, false≢true}
use Rattle.std.proofs.Math.Seq.{take-append_seam}
use Rattle.std.proofs.lemmas.List.{append_assoc, take-append-le}
use Rattle.oc_link.specs.declared.event.Arrival.{Arrival}
use Rattle.oc_link.specs.declared.event.Coming.{Coming}
use Rattle.oc_link.specs.declared.event.Coming.TheVariants as comings
use Rattle.oc_http.specs.Answers.{AnswersRequest, IsDecided}
use Rattle.oc_http.specs.Requests.{read_request}
use Rattle.oc_http.proofs.Forms.{request_form}
use Rattle.oc_http.proofs.OneAnswer.{one_answer}
use Rattle.oc_http.specs.declared.fault.HttpFault.{HttpFault}
use Rattle.oc_http.specs.declared.fault.HttpFault.TheVariants.{Source, Ended, Head as NoHead, HeadLong, Fields, Host, Coding, Length, BodyLong, Memory}
use Rattle.oc_http.specs.declared.head.Head.{Head}
use Rattle.oc_routes.specs.Askers.{asker_in, asker_of}
use Rattle.oc_routes.specs.Connections.{awaits_continue, is_last, kept_after_head}
use Rattle.oc_routes.specs.declared.refused.Refused.{Refused}
use Rattle.oc_routes.specs.declared.refused.Refused.TheVariants as refusals
use Rattle.oc_routes.specs.Hints.{asked_with_hint}
use Rattle.oc_routes.specs.Selections.{line_of, selectors_for}
use Rattle.oc_routes.specs.Verdicts.{IsVerdict, NodeTerms, arrival, after_head, refuse, routed, taken, unfinished, verdict_for, whole, with_body}
use Rattle.oc_routes.specs.declared.hint.Asked.{Asked}
use Rattle.oc_routes.specs.declared.verdict.Request.{Request}
use Rattle.oc_routes.specs.declared.verdict.Verdict.{Verdict}
use Rattle.oc_routes.specs.declared.verdict.Verdict.TheVariants.{Wait, Permit}

-- there is one verdict
pub one_verdict : (t : NodeTerms) (a : Arrival) (bytes : List ℕ) (v w : Verdict) → IsVerdict t a bytes v → IsVerdict t a bytes w → v ≡ w
one_verdict t a bytes v w x y =
    let same = one_answer read_request request_form bytes x.rest y.rest x.answer y.answer x.answers y.answers x.decided y.decided in
    x.verdict
    ∙ ap (λ (rest : List ℕ). verdict_for t a bytes rest x.answer) (same.1)
    ∙ ap (λ (answer : Result Head HttpFault). verdict_for t a bytes y.rest answer) (same.0)
    ∙ sym y.verdict

-- a front with more after it
front_more : (left bytes rest more : List ℕ) → left ≡ bytes ++ rest → left ++ more ≡ bytes ++ (rest ++ more)
front_more left bytes rest more e = ap (λ (x : List ℕ). x ++ more) e ∙ append_assoc bytes rest more

-- an answer that was decided before the end stays decided with more bytes
answers_more : (left rest more : List ℕ) (answer : Result Head HttpFault) → AnswersRequest left rest answer → IsDecided answer → (answer ≡ Err Ended → ⊥) → AnswersRequest (left ++ more) (rest ++ more) answer
answers_more left rest more (Ok head) h own stays = (h.0, front_more left (h.0) rest more (h.1), h.2)
answers_more left rest more (Err Source) h own stays = absurd own
answers_more left rest more (Err Ended) h own stays = absurd (stays refl)
answers_more left rest more (Err NoHead) h own stays = (h.0, front_more left (h.0) rest more (h.1), h.2)
answers_more left rest more (Err HeadLong) h own stays = (h.0, front_more left (h.0) rest more (h.1), h.2)
answers_more left rest more (Err Fields) h own stays = (h.0, front_more left (h.0) rest more (h.1), h.2)
answers_more left rest more (Err Host) h own stays = (h.0, front_more left (h.0) rest more (h.1), h.2)
answers_more left rest more (Err (Coding both)) h own stays = (h.0, front_more left (h.0) rest more (h.1), h.2)
answers_more left rest more (Err (Length missing)) h own stays = (h.0, front_more left (h.0) rest more (h.1), h.2)
answers_more left rest more (Err BodyLong) h own stays = (h.0, front_more left (h.0) rest more (h.1), h.2)
answers_more left rest more (Err Memory) h own stays = absurd own

taken_of : (front rest : List ℕ) → taken (front ++ rest) rest ≡ front
taken_of front rest =
    ap (λ (n : ℕ). take n (front ++ rest)) (let few : length (front ++ rest) - length rest ≡ length front = omega (arith, length-append front rest) in few)
    ∙ take-append_seam front rest

taken_front : (left front rest more : List ℕ) → left ≡ front ++ rest → taken left rest ≡ taken (left ++ more) (rest ++ more)
taken_front left front rest more e =
    ap (λ (x : List ℕ). taken x rest) e ∙ taken_of front rest
    ∙ sym (ap (λ (x : List ℕ). taken x (rest ++ more)) (front_more left front rest more e) ∙ taken_of front (rest ++ more))

-- the permission, then the wait, then the whole request
by_tests : (permits short later : Bool) (done done_later shortened v : Verdict) → (short ≡ false → later ≡ false) → (short ≡ false → done ≡ done_later)
    → v ≡ (if permits then Permit else if short then Wait else done) → (v ≡ Wait → ⊥) → v ≡ (if permits then Permit else if later then shortened else done_later)
by_tests true short later done done_later shortened v stays same is decided = is
by_tests false true later done done_later shortened v stays same is decided = absurd (decided is)
by_tests false false true done done_later shortened v stays same is decided = let no : true ≡ false = stays refl in absurd (false≢true (sym no))
by_tests false false false done done_later shortened v stays same is decided = is ∙ same refl

-- a whole request, whose head has this many bytes
abbrev asks_of : Head → ℕ → Asked → ℕ → Request
asks_of head number said front = record {
  count = front + head.length;
  asked = said;
  line = line_of head;
  selectors = selectors_for said.operation head.selectors;
  input = None;
  last = is_last head number;
}

body_more : (t : NodeTerms) (c number : ℕ) (permitted : Bool) (coming : Coming) (came : ℕ) (head : Head) (rest more : List ℕ) (said : Asked) (v : Verdict)
    → v ≡ with_body t (arrival c number permitted comings.Open) came head rest said → (v ≡ Wait → ⊥)
    → v ≡ with_body t (arrival c number permitted coming) (came + length more) head (rest ++ more) said
body_more t c number permitted coming came head rest more said v is decided =
    by_tests (awaits_continue head && not permitted) (nat_lt (length rest) head.length) (nat_lt (length (rest ++ more)) head.length)
    (request came rest) (request (came + length more) (rest ++ more)) (unfinished coming false) v
    (λ long. le-ltb (length (rest ++ more)) head.length (omega (arith, length-append rest more, ltb-false (length rest) head.length long)))
    (λ long.
    let few : head.length ≤ length rest = ltb-false (length rest) head.length long in
    let body : take head.length (rest ++ more) ≡ take head.length rest = take-append-le head.length rest more few in
    let count : came - length rest ≡ (came + length more) - length (rest ++ more) = omega (arith, length-append rest more) in
    ap (λ (n : ℕ). whole t head (asks_of head number said n) (take head.length rest)) count
    ∙ ap (λ (b : List ℕ). whole t head (asks_of head number said ((came + length more) - length (rest ++ more))) b) (sym body))
    is decided
  where
    request : ℕ → List ℕ → Verdict
    request n left = whole t head (asks_of head number said (n - length left)) (take head.length left)

routed_more : (t : NodeTerms) (c number : ℕ) (permitted : Bool) (coming : Coming) (came : ℕ) (head : Head) (rest more : List ℕ) (asked : Result Asked Refused) (v : Verdict)
    → v ≡ routed t (arrival c number permitted comings.Open) came head rest asked → (v ≡ Wait → ⊥)
    → v ≡ routed t (arrival c number permitted coming) (came + length more) head (rest ++ more) asked
routed_more t c number permitted coming came head rest more (Ok said) v is decided = body_more t c number permitted coming came head rest more said v is decided
routed_more t c number permitted coming came head rest more (Err why) v is decided =
    let count : came - length rest ≡ (came + length more) - length (rest ++ more) = omega (arith, length-append rest more) in
    is ∙ ap (λ (n : ℕ). refuse (asker_of head) (kept_after_head head number n) why) count

-- the bytes that were taken are those that are taken with more bytes
taken_more : (left rest more : List ℕ) (answer : Result Head HttpFault) → AnswersRequest left rest answer → taken left rest ≡ taken (left ++ more) (rest ++ more)
taken_more left rest more (Ok head) h = taken_front left (h.0) rest more (h.1)
taken_more left rest more (Err fault) h = taken_front left (h.0) rest more (h.1)

verdict_more : (t : NodeTerms) (c number : ℕ) (permitted : Bool) (coming : Coming) (bytes rest more : List ℕ) (answer : Result Head HttpFault) (v : Verdict)
    → taken bytes rest ≡ taken (bytes ++ more) (rest ++ more)
    → v ≡ verdict_for t (arrival c number permitted comings.Open) bytes rest answer → (v ≡ Wait → ⊥)
    → v ≡ verdict_for t (arrival c number permitted coming) (bytes ++ more) (rest ++ more) answer
verdict_more t c number permitted coming bytes rest more (Ok head) v same is decided =
    routed_more t c number permitted coming (length bytes) head rest more (asked_with_hint head t.rules) v is decided
    ∙ ap (λ (n : ℕ). after_head t (arrival c number permitted coming) n head (rest ++ more)) (sym (length-append bytes more))
verdict_more t c number permitted coming bytes rest more (Err Source) v same is decided = is ∙ ap (λ (x : List ℕ). refuse (asker_in x) None refusals.Source) same
verdict_more t c number permitted coming bytes rest more (Err Ended) v same is decided = absurd (decided is)
verdict_more t c number permitted coming bytes rest more (Err NoHead) v same is decided = is ∙ ap (λ (x : List ℕ). refuse (asker_in x) None refusals.Head) same
verdict_more t c number permitted coming bytes rest more (Err HeadLong) v same is decided = is ∙ ap (λ (x : List ℕ). refuse (asker_in x) None refusals.HeadLong) same
verdict_more t c number permitted coming bytes rest more (Err Fields) v same is decided = is ∙ ap (λ (x : List ℕ). refuse (asker_in x) None refusals.Fields) same
verdict_more t c number permitted coming bytes rest more (Err Host) v same is decided = is ∙ ap (λ (x : List ℕ). refuse (asker_in x) None refusals.Host) same
verdict_more t c number permitted coming bytes rest more (Err (Coding both)) v same is decided = is ∙ ap (λ (x : List ℕ). refuse (asker_in x) None (refusals.Coding both)) same
verdict_more t c number permitted coming bytes rest more (Err (Length missing)) v same is decided = is ∙ ap (λ (x : List ℕ). refuse (asker_in x) None (refusals.Length missing)) same
verdict_more t c number permitted coming bytes rest more (Err BodyLong) v same is decided = is ∙ ap (λ (x : List ℕ). refuse (asker_in x) None refusals.BodyLong) same
verdict_more t c number permitted coming bytes rest more (Err Memory) v same is decided = is

-- bytes with another verdict than to wait are no mere part of a request
not_ended : (t : NodeTerms) (c number : ℕ) (permitted : Bool) (bytes rest : List ℕ) (answer : Result Head HttpFault) (v : Verdict)
    → v ≡ verdict_for t (arrival c number permitted comings.Open) bytes rest answer → (v ≡ Wait → ⊥) → answer ≡ Err Ended → ⊥
not_ended t c number permitted bytes rest answer v is decided ended =
    decided (is ∙ ap (λ (x : Result Head HttpFault). verdict_for t (arrival c number permitted comings.Open) bytes rest x) ended)

-- a verdict on bytes after which more may come, and which is not to wait, is the verdict with more bytes too
pub verdict_stays : (t : NodeTerms) (c number : ℕ) (permitted : Bool) (coming : Coming) (bytes more : List ℕ) (v : Verdict)
    → IsVerdict t (arrival c number permitted comings.Open) bytes v → (v ≡ Wait → ⊥) → IsVerdict t (arrival c number permitted coming) (bytes ++ more) v
verdict_stays t c number permitted coming bytes more v x decided = record {
  answer = x.answer;
  rest = x.rest ++ more;
  answers = answers_more bytes x.rest more x.answer x.answers x.decided (not_ended t c number permitted bytes x.rest x.answer v x.verdict decided);
  decided = x.decided;
  verdict = verdict_more t c number permitted coming bytes x.rest more x.answer v (taken_more bytes x.rest more x.answer x.answers) x.verdict decided;
}
