-- A message that is taken came with its MAC.
use Rattle.std.proofs.Common.{◌≡◌, ℕ, ◌-◌, ◌+◌, Bool, true, false, Option, Some, None, Result, Ok, Err, List, length, take, refl, sym, ap, ◌∙◌, subst, if◌then◌else◌}
use Rattle.std.specs.Prelude.{not, ◌&&◌, nat_lt}
use Rattle.oc_link.specs.declared.event.Arrival.{Arrival}
use Rattle.oc_link.specs.declared.event.Coming.{Coming}
use Rattle.oc_link.specs.declared.event.Coming.TheVariants.{Open, Ended, Failed}
use Rattle.oc_http.specs.Answers.{AnswersRequest}
use Rattle.oc_http.specs.declared.fault.HttpFault.{HttpFault}
use Rattle.oc_http.specs.declared.fault.HttpFault.TheVariants as http
use Rattle.oc_http.specs.declared.head.Head.{Head}
use Rattle.oc_model.specs.declared.input.Input.{Input}
use Rattle.oc_policy.specs.Keys.{Keyring}
use Rattle.oc_routes.specs.Askers.{asker_in, asker_of}
use Rattle.oc_routes.specs.declared.asker.Asker.{Asker}
use Rattle.oc_routes.specs.Connections.{awaits_continue, is_last, kept_after}
use Rattle.oc_routes.specs.Selections.{line_of, selectors_for}
use Rattle.oc_routes.specs.Routes.{input_asked}
use Rattle.oc_routes.specs.declared.fault.RouteFault.{RouteFault}
use Rattle.oc_routes.specs.declared.fault.RouteFault.TheVariants as faults
use Rattle.oc_routes.specs.declared.refused.Refused.{Refused}
use Rattle.oc_routes.specs.declared.refused.Refused.TheVariants as refusals
use Rattle.oc_routes.specs.declared.routes.Operation.{Operation}
use Rattle.oc_routes.specs.declared.routes.Operation.TheVariants as asks
use Rattle.oc_routes.specs.Hints.{asked_with_hint}
use Rattle.oc_routes.proofs.Bodies.{IsOfBody, of_body}
use Rattle.oc_routes.proofs.Spared.{IsOther, IsSpared}
use Rattle.oc_routes.proofs.SparedReplies.{head_spared}
use Rattle.oc_wire.specs.Macs.{HasMac, is_authentic}
use Rattle.oc_wire.proofs.UnderKeys.{believed}
use Rattle.oc_routes.specs.Macs.{HaveMac, is_forged}
use Rattle.oc_routes.specs.Verdicts.{IsVerdict, NodeTerms, answered, fault_met, input_for, is_none, refuse, routed, taken, unfinished, unread, verdict_for, whole}
use Rattle.oc_routes.specs.declared.hint.Asked.{Asked}
use Rattle.oc_routes.specs.declared.verdict.Request.{Request}
use Rattle.oc_routes.specs.declared.verdict.Verdict.{Verdict}
use Rattle.oc_routes.specs.declared.verdict.Verdict.TheVariants.{Ask, Permit, Refuse}

-- an authentic body has its MAC under one of the keys
authentic_mac : (ring : Keyring) (mac : Option (List ℕ)) (body : List ℕ) → not (is_authentic (Some ring) mac body) ≡ false → HasMac ring mac body
authentic_mac ring mac body is = by_test (is_authentic (Some ring) mac body) refl is
  where
    by_test : (b : Bool) → is_authentic (Some ring) mac body ≡ b → not b ≡ false → HasMac ring mac body
    by_test true same e = believed ring mac body same
    by_test false same e = cc

-- a request that is answered asks for the operation that was asked
answered_asks : (head : Head) (q r : Request) (input : Result (Option Input) Refused) → Ask q ≡ answered head r input → q.asked.operation ≡ r.asked.operation
answered_asks head q r (Ok input) e = let same : q ≡ record r { input = input_for r.asked.hint input } = cc in ap (λ (x : Request). x.asked.operation) same
answered_asks head q r (Err why) e = cc

-- no request is answered that has a fault
unread_no : (coming : Coming) (none : Bool) (asker : Asker) (fault : Option RouteFault) (q : Request) → Ask q ≡ unread coming none asker fault → ⊥
unread_no Open none asker None q e = cc
unread_no Ended true asker None q e = cc
unread_no Ended false asker None q e = cc
unread_no Failed none asker None q e = cc
unread_no coming none asker (Some (faults.Refused why)) q e = cc
unread_no coming none asker (Some faults.Memory) q e = cc

unfinished_no : (coming : Coming) (none : Bool) (q : Request) → Ask q ≡ unfinished coming none → ⊥
unfinished_no Open none q e = cc
unfinished_no Ended true q e = cc
unfinished_no Ended false q e = cc
unfinished_no Failed none q e = cc

-- a whole request that is answered is not forged
whole_mac : (t : NodeTerms) (ring : Keyring) (head : Head) (q r : Request) (body : List ℕ) → t.keys ≡ Some ring → q.asked.operation ≡ asks.Message
    → (forged : Bool) → is_forged t.keys r.asked.operation head.mac body ≡ forged
    → Ask q ≡ (if forged then refuse (asker_of head) (kept_after r.last r.count) refusals.Mac else answered head r (input_asked t.nodes t.me r.asked.operation body))
    → HasMac ring head.mac body
whole_mac t ring head q r body has asks_message true is e = cc
whole_mac t ring head q r body has asks_message false is e =
    let same : q.asked.operation ≡ r.asked.operation = answered_asks head q r (input_asked t.nodes t.me r.asked.operation body) e in
    authentic_mac ring head.mac body
    (ap (λ (k : Option Keyring). is_forged k asks.Message head.mac body) (sym has)
    ∙ ap (λ (o : Operation). is_forged t.keys o head.mac body) (sym asks_message ∙ same) ∙ is)

-- a request that is answered has come whole
come_whole : (coming : Coming) (q : Request) (done : Verdict) (permits short : Bool)
    → Ask q ≡ (if permits then Permit else if short then unfinished coming false else done) → Ask q ≡ done
come_whole coming q done true short e = cc
come_whole coming q done false true e = absurd (unfinished_no coming false q e)
come_whole coming q done false false e = e

routed_mac : (t : NodeTerms) (ring : Keyring) (a : Arrival) (came : ℕ) (head : Head) (rest : List ℕ) (asked : Result Asked Refused) (q : Request) → t.keys ≡ Some ring → q.asked.operation ≡ asks.Message
    → Ask q ≡ routed t a came head rest asked → HasMac ring head.mac (take head.length rest)
routed_mac t ring a came head rest (Err why) q has asks_message e = cc
routed_mac t ring a came head rest (Ok said) q has asks_message e =
    whole_mac t ring head q request (take head.length rest) has asks_message (is_forged t.keys said.operation head.mac (take head.length rest)) refl
    (come_whole a.coming q (whole t head request (take head.length rest)) (awaits_continue head && not a.permitted) (nat_lt (length rest) head.length) e)
  where
    request : Request
    request = record {
      count = came - length rest + head.length;
      asked = said;
      line = line_of head;
      selectors = selectors_for said.operation head.selectors;
      input = None;
      last = is_last head a.number;
    }

-- a message that is taken came with its MAC under one of the keys
pub have_mac : (t : NodeTerms) (a : Arrival) (ring : Keyring) (bytes : List ℕ) (q : Request) → t.keys ≡ Some ring → q.asked.operation ≡ asks.Message → IsVerdict t a bytes (Ask q) → HaveMac ring bytes
have_mac t a ring bytes q has asks_message x = by_answer x.answer x.answers x.verdict
  where
    by_answer : (answer : Result Head HttpFault) → AnswersRequest bytes x.rest answer → Ask q ≡ verdict_for t a bytes x.rest answer → HaveMac ring bytes
    by_answer (Ok head) took e = record {
      front = took.0;
      rest = x.rest;
      head = head;
      bytes_are = took.1;
      says = took.2;
      mac = routed_mac t ring a (length bytes) head x.rest (asked_with_hint head t.rules) q has asks_message e;
    }
    by_answer (Err fault) took e = absurd (unread_no a.coming (is_none bytes) (asker_in (taken bytes x.rest)) (fault_met fault) q e)

-- A body is refused as no message only where it came with its MAC

-- the cause of a verdict that refuses
abbrev why_of : Verdict → Option Refused
why_of (Refuse refusal) = Some refusal.why
why_of v = None

abbrev SaysMessage : Verdict → Type 0
SaysMessage v = Some refusals.Message ≡ why_of v

unfinished_other : (coming : Coming) (none : Bool) → SaysMessage (unfinished coming none) → ⊥
unfinished_other Open none e = cc
unfinished_other Ended true e = cc
unfinished_other Ended false e = cc
unfinished_other Failed none e = cc

unread_other : (coming : Coming) (none : Bool) (asker : Asker) (fault : HttpFault) → SaysMessage (unread coming none asker (fault_met fault)) → ⊥
unread_other coming none asker http.Source e = cc
unread_other coming none asker http.Ended e = unfinished_other coming none e
unread_other coming none asker http.Head e = cc
unread_other coming none asker http.HeadLong e = cc
unread_other coming none asker http.Fields e = cc
unread_other coming none asker http.Host e = cc
unread_other coming none asker (http.Coding both) e = cc
unread_other coming none asker (http.Length missing) e = cc
unread_other coming none asker http.BodyLong e = cc
unread_other coming none asker http.Memory e = cc

-- a body is no message only where a message is asked
input_message : (nodes me : ℕ) (operation : Operation) (body : List ℕ) → input_asked nodes me operation body ≡ Err refusals.Message → operation ≡ asks.Message
input_message nodes me operation body e = subst (λ (r : Result (Option Input) Refused). IsOfBody operation r) e (of_body nodes me operation body)

answered_message : (head : Head) (r : Request) (input : Result (Option Input) Refused) → SaysMessage (answered head r input) → input ≡ Err refusals.Message
answered_message head r (Ok input) e = cc
answered_message head r (Err why) e = let same : why ≡ refusals.Message = cc in ap (λ (w : Refused). Err w) same

whole_refused : (t : NodeTerms) (ring : Keyring) (head : Head) (r : Request) (body : List ℕ) → t.keys ≡ Some ring
    → (forged : Bool) → is_forged t.keys r.asked.operation head.mac body ≡ forged
    → SaysMessage (if forged then refuse (asker_of head) (kept_after r.last r.count) refusals.Mac else answered head r (input_asked t.nodes t.me r.asked.operation body))
    → HasMac ring head.mac body
whole_refused t ring head r body has true is e = cc
whole_refused t ring head r body has false is e =
    let message : r.asked.operation ≡ asks.Message = input_message t.nodes t.me r.asked.operation body (answered_message head r (input_asked t.nodes t.me r.asked.operation body) e) in
    authentic_mac ring head.mac body
    (ap (λ (k : Option Keyring). is_forged k asks.Message head.mac body) (sym has)
    ∙ ap (λ (o : Operation). is_forged t.keys o head.mac body) (sym message) ∙ is)

refused_whole : (coming : Coming) (done : Verdict) (permits short : Bool)
    → SaysMessage (if permits then Permit else if short then unfinished coming false else done) → SaysMessage done
refused_whole coming done true short e = cc
refused_whole coming done false true e = absurd (unfinished_other coming false e)
refused_whole coming done false false e = e

routed_refused : (t : NodeTerms) (ring : Keyring) (a : Arrival) (came : ℕ) (head : Head) (rest : List ℕ) (asked : Result Asked Refused) → t.keys ≡ Some ring → IsSpared asked
    → SaysMessage (routed t a came head rest asked) → HasMac ring head.mac (take head.length rest)
routed_refused t ring a came head rest (Err why) has spared e =
    let same : why ≡ refusals.Message = cc in
    absurd (subst (λ (w : Refused). IsOther w) same spared)
routed_refused t ring a came head rest (Ok said) has spared e =
    whole_refused t ring head request (take head.length rest) has (is_forged t.keys said.operation head.mac (take head.length rest)) refl
    (refused_whole a.coming (whole t head request (take head.length rest)) (awaits_continue head && not a.permitted) (nat_lt (length rest) head.length) e)
  where
    request : Request
    request = record {
      count = came - length rest + head.length;
      asked = said;
      line = line_of head;
      selectors = selectors_for said.operation head.selectors;
      input = None;
      last = is_last head a.number;
    }

-- a body that is read as a message came with its MAC under one of the keys, also where it is no message
pub read_mac : (t : NodeTerms) (a : Arrival) (ring : Keyring) (bytes : List ℕ) (asker : Asker) (kept : Option ℕ) → t.keys ≡ Some ring → IsVerdict t a bytes (refuse asker kept refusals.Message) → HaveMac ring bytes
read_mac t a ring bytes asker kept has x = by_answer x.answer x.answers (ap why_of x.verdict)
  where
    by_answer : (answer : Result Head HttpFault) → AnswersRequest bytes x.rest answer → SaysMessage (verdict_for t a bytes x.rest answer) → HaveMac ring bytes
    by_answer (Ok head) took e = record {
      front = took.0;
      rest = x.rest;
      head = head;
      bytes_are = took.1;
      says = took.2;
      mac = routed_refused t ring a (length bytes) head x.rest (asked_with_hint head t.rules) has (head_spared head t.rules) e;
    }
    by_answer (Err fault) took e = absurd (unread_other a.coming (is_none bytes) (asker_in (taken bytes x.rest)) fault e)
