-- The verdict on the bytes that came on a connection.
use Rattle.std.specs.Prelude.{◌≡◌, ℕ, ◌+◌, ◌-◌, Bool, true, false, not, ◌&&◌, nat_lt, if◌then◌else◌, Option, Some, None, Result, Ok, Err, List, [], ◌∷◌, length, take}
use Rattle.oc_link.specs.declared.event.Arrival.{Arrival}
use Rattle.oc_link.specs.declared.event.Coming.{Coming}
use Rattle.oc_link.specs.declared.event.Coming.TheVariants.{Open, Ended, Failed}
use Rattle.oc_http.specs.Answers.{AnswersRequest, IsDecided}
use Rattle.oc_http.specs.declared.fault.HttpFault.{HttpFault}
use Rattle.oc_http.specs.declared.fault.HttpFault.TheVariants as http
use Rattle.oc_http.specs.declared.head.Head.{Head}
use Rattle.oc_model.specs.declared.input.Input.{Input}
use Rattle.oc_policy.specs.Keys.{Keyring}
use Rattle.oc_policy.specs.declared.rule.Rule.{Rule}
use Rattle.oc_routes.specs.Askers.{asker_in, asker_of}
use Rattle.oc_routes.specs.Connections.{awaits_continue, is_last, kept_after, kept_after_head}
use Rattle.oc_routes.specs.Routes.{input_asked}
use Rattle.oc_routes.specs.Refusals.{fault_of_http}
use Rattle.oc_routes.specs.Selections.{line_of, selectors_for}
use Rattle.oc_routes.specs.declared.asker.Asker.{Asker}
use Rattle.oc_routes.specs.declared.asker.Asker.TheVariants.{Client}
use Rattle.oc_routes.specs.declared.fault.RouteFault.{RouteFault}
use Rattle.oc_routes.specs.declared.fault.RouteFault.TheVariants as faults
use Rattle.oc_routes.specs.declared.refused.Refused.{Refused}
use Rattle.oc_routes.specs.declared.refused.Refused.TheVariants as refusals
use Rattle.oc_routes.specs.Hints.{asked_with_hint}
use Rattle.oc_routes.specs.Macs.{is_forged}
use Rattle.oc_routes.specs.declared.hint.Asked.{Asked}
use Rattle.oc_routes.specs.declared.hint.Hint.{Hint}
use Rattle.oc_routes.specs.declared.hint.Hint.TheVariants.{Here}
use Rattle.oc_routes.specs.declared.verdict.Request.{Request}
use Rattle.oc_routes.specs.declared.verdict.Verdict.{Verdict}
use Rattle.oc_routes.specs.declared.verdict.Verdict.TheVariants.{Wait, Leave, Permit, Refuse, Ask}

-- the terms by which requests are read: the node's id, the number of nodes, the access rules, and the keys of the network, where it has some
pub record NodeTerms : Type 0 where
  pub me : ℕ
  pub nodes : ℕ
  pub rules : List Rule
  pub keys : Option Keyring

abbrev pub terms_of : ℕ → ℕ → List Rule → Option Keyring → NodeTerms
terms_of me nodes rules keys = record { me = me; nodes = nodes; rules = rules; keys = keys }

-- the request of this number on the connection c
abbrev pub arrival : ℕ → ℕ → Bool → Coming → Arrival
arrival c number permitted coming = record { connection = c; number = number; permitted = permitted; coming = coming }

-- a request of this sender is refused; `kept` where the connection is kept
abbrev pub refuse : Asker → Option ℕ → Refused → Verdict
refuse asker kept why = Refuse (record { why = why; asker = asker; kept = kept })

-- a request is refused for a fault
abbrev pub refused_for : Asker → RouteFault → Verdict
refused_for asker (faults.Refused why) = refuse asker None why
refused_for asker faults.Memory = Wait

-- The verdict on a request of which the bytes so far are a part, `none` where none came. A connection that ended without a byte is left without a
-- word. Of a connection whose time ran out without a byte a link tells the same, or nothing.
abbrev pub unfinished : Coming → Bool → Verdict
unfinished Open none = Wait
unfinished Ended none = if none then Leave else refuse Client None refusals.Ended
unfinished Failed none = refuse Client None refusals.Source

abbrev pub is_none : List ℕ → Bool
is_none [] = true
is_none (b ∷ bytes) = false

-- a request that the node is to answer itself has no input
abbrev pub input_for : Hint → Option Input → Option Input
input_for Here input = None
input_for hint input = input

-- a whole request, with its body
abbrev pub answered : Head → Request → Result (Option Input) Refused → Verdict
answered head request (Ok input) = Ask (record request { input = input_for request.asked.hint input })
answered head request (Err why) = refuse (asker_of head) (kept_after request.last request.count) why

abbrev pub whole : NodeTerms → Head → Request → List ℕ → Verdict
whole t head request body =
    if is_forged t.keys request.asked.operation head.mac body then refuse (asker_of head) (kept_after request.last request.count) refusals.Mac
    else answered head request (input_asked t.nodes t.me request.asked.operation body)

-- the verdict on a head with this operation, with the bytes that came after it
abbrev pub with_body : NodeTerms → Arrival → ℕ → Head → List ℕ → Asked → Verdict
with_body t a came head rest said =
    if awaits_continue head && not a.permitted then Permit
    else if nat_lt (length rest) head.length then unfinished a.coming false
    else whole t head (record {
      count = came - length rest + head.length;
      asked = said;
      line = line_of head;
      selectors = selectors_for said.operation head.selectors;
      input = None;
      last = is_last head a.number;
    }) (take head.length rest)

abbrev pub routed : NodeTerms → Arrival → ℕ → Head → List ℕ → Result Asked Refused → Verdict
routed t a came head rest (Ok said) = with_body t a came head rest said
routed t a came head rest (Err why) = refuse (asker_of head) (kept_after_head head a.number (came - length rest)) why

-- the verdict on a whole head, with the bytes that came after it
abbrev pub after_head : NodeTerms → Arrival → ℕ → Head → List ℕ → Verdict
after_head t a came head rest = routed t a came head rest (asked_with_hint head t.rules)

-- the fault by which a reader of heads met no head; none where the bytes ended before
abbrev pub fault_met : HttpFault → Option RouteFault
fault_met http.Ended = None
fault_met fault = Some (fault_of_http fault)

-- no head was read
abbrev pub unread : Coming → Bool → Asker → Option RouteFault → Verdict
unread coming none asker None = unfinished coming none
unread coming none asker (Some fault) = refused_for asker fault

-- the bytes that a reader of heads took of these, of which it left those
abbrev pub taken : List ℕ → List ℕ → List ℕ
taken bytes rest = take (length bytes - length rest) bytes

-- the verdict on the answer of a reader of heads, with the bytes that it left; a head with a fault is a HEAD where it begins as one
abbrev pub verdict_for : NodeTerms → Arrival → List ℕ → List ℕ → Result Head HttpFault → Verdict
verdict_for t a bytes rest (Ok head) = after_head t a (length bytes) head rest
verdict_for t a bytes rest (Err fault) = unread a.coming (is_none bytes) (asker_in (taken bytes rest)) (fault_met fault)

-- The verdict on these bytes: the answer to a source that gives these bytes and then ends, where its end is that on the connection.
pub record IsVerdict (t : NodeTerms) (a : Arrival) (bytes : List ℕ) (v : Verdict) : Type 0 where
  pub answer : Result Head HttpFault
  pub rest : List ℕ
  pub answers : AnswersRequest bytes rest answer
  pub decided : IsDecided answer
  pub verdict : v ≡ verdict_for t a bytes rest answer
