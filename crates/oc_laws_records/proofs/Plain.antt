-- Each input that a running node takes is of a kind that records have, and each note is one line.
use Rattle.std.proofs.Common.{◌≡◌, ◌⊎◌, ℕ, ◌+◌, ◌-◌, ◌<◌, ◌≤◌, zero, suc, Bool, true, false, Option, None, Some, Result, Ok, Err, IfOk, IfSome, List, [], ◌∷◌, ◌++◌, length, take, inl, inr, sym, subst, arith}
use Rattle.std.specs.Prelude.{◌==◌, ◌&&◌, if◌then◌else◌, is_some, min, nat_lt, not, slice_get}
use Rattle.oc_base.proofs.Each.{all_append}
use Rattle.oc_base.specs.Groups.{shelf}
use Rattle.oc_base.specs.declared.limits.TheConstants.{MAX_TIME}
use Rattle.oc_link.specs.declared.call.Call.{Call}
use Rattle.oc_link.specs.declared.event.Arrival.{Arrival}
use Rattle.oc_link.specs.declared.event.Coming.{Coming}
use Rattle.oc_link.specs.declared.event.Coming.TheVariants.{Open, Ended, Failed}
use Rattle.oc_link.specs.declared.event.LinkEvent.{LinkEvent}
use Rattle.oc_link.specs.declared.event.LinkEvent.TheVariants as events
use Rattle.oc_http.specs.declared.fault.HttpFault.{HttpFault}
use Rattle.oc_http.specs.declared.head.Head.{Head}
use Rattle.oc_http.specs.declared.reply.Reply.{Reply}
use Rattle.oc_model.specs.declared.input.Input.{Input}
use Rattle.oc_model.specs.declared.input.Input.TheVariants as inputs
use Rattle.oc_model.specs.declared.message.Message.{Message}
use Rattle.oc_probe.specs.declared.fault.ProbeFault.{ProbeFault}
use Rattle.oc_probe.specs.declared.probing.Probing.{Probing}
use Rattle.oc_routes.proofs.Bodies.{IsOfBody, IsOfRequest, of_body}
use Rattle.oc_routes.specs.Askers.{asker_in, asker_of}
use Rattle.oc_routes.specs.declared.asker.Asker.{Asker}
use Rattle.oc_routes.specs.Conditions.{unmet}
use Rattle.oc_routes.specs.Connections.{awaits_continue, is_last, kept_after}
use Rattle.oc_routes.specs.Hints.{asked_with_hint}
use Rattle.oc_routes.specs.Macs.{is_forged}
use Rattle.oc_routes.specs.Routes.{input_asked}
use Rattle.oc_routes.specs.Selections.{input_by, line_of, selectors_for}
use Rattle.oc_select.specs.declared.selection.Selection.{Selection}
use Rattle.oc_select.specs.declared.selection.Selection.TheVariants as selections
use Rattle.oc_routes.specs.Verdicts.{IsVerdict, NodeTerms, answered, fault_met, input_for, is_none, refuse, routed, taken, unfinished, unread, verdict_for, whole, with_body}
use Rattle.oc_routes.specs.declared.fault.RouteFault.{RouteFault}
use Rattle.oc_routes.specs.declared.fault.RouteFault.TheVariants as faults
use Rattle.oc_routes.specs.declared.hint.Asked.{Asked}
use Rattle.oc_routes.specs.declared.hint.Hint.{Hint}
use Rattle.oc_routes.specs.declared.hint.Hint.TheVariants as hints
use Rattle.oc_routes.specs.declared.refused.Refused.{Refused}
use Rattle.oc_routes.specs.declared.verdict.Refusal.{Refusal}
use Rattle.oc_routes.specs.declared.refused.Refused.TheVariants as refusals
use Rattle.oc_routes.specs.declared.routes.Operation.{Operation}
use Rattle.oc_routes.specs.declared.routes.Operation.TheVariants as asks
use Rattle.oc_routes.specs.declared.verdict.Request.{Request}
use Rattle.oc_routes.specs.declared.verdict.Verdict.{Verdict}
use Rattle.oc_routes.specs.declared.verdict.Verdict.TheVariants as verdicts
use Rattle.oc_routes.specs.declared.waiting.Prospect.{Prospect}
use Rattle.oc_routes.specs.declared.waiting.Prospect.TheVariants as prospects
use Rattle.oc_routes.specs.declared.tally.MessageFault.{MessageFault}
use Rattle.oc_deeds.specs.Asks.{has_to_wait, obeys, refuses_or, responds, settled_at, takes_on, takes_up, waiting}
use Rattle.oc_deeds.specs.Brought.{comes_back, delivered_or, fault_of, input_of, input_of_reply, message_in, refused_of}
use Rattle.oc_deeds.specs.Choices.{next_to_dial, prospect_of, wait_for}
use Rattle.oc_deeds.specs.Deeds.{Deed, Looks, Reads, Running, Says, Sees, Setting, Takes, Tells, Waits, after, after_all, errand_in, Rejects, Rereads}
use Rattle.oc_deeds.specs.Hurries.{came_hurries}
use Rattle.oc_deeds.specs.Pace.{has_passed, wait_until}
use Rattle.oc_deeds.specs.Parts.{nothing, one, ◌>>◌}
use Rattle.oc_deeds.specs.Records.{told_ahead}
use Rattle.oc_deeds.specs.Rooms.{moves, room_for}
use Rattle.oc_deeds.specs.Rooms as rooms
use Rattle.oc_deeds.specs.Sends.{dials_at, dials_it, dials_next, sends}
use Rattle.oc_config.specs.Settings.{Settings}
use Rattle.oc_link.specs.declared.look.Look.{Look}
use Rattle.oc_deeds.specs.Rereading.{fitting, fresh, goes_by, looks_again, measured_by, settles, takes_measures}
use Rattle.oc_deeds.specs.declared.reread.Reread.{Reread}
use Rattle.oc_deeds.specs.declared.reread.Reread.TheVariants as rereads
use Rattle.oc_deeds.specs.declared.unfit.Unfit.{Unfit}
use Rattle.oc_deeds.specs.Telling.{takes_ahead}
use Rattle.oc_deeds.specs.Turns as turns
use Rattle.oc_deeds.specs.Turns.{terms_in, Means, MeansBack, Observation, takes_brought, takes_reply, deals, happens, measures, next_peer, probes_it, quickened, takes_at, takes_due, ticked, ticks, ticks_and_sends, ticks_if}
use Rattle.oc_deeds.specs.Works.{client_input, input_asked as input_of_client, pending, work_on}
use Rattle.oc_deeds.specs.declared.came.Came.{Came}
use Rattle.oc_deeds.specs.declared.came.Came.TheVariants as comes
use Rattle.oc_deeds.specs.declared.choosing.TheConstants.{MAX_DIALS}
use Rattle.oc_deeds.specs.declared.dials.Errand.{Errand}
use Rattle.oc_deeds.specs.declared.dials.Errand.TheVariants as errands
use Rattle.oc_deeds.specs.declared.pace.Pace.{Pace}
use Rattle.oc_deeds.specs.declared.work.Pending.{Pending}
use Rattle.oc_deeds.specs.declared.work.Transfer.{Transfer}
use Rattle.oc_deeds.specs.declared.work.Work.{Work}
use Rattle.oc_deeds.specs.declared.work.Work.TheVariants as works
use Rattle.oc_service.proofs.BorneOut.{due_or_none, front_of_few}
use Rattle.oc_service.specs.WhatNodeDoes.{Machine, begins, begun, after_turn, due_at, machine_after, node_deeds, own_measure, own_measures, turn_deeds, turns_deeds}
use Rattle.oc_service.specs.WhatNodeHears.{AreHeard, MayHear, calls_after}
use Rattle.oc_updown.specs.declared.measure_lines.Measure.{Measure}
use Rattle.oc_laws_records.specs.Kinds.{ArePlain, IsOfRecord, IsPlain}
use Rattle.oc_laws_records.proofs.OneLine.{probe_one}

plain_then : (ds es : List Deed) → ArePlain ds → ArePlain es → ArePlain (ds ++ es)
plain_then ds es first second = all_append IsPlain ds es first second

plain_front : (ds es : List Deed) → ArePlain (ds ++ es) → ArePlain ds
plain_front [] es all = tt
plain_front (d ∷ ds) es all = (all.0, plain_front ds es (all.1))

-- Ticks and messages

within_time : (seconds : ℕ) → min seconds MAX_TIME ≤ MAX_TIME
within_time seconds = grind arith

plain_ticks : (pace : Pace) (now seconds : ℕ) (s : Setting) (a : Running) → ArePlain (ticks pace now seconds s a)
plain_ticks pace now seconds s a = by_test (wait_until pace now == 0)
  where
    by_second : (b : Bool) → ArePlain ((one (Tells seconds) >> ticks_if b seconds) s a)
    by_second true = (tt, (tt, (within_time seconds, (tt, tt))))
    by_second false = (tt, tt)

    by_test : (b : Bool) → ArePlain ((if b then ticked pace.second seconds else nothing) s a)
    by_test true = by_second (has_passed pace.second seconds)
    by_test false = tt

plain_dial : (place : ℕ) (m : Option Message) (s : Setting) (a : Running) → ArePlain (dials_it place m s a)
plain_dial place None s a = tt
plain_dial place (Some m) s a = (tt, tt)

plain_at : (place : Option ℕ) (s : Setting) (a : Running) → ArePlain (dials_at place s a)
plain_at None s a = tt
plain_at (Some place) s a = plain_dial place (slice_get a.outbox place) s a

plain_sends : (n : ℕ) (s : Setting) (a : Running) → ArePlain (sends n s a)
unfolding sends
plain_sends zero s a = tt
plain_sends (suc n) s a =
    plain_then (dials_next s a) (sends n s (after_all (dials_next s a) a)) (plain_at (next_to_dial a.outbox a.dials) s a) (plain_sends n s (after_all (dials_next s a) a))

plain_end : (pace : Pace) (now seconds : ℕ) (s : Setting) (a : Running) → ArePlain (ticks_and_sends pace now seconds s a)
plain_end pace now seconds s a =
    let ds : List Deed = ticks pace now seconds s a in
    plain_then ds (sends MAX_DIALS s (after_all ds a)) (plain_ticks pace now seconds s a) (plain_sends MAX_DIALS s (after_all ds a))

-- The input of a request

abbrev AsksPlainly : Verdict → Type 0
AsksPlainly (verdicts.Ask request) = IfSome request.input IsOfRecord
AsksPlainly v = Unit {0}

kept_for : (hint : Hint) (input : Option Input) → IfSome input IsOfRecord → IfSome (input_for hint input) IsOfRecord
kept_for hints.Here input is = tt
kept_for hints.Plain input is = is
kept_for (hints.Of n) input is = is
kept_for hints.Known input is = is

answered_plain : (head : Head) (request : Request) (input : Result (Option Input) Refused) → IfOk input (λ (o : Option Input). IfSome o IsOfRecord) → AsksPlainly (answered head request input)
answered_plain head request (Ok input) is = kept_for request.asked.hint input is
answered_plain head request (Err why) is = tt

-- an input of a request is of a kind that records have
of_request : (i : Input) → IsOfRequest i → IsOfRecord i
of_request (inputs.Tick now) is = absurd is
of_request inputs.CheckNow is = is
of_request (inputs.Relocate peer) is = is
of_request (inputs.Pull peer) is = is
of_request i is = tt

given_plain : (asked : Operation) (r : Result (Option Input) Refused) → IsOfBody asked r → IfOk r (λ (o : Option Input). IfSome o IsOfRecord)
given_plain asked (Ok None) is = tt
given_plain asked (Ok (Some i)) is = of_request i is
given_plain asked (Err why) is = tt

asked_plain : (nodes me : ℕ) (asked : Operation) (body : List ℕ) → IfOk (input_asked nodes me asked body) (λ (o : Option Input). IfSome o IsOfRecord)
asked_plain nodes me asked body = given_plain asked (input_asked nodes me asked body) (of_body nodes me asked body)

unfinished_plain : (coming : Coming) (none : Bool) → AsksPlainly (unfinished coming none)
unfinished_plain Open none = tt
unfinished_plain Ended true = tt
unfinished_plain Ended false = tt
unfinished_plain Failed none = tt

body_plain : (t : NodeTerms) (x : Arrival) (came : ℕ) (head : Head) (rest : List ℕ) (said : Asked) → AsksPlainly (with_body t x came head rest said)
body_plain t x came head rest said = by_permit (awaits_continue head && not x.permitted)
  where
    request : Request
    request = record {
      count = came - length rest + head.length;
      asked = said;
      line = line_of head;
      selectors = selectors_for said.operation head.selectors;
      input = None;
      last = is_last head x.number;
    }

    body : List ℕ
    body = take head.length rest

    by_mac : (b : Bool) → AsksPlainly (if b then refuse (asker_of head) (kept_after request.last request.count) refusals.Mac else answered head request (input_asked t.nodes t.me said.operation body))
    by_mac true = tt
    by_mac false = answered_plain head request (input_asked t.nodes t.me said.operation body) (asked_plain t.nodes t.me said.operation body)

    by_length : (b : Bool) → AsksPlainly (if b then unfinished x.coming false else whole t head request body)
    by_length true = unfinished_plain x.coming false
    by_length false = by_mac (is_forged t.keys said.operation head.mac body)

    by_permit : (b : Bool) → AsksPlainly (if b then verdicts.Permit else if nat_lt (length rest) head.length then unfinished x.coming false else whole t head request body)
    by_permit true = tt
    by_permit false = by_length (nat_lt (length rest) head.length)

routed_plain : (t : NodeTerms) (x : Arrival) (came : ℕ) (head : Head) (rest : List ℕ) (asked : Result Asked Refused) → AsksPlainly (routed t x came head rest asked)
routed_plain t x came head rest (Ok said) = body_plain t x came head rest said
routed_plain t x came head rest (Err why) = tt

unread_plain : (coming : Coming) (none : Bool) (asker : Asker) (fault : Option RouteFault) → AsksPlainly (unread coming none asker fault)
unread_plain coming none asker None = unfinished_plain coming none
unread_plain coming none asker (Some (faults.Refused why)) = tt
unread_plain coming none asker (Some faults.Memory) = tt

verdict_plain : (t : NodeTerms) (x : Arrival) (bytes rest : List ℕ) (answer : Result Head HttpFault) → AsksPlainly (verdict_for t x bytes rest answer)
verdict_plain t x bytes rest (Ok head) = routed_plain t x (length bytes) head rest (asked_with_hint head t.rules)
verdict_plain t x bytes rest (Err fault) = unread_plain x.coming (is_none bytes) (asker_in (taken bytes rest)) (fault_met fault)

read_plain : (t : NodeTerms) (x : Arrival) (bytes : List ℕ) (v : Verdict) → IsVerdict t x bytes v → AsksPlainly v
read_plain t x bytes v is = subst (λ (w : Verdict). AsksPlainly w) (sym is.verdict) (verdict_plain t x bytes is.rest is.answer)

-- The deeds of a request

plain_responds : (r : Pending) (input : Option Input) (now : ℕ) (s : Setting) (a : Running) → IfSome input IsOfRecord → ArePlain (responds r input now s a)
plain_responds r None now s a is = (tt, tt)
plain_responds r (Some i) now s a is = (tt, (is, (tt, (tt, tt))))

-- a request that selects keeps its input, or loses it
kept_by : (chosen : Selection) (input : Option Input) → IfSome input IsOfRecord → IfSome (input_by chosen input) IsOfRecord
kept_by selections.NotModified input is = tt
kept_by selections.PreconditionFailed input is = tt
kept_by selections.Whole input is = is
kept_by (selections.Part start count) input is = is
kept_by selections.Unsatisfiable input is = is

taken_on : (c : ℕ) (request : Request) (now : ℕ) (s : Setting) (a : Running) → IfSome request.input IsOfRecord → ArePlain (takes_on c request now s a)
taken_on c request now s a is = by_condition (unmet request a.node.control.me (shelf a.node.groups))
  where
    here : Request
    here = settled_at a.node.groups request

    by_test : (b : Bool) → ArePlain (if b then Waits (waiting c here now) ∷ [] else responds (pending c here (is_some here.input) false) here.input now s a)
    by_test true = (tt, tt)
    by_test false = plain_responds (pending c here (is_some here.input) false) here.input now s a (kept_by here.asked.selection request.input is)

    by_condition : (why : Option Refusal) → ArePlain (refuses_or why c request now s a)
    by_condition (Some why) = (tt, tt)
    by_condition None = by_test (has_to_wait here a.node)

obeyed : (c count : ℕ) (v : Verdict) (now : ℕ) (s : Setting) (a : Running) → AsksPlainly v → ArePlain (obeys c count v now s a)
obeyed c count verdicts.Wait now s a is = tt
obeyed c count verdicts.Leave now s a is = (tt, tt)
obeyed c count verdicts.Permit now s a is = (tt, tt)
obeyed c count (verdicts.Refuse why) now s a is = (tt, tt)
obeyed c count (verdicts.Ask request) now s a is = taken_on c request now s a is

-- The deeds of other news

plain_moves : (p : Transfer) (now : ℕ) (what : Prospect) → ArePlain (moves p now what)
plain_moves p now prospects.Gives = (tt, tt)
plain_moves p now prospects.Waits = (tt, tt)
plain_moves p now prospects.Breaks = (tt, tt)

plain_room : (o : Option Work) (now : ℕ) (s : Setting) (a : Running) → ArePlain (room_for (rooms.transfer_of o) now s a)
plain_room None now s a = tt
plain_room (Some (works.Content p)) now s a = plain_moves p now (prospect_of p (shelf a.node.groups) now)
plain_room (Some (works.Aside p)) now s a = tt
plain_room (Some (works.Waits w)) now s a = tt

plain_measures : (probing : Option Probing) (peer : ℕ) (fault : Option ProbeFault) (median : ℕ) (s : Setting) (a : Running) → ArePlain (measures probing peer fault median s a)
plain_measures None peer None median s a = tt
plain_measures (Some probing) peer None median s a = (tt, (tt, tt))
plain_measures probing peer (Some fault) median s a = (probe_one peer fault, tt)

plain_brought : (input : Option Input) (s : Setting) (a : Running) → IfSome input IsOfRecord → ArePlain (takes_brought input s a)
plain_brought None s a is = tt
plain_brought (Some i) s a is = (tt, (is, (tt, tt)))

plain_reply_part : (input : Option Input) (refused : Option MessageFault) (s : Setting) (a : Running) → IfSome input IsOfRecord → ArePlain (takes_reply input refused s a)
plain_reply_part input None s a is = plain_brought input s a is
plain_reply_part input (Some fault) s a is = (tt, plain_brought input s (after (Rejects fault) a) is)

plain_probe : (peer : Option ℕ) (started : ℕ) (s : Setting) (a : Running) → ArePlain (probes_it peer started s a)
plain_probe None started s a = tt
plain_probe (Some peer) started s a = (tt, (tt, tt))

-- the deeds for a message's reply
delivered_plain : (peer : ℕ) (message : Option Message) → IsOfRecord (delivered_or peer message)
delivered_plain peer None = tt
delivered_plain peer (Some message) = tt

reply_plain : (t : NodeTerms) (peer : ℕ) (reply : Reply) → IfSome (input_of_reply t.me t.nodes t.keys peer reply) IsOfRecord
reply_plain t peer reply = by_test (reply.status == 204)
  where
    by_test : (b : Bool) → IfSome (if b then None else Some (delivered_or peer (message_in t.me t.nodes t.keys reply))) IsOfRecord
    by_test true = tt
    by_test false = delivered_plain peer (message_in t.me t.nodes t.keys reply)

input_plain : (t : NodeTerms) (peer : ℕ) (reading : Result Reply HttpFault) → IfSome (input_of t.me t.nodes t.keys peer reading) IsOfRecord
input_plain t peer (Ok reply) = reply_plain t peer reply
input_plain t peer (Err fault) = tt

-- the reply on a dial
back_plain : (t : NodeTerms) (errand : Errand) (reading : Result Reply HttpFault) (probing : Option Probing) (now median started : ℕ) (s : Setting) (a : Running)
    → ArePlain (happens probing (comes_back t.me t.nodes t.keys errand reading) now median started s a)
back_plain t (errands.Message to fetch) reading probing now median started s a = plain_reply_part (input_of t.me t.nodes t.keys to reading) (refused_of t.me t.nodes t.keys to reading) s a (input_plain t to reading)
back_plain t (errands.Probe peer since) reading probing now median started s a = plain_measures probing peer (fault_of reading) median s a

nothing_plain : (probing : Option Probing) (now median started : ℕ) (s : Setting) (a : Running) → ArePlain (happens probing comes.Nothing now median started s a)
nothing_plain probing now median started s a = plain_probe (next_peer probing a.dials) started s a

back_means : (t : NodeTerms) (lent : List ℕ) (errand : Option Errand) (coming : Coming) (came : Came) → MeansBack t lent errand coming came
    → (probing : Option Probing) (now median started : ℕ) (s : Setting) (a : Running) → ArePlain (happens probing came now median started s a)
back_means t lent None coming came means probing now median started s a =
    subst (λ (x : Came). ArePlain (happens probing x now median started s a)) (sym means) (nothing_plain probing now median started s a)
back_means t lent (Some errand) coming came means probing now median started s a =
    subst (λ (x : Came). ArePlain (happens probing x now median started s a)) (sym (means.3)) (back_plain t errand (means.0) probing now median started s a)

-- the deeds for the meaning of an event
happened : (t : NodeTerms) (lent : List ℕ) (errand : Option Errand) (event : LinkEvent) (came : Came) → Means t lent errand event came
    → (probing : Option Probing) (now median started : ℕ) (s : Setting) (a : Running) → ArePlain (happens probing came now median started s a)
happened t lent errand (events.Request x) came means probing now median started s a =
    subst (λ (y : Came). ArePlain (happens probing y now median started s a)) (sym (means.2))
    (obeyed x.connection (length lent) (means.0) now s a (read_plain t x lent (means.0) (means.1)))
happened t lent errand (events.Room d) came means probing now median started s a =
    subst (λ (y : Came). ArePlain (happens probing y now median started s a)) (sym means) (plain_room (work_on d a.works) now s a)
happened t lent errand (events.Gone d loss) came means probing now median started s a =
    subst (λ (y : Came). ArePlain (happens probing y now median started s a)) (sym means) (tt, tt)
happened t lent errand (events.Reply d coming) came means probing now median started s a = back_means t lent errand coming came means probing now median started s a
happened t lent errand events.Quiet came means probing now median started s a =
    subst (λ (y : Came). ArePlain (happens probing y now median started s a)) (sym means) (nothing_plain probing now median started s a)

-- Turns

-- the input of a client that waits
client_plain : (asked : Asked) → IfSome (client_input asked) IsOfRecord
client_plain asked = kept_by asked.selection (input_for asked.hint (input_of_client asked.operation)) (kept_for asked.hint (input_of_client asked.operation) (by_operation asked.operation))
  where
    by_operation : (operation : Operation) → IfSome (input_of_client operation) IsOfRecord
    by_operation (asks.Client group area start manner) = tt
    by_operation other = tt

taken_up : (o : Option Work) (now : ℕ) (s : Setting) (a : Running) → ArePlain (takes_up o now s a)
taken_up None now s a = tt
taken_up (Some (works.Content p)) now s a = tt
taken_up (Some (works.Aside p)) now s a = plain_moves p now (prospect_of p (shelf a.node.groups) now)
taken_up (Some (works.Waits w)) now s a =
    plain_responds (pending w.connection w.request (is_some (client_input w.request.asked)) true) (client_input w.request.asked) now s a (client_plain w.request.asked)

plain_due : (pace : Pace) (o : Option Work) (before seconds : ℕ) (s : Setting) (a : Running) → ArePlain (takes_due pace o before seconds s a)
plain_due pace o before seconds s a =
    let ds : List Deed = takes_up o before s a in
    plain_then ds (ticks_and_sends pace before seconds s (after_all ds a)) (taken_up o before s a) (plain_end pace before seconds s (after_all ds a))

dealt : (pace : Pace) (probing : Option Probing) (came : Came) (now median started seconds : ℕ) (s : Setting) (a : Running) → ArePlain (happens probing came now median started s a)
    → ArePlain (deals pace probing came now median started seconds s a)
dealt pace probing came now median started seconds s a plain =
    let ds : List Deed = happens probing came now median started s a in
    let soon : Pace = quickened (came_hurries came a.node) pace in
    plain_then ds (ticks_and_sends soon now seconds s (after_all ds a)) plain (plain_end soon now seconds s (after_all ds a))

turn_at : (terms : NodeTerms) (calls : Option (List Call)) (due : Option ℕ) (s : Setting) (t : Observation) (m : Machine) → MayHear terms calls due t m
    → ArePlain (Reads t.before ∷ takes_at due m.pace m.probing t s m.running)
turn_at terms calls None s t m heard =
    let behind : Running = after (Sees t.event (wait_for m.pace m.running.works t.before) t.bytes) m.running in
    (tt, (tt, (tt, dealt m.pace m.probing t.came t.now t.median t.started t.seconds s behind (happened terms heard.lent (errand_in t.event m.running.dials) t.event t.came heard.means m.probing t.now t.median t.started s behind))))
turn_at terms calls (Some place) s t m heard = (tt, plain_due m.pace (slice_get m.running.works place) t.before t.seconds s m.running)

-- A configuration that was read again

plain_measured : (ms : List Measure) (s : Setting) (a : Running) → ArePlain (takes_measures ms s a)
unfolding takes_measures
plain_measured [] s a = tt
plain_measured (m ∷ ms) s a = (tt, (tt, plain_measured ms s (after_all (takes_ahead (measured_by m) s a) a)))

plain_settled : (o : Result Settings Unfit) (old : Settings) (s : Setting) (a : Running) → ArePlain (settles o old s a)
plain_settled (Err why) old s a = (tt, tt)
plain_settled (Ok new) old s a = (tt, plain_measured (fresh s.me old new) s (after (Rereads new) a))

plain_by : (r : Reread) (s : Setting) (a : Running) → ArePlain (goes_by r s a)
plain_by rereads.Nothing s a = tt
plain_by (rereads.Unfit why) s a = (tt, tt)
plain_by (rereads.Config new) s a = plain_settled (fitting s a.config new) a.config s a

plain_looks : (look : Look) (r : Reread) (s : Setting) (a : Running) → ArePlain (looks_again look r s a)
plain_looks look r s a = (tt, plain_by r s (after (Looks look) a))

turn_plain : (terms : NodeTerms) (calls : Option (List Call)) (s : Setting) (t : Observation) (m : Machine) → MayHear terms calls (due_at t m) t m → ArePlain (turn_deeds s t m)
turn_plain terms calls s t m heard =
    let ds : List Deed = turns.dealt m.pace m.probing t s m.running in
    plain_then ds (looks_again t.look t.reread s (after_all ds m.running)) (turn_at terms calls (due_at t m) s t m heard) (plain_looks t.look t.reread s (after_all ds m.running))

turns_plain : (calls : Option (List Call)) (s : Setting) (ts : List Observation) (m : Machine) → AreHeard s calls ts m → ArePlain (turns_deeds s ts m)
turns_plain calls s [] m heard = tt
turns_plain calls s (t ∷ ts) m heard =
    plain_then (turn_deeds s t m) (turns_deeds s ts (after_turn s t m)) (turn_plain (terms_in s m.running) calls s t m (heard.0.0))
    (turns_plain (calls_after s t m calls) s ts (after_turn s t m) (heard.1))

-- All that a node does

own_one : (text : List ℕ) (x : Measure) (b : Bool) → ArePlain (if b then Says text ∷ Takes (inputs.Measured x.peer x.rate x.hops) ∷ [] else [])
own_one text x true = (tt, (tt, tt))
own_one text x false = tt

own_plain : (s : Setting) (ms : List Measure) → ArePlain (own_measures s ms)
own_plain s [] = tt
own_plain s (x ∷ ms) =
    plain_then (own_measure s x) (own_measures s ms) (own_one (told_ahead s.log s.me (inputs.Measured x.peer x.rate x.hops)) x (x.from == s.me)) (own_plain s ms)

pub node_plain : (s : Setting) (calls : Option (List Call)) (ms : List Measure) (ts : List Observation) (m : Machine) → AreHeard s calls ts (begun s ms m)
    → ArePlain (node_deeds s ms ts m)
node_plain s calls ms ts m heard =
    plain_then (begins s ms m.running.node) (turns_deeds s ts (begun s ms m)) (tt, own_plain s ms) (turns_plain calls s ts (begun s ms m) heard)

-- An early end

-- a turn in which nothing is due begins with three deeds that take nothing
plain_begin : (due : Option ℕ) (s : Setting) (t : Observation) (m : Machine) (more : List Deed) → due ≡ None → ArePlain (take 3 ((Reads t.before ∷ takes_at due m.pace m.probing t s m.running) ++ more))
plain_begin None s t m more none = (tt, (tt, (tt, tt)))
plain_begin (Some place) s t m more none = let no : Some place ≡ None = none in absurd (cc no)

-- a front of all, and of one more turn
module _ (s : Setting) (terms : NodeTerms) (calls : Option (List Call)) (ms : List Measure) (ts : List Observation) (last : Observation) (m : Machine) (heard : AreHeard s calls ts (begun s ms m)) where
  abbrev all : List Deed
  all = node_deeds s ms ts m

  abbrev turn : List Deed
  turn = turn_deeds s last (machine_after s ms ts m)

  -- its look at the configuration
  abbrev look : List Deed
  look =
      let here = machine_after s ms ts m in
      looks_again last.look last.reread s (after_all (turns.dealt here.pace here.probing last s here.running) here.running)

  abbrev due : Option ℕ
  due = due_at last (machine_after s ms ts m)

  pub front_plain : (deeds behind : List Deed) (later : Option (List Call)) → all ++ turn ≡ deeds ++ behind
      → (length deeds < length all + 3) ⊎ MayHear terms later due last (machine_after s ms ts m) → ArePlain deeds
  front_plain deeds behind later cut last_heard = by_heard last_heard
    where
      by_whole : MayHear terms later due last (machine_after s ms ts m) → ArePlain deeds
      by_whole heard_last =
          plain_front deeds behind (subst (λ (ds : List Deed). ArePlain ds) cut
          (plain_then all turn (node_plain s calls ms ts m heard) (turn_plain terms later s last (machine_after s ms ts m) heard_last)))

      by_few : length deeds < length all + 3 → due ≡ None → ArePlain deeds
      by_few few none =
          let front = front_of_few deeds behind all turn 3 cut (omega (arith, few)) in
          plain_front deeds (front.0) (subst (λ (ds : List Deed). ArePlain ds) (front.1)
          (plain_then all (take 3 turn) (node_plain s calls ms ts m heard) (plain_begin due s last (machine_after s ms ts m) look none)))

      by_due : length deeds < length all + 3 → (due ≡ None) ⊎ ((place : ℕ) × (due ≡ Some place)) → ArePlain deeds
      by_due few (inl none) = by_few few none
      by_due few (inr there) = by_whole (subst (λ (o : Option ℕ). MayHear terms later o last (machine_after s ms ts m)) (sym (there.1)) tt)

      by_heard : (length deeds < length all + 3) ⊎ MayHear terms later due last (machine_after s ms ts m) → ArePlain deeds
      by_heard (inl few) = by_due few (due_or_none due)
      by_heard (inr heard_last) = by_whole heard_last
