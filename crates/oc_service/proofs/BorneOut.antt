-- A line that tells of a failure is written only where the link told of one.
use Rattle.std.proofs.Common.{◌≡◌, ◌⊎◌, ◌∙◌, ℕ, ◌+◌, ◌-◌, ◌<◌, ◌≤◌, zero, suc, Bool, true, false, Option, None, Some, Result, Ok, Err, List, [], ◌∷◌, ◌++◌, length, take, drop, inl, inr, refl, sym, ap, subst, arith, length-append}
use Rattle.std.specs.Prelude.{◌==◌, ◌&&◌, if◌then◌else◌, IsTrue, is_some, nat_lt, not, option_map, slice_get}
use Rattle.std.proofs.lemmas.Bool.{false≢true}
use Rattle.std.proofs.lemmas.List.{append_assoc, take-append-drop}
use Rattle.oc_base.specs.Groups.{shelf}
use Rattle.oc_base.specs.declared.shelf.Shelf.{Shelf}
use Rattle.oc_link.specs.Counts.{CountsEvent}
use Rattle.oc_io.specs.Faults.{Rose}
use Rattle.oc_link.specs.Failures.{RisesAt, fails_reading, has_failed, is_failure}
use Rattle.oc_link.specs.declared.call.Call.{Call}
use Rattle.oc_link.specs.declared.counts.LinkCounts.{LinkCounts}
use Rattle.oc_link.specs.declared.event.Arrival.{Arrival}
use Rattle.oc_link.specs.declared.event.Coming.{Coming}
use Rattle.oc_link.specs.declared.event.Coming.TheVariants.{Open, Ended, Failed}
use Rattle.oc_link.specs.declared.event.LinkEvent.{LinkEvent}
use Rattle.oc_link.specs.declared.event.LinkEvent.TheVariants as events
use Rattle.oc_link.specs.declared.event.Loss.{Loss}
use Rattle.oc_link.specs.declared.event.Loss.TheVariants as losses
use Rattle.oc_http.specs.Answers.{IsDecided}
use Rattle.oc_http.specs.declared.fault.HttpFault.{HttpFault}
use Rattle.oc_http.specs.declared.fault.HttpFault.TheVariants as http
use Rattle.oc_http.specs.declared.head.Head.{Head}
use Rattle.oc_http.specs.declared.reply.Reply.{Reply}
use Rattle.oc_model.specs.declared.input.Input.{Input}
use Rattle.oc_model.specs.declared.input.Input.TheVariants.{Measured}
use Rattle.oc_model.specs.declared.message.Message.{Message}
use Rattle.oc_probe.specs.declared.fault.ProbeFault.{ProbeFault}
use Rattle.oc_probe.specs.declared.probing.Probing.{Probing}
use Rattle.oc_routes.specs.Askers.{asker_in, asker_of}
use Rattle.oc_routes.specs.declared.asker.Asker.{Asker}
use Rattle.oc_routes.specs.declared.asker.Asker.TheVariants as askers
use Rattle.oc_routes.specs.Conditions.{unmet, unmet_at, unmet_by, unmet_in}
use Rattle.oc_routes.specs.Hints.{asked_with_hint}
use Rattle.oc_routes.specs.Macs.{is_forged}
use Rattle.oc_routes.specs.Refusals.{refusing}
use Rattle.oc_routes.specs.Verdicts.{IsVerdict, NodeTerms, answered, is_none, refuse, routed, taken, unfinished, verdict_for, whole, with_body}
use Rattle.oc_routes.specs.Waits.{holding}
use Rattle.oc_routes.specs.declared.hint.Asked.{Asked}
use Rattle.oc_routes.specs.declared.verdict.Request.{Request}
use Rattle.oc_routes.specs.declared.verdict.Verdict.{Verdict}
use Rattle.oc_routes.specs.declared.verdict.Verdict.TheVariants as verdicts
use Rattle.oc_routes.specs.declared.waiting.Prospect.{Prospect}
use Rattle.oc_routes.specs.declared.waiting.Prospect.TheVariants as prospects
use Rattle.oc_routes.specs.Connections.{awaits_continue, is_last, kept_after, kept_after_head}
use Rattle.oc_routes.specs.Routes.{input_asked}
use Rattle.oc_routes.specs.Selections.{line_of, selectors_for}
use Rattle.oc_routes.specs.declared.refused.Refused.{Refused}
use Rattle.oc_routes.specs.declared.verdict.Refusal.{Refusal}
use Rattle.oc_routes.specs.declared.refused.Refused.TheVariants as refusals
use Rattle.oc_routes.specs.declared.routes.Operation.{Operation}
use Rattle.oc_routes.specs.declared.routes.Operation.TheVariants as asks
use Rattle.oc_routes.specs.declared.tally.MessageFault.{MessageFault}
use Rattle.oc_deeds.specs.Asks.{has_to_wait, obeys, refuses_or, responds, settled_at, takes_on, takes_up, waiting}
use Rattle.oc_deeds.specs.Brought.{comes_back, fault_of, input_of, refused_of}
use Rattle.oc_deeds.specs.Choices.{next_to_dial, prospect_of, wait_for}
use Rattle.oc_deeds.specs.Deeds.{Deed, Drops, Reads, Refuses, Running, Says, Sees, Setting, Takes, Tells, Waits, after, after_all, errand_in, Looks, Rejects, Rereads}
use Rattle.oc_deeds.specs.Hurries.{came_hurries}
use Rattle.oc_deeds.specs.Pace.{has_passed, wait_until}
use Rattle.oc_deeds.specs.Parts.{nothing, one, ◌>>◌}
use Rattle.oc_deeds.specs.Records.{told_ahead}
use Rattle.oc_deeds.specs.Rooms.{is_told, moves, takes_room, room_for}
use Rattle.oc_deeds.specs.Rooms as rooms
use Rattle.oc_deeds.specs.Done.{CountsAll}
use Rattle.oc_deeds.specs.Sends.{dials_at, dials_it, dials_next, sends}
use Rattle.oc_config.specs.Settings.{Settings}
use Rattle.oc_link.specs.declared.look.Look.{Look}
use Rattle.oc_deeds.specs.Rereading.{fitting, fresh, goes_by, looks_again, measured_by, settles, takes_measures}
use Rattle.oc_deeds.specs.declared.reread.Reread.{Reread}
use Rattle.oc_deeds.specs.declared.reread.Reread.TheVariants as rereads
use Rattle.oc_deeds.specs.declared.unfit.Unfit.{Unfit}
use Rattle.oc_deeds.specs.Telling.{takes_ahead}
use Rattle.oc_deeds.specs.Turns as turns
use Rattle.oc_deeds.specs.Turns.{terms_in, Means, MeansBack, Observation, takes_brought, takes_reply, deals, happens, measures, next_peer, probes_it, quickened, takes_at, takes_due, ticked, ticks, ticks_and_sends, ticks_if}
use Rattle.oc_deeds.specs.Works.{client_input, pending, work_on}
use Rattle.oc_deeds.specs.declared.came.Came.{Came}
use Rattle.oc_deeds.specs.declared.came.Came.TheVariants as comes
use Rattle.oc_deeds.specs.declared.choosing.TheConstants.{MAX_DIALS}
use Rattle.oc_deeds.specs.declared.dials.Errand.{Errand}
use Rattle.oc_deeds.specs.declared.dials.Errand.TheVariants as errands
use Rattle.oc_deeds.specs.declared.pace.Pace.{Pace}
use Rattle.oc_deeds.specs.declared.work.Pending.{Pending}
use Rattle.oc_deeds.specs.declared.work.Transfer.{Transfer}
use Rattle.oc_deeds.specs.declared.work.Work.{Work}
use Rattle.oc_deeds.specs.declared.work.Work.TheVariants as works
use Rattle.oc_updown.specs.declared.measure_lines.Measure.{Measure}
use Rattle.oc_service.proofs.HeadFaults.{IsOther, IsSpared, body_spared, head_spared}
use Rattle.oc_service.specs.Failures.{AreBorneOut, IsBorneOut, IsFailure, RiseForLines, RisesFor, told_last}
use Rattle.oc_service.specs.WhatNodeDoes.{Machine, begins, begun, after_turn, due_at, machine_after, node_deeds, own_measure, own_measures, turn_deeds, turns_deeds}
use Rattle.oc_service.specs.WhatNodeHears.{AreHeard, MayHear, calls_after}

-- Deeds that tell of no failure

abbrev is_mild : Deed → Bool
is_mild (Refuses c count why) = false
is_mild (Drops c told) = false
is_mild d = true

abbrev all_mild : List Deed → Bool
all_mild [] = true
all_mild (d ∷ ds) = is_mild d && all_mild ds

both : (a b : Bool) → (a && b) ≡ true → (a ≡ true) × (b ≡ true)
both true b is = (refl, is)
both false b is = absurd (false≢true is)

mild_one : (event : LinkEvent) (d : Deed) → is_mild d ≡ true → IsBorneOut event d
mild_one event (Refuses c count why) is = absurd (false≢true is)
mild_one event (Drops c told) is = absurd (false≢true is)
mild_one event d is = tt

borne_mild : (event : LinkEvent) (ds : List Deed) → all_mild ds ≡ true → AreBorneOut event ds
borne_mild event [] is = tt
borne_mild event (d ∷ ds) is =
    let parts = both (is_mild d) (all_mild ds) is in
    (mild_one event d (parts.0), borne_mild (told_last event d) ds (parts.1))

mild_then : (ds es : List Deed) → all_mild ds ≡ true → all_mild es ≡ true → all_mild (ds ++ es) ≡ true
mild_then [] es first second = second
mild_then (d ∷ ds) es first second =
    let parts = both (is_mild d) (all_mild ds) first in
    ap (λ (b : Bool). b && all_mild (ds ++ es)) (parts.0) ∙ mild_then ds es (parts.1) second

one_at_most : (ds : List Deed) → length (take 1 ds) ≤ 1
one_at_most [] = omega arith
one_at_most (d ∷ ds) = omega arith

-- deeds after which any may come
borne_then : (event : LinkEvent) (ds es : List Deed) → AreBorneOut event ds → ((last : LinkEvent) → AreBorneOut last es) → AreBorneOut event (ds ++ es)
borne_then event [] es first more = more event
borne_then event (d ∷ ds) es first more = (first.0, borne_then (told_last event d) ds es (first.1) more)

borne_front : (event : LinkEvent) (ds es : List Deed) → AreBorneOut event (ds ++ es) → AreBorneOut event ds
borne_front event [] es all = tt
borne_front event (d ∷ ds) es all = (all.0, borne_front (told_last event d) ds es (all.1))

-- Ticks and messages

mild_ticks : (pace : Pace) (now seconds : ℕ) (s : Setting) (a : Running) → all_mild (ticks pace now seconds s a) ≡ true
mild_ticks pace now seconds s a = by_test (wait_until pace now == 0)
  where
    by_second : (b : Bool) → all_mild ((one (Tells seconds) >> ticks_if b seconds) s a) ≡ true
    by_second true = refl
    by_second false = refl

    by_test : (b : Bool) → all_mild ((if b then ticked pace.second seconds else nothing) s a) ≡ true
    by_test true = by_second (has_passed pace.second seconds)
    by_test false = refl

mild_dial : (place : ℕ) (m : Option Message) (s : Setting) (a : Running) → all_mild (dials_it place m s a) ≡ true
mild_dial place None s a = refl
mild_dial place (Some m) s a = refl

mild_at : (place : Option ℕ) (s : Setting) (a : Running) → all_mild (dials_at place s a) ≡ true
mild_at None s a = refl
mild_at (Some place) s a = mild_dial place (slice_get a.outbox place) s a

mild_sends : (n : ℕ) (s : Setting) (a : Running) → all_mild (sends n s a) ≡ true
unfolding sends
mild_sends zero s a = refl
mild_sends (suc n) s a =
    mild_then (dials_next s a) (sends n s (after_all (dials_next s a) a)) (mild_at (next_to_dial a.outbox a.dials) s a) (mild_sends n s (after_all (dials_next s a) a))

mild_end : (pace : Pace) (now seconds : ℕ) (s : Setting) (a : Running) → all_mild (ticks_and_sends pace now seconds s a) ≡ true
mild_end pace now seconds s a =
    let ds : List Deed = ticks pace now seconds s a in
    mild_then ds (sends MAX_DIALS s (after_all ds a)) (mild_ticks pace now seconds s a) (mild_sends MAX_DIALS s (after_all ds a))

-- Requests that were read

-- a verdict that refuses a request as a call that failed only where one failed
abbrev FailsBy : Bool → Verdict → Type 0
FailsBy failed (verdicts.Refuse refusal) = refusal.why ≡ refusals.Source → failed ≡ true
FailsBy failed v = Unit {0}

other_fails : (failed : Bool) (asker : Asker) (kept : Option ℕ) (why : Refused) → IsOther why → FailsBy failed (refuse asker kept why)
other_fails failed asker kept why other = λ is. absurd (subst (λ (x : Refused). IsOther x) is other)

unfinished_fails : (coming : Coming) (none : Bool) → FailsBy (has_failed coming) (unfinished coming none)
unfinished_fails Open none = tt
unfinished_fails Ended true = tt
unfinished_fails Ended false = other_fails false askers.Client None refusals.Ended tt
unfinished_fails Failed none = λ is. refl

answered_fails : (failed : Bool) (head : Head) (request : Request) (input : Result (Option Input) Refused) → IsSpared input → FailsBy failed (answered head request input)
answered_fails failed head request (Ok input) spared = tt
answered_fails failed head request (Err why) spared = other_fails failed (asker_of head) (kept_after request.last request.count) why spared

body_fails : (t : NodeTerms) (x : Arrival) (came : ℕ) (head : Head) (rest : List ℕ) (said : Asked) → FailsBy (has_failed x.coming) (with_body t x came head rest said)
body_fails t x came head rest said = by_permit (awaits_continue head && not x.permitted)
  where
    request : Request
    request = record {
      count = came - length rest + head.length;
      asked = said;
      line = line_of head;
      selectors = selectors_for said.operation head.selectors;
      input = None;
      last = is_last head x.number;
    }

    body : List ℕ
    body = take head.length rest

    by_mac : (b : Bool) → FailsBy (has_failed x.coming) (if b then refuse (asker_of head) (kept_after request.last request.count) refusals.Mac else answered head request (input_asked t.nodes t.me said.operation body))
    by_mac true = other_fails (has_failed x.coming) (asker_of head) (kept_after request.last request.count) refusals.Mac tt
    by_mac false = answered_fails (has_failed x.coming) head request (input_asked t.nodes t.me said.operation body) (body_spared t.nodes t.me said.operation body)

    by_length : (b : Bool) → FailsBy (has_failed x.coming) (if b then unfinished x.coming false else whole t head request body)
    by_length true = unfinished_fails x.coming false
    by_length false = by_mac (is_forged t.keys said.operation head.mac body)

    by_permit : (b : Bool) → FailsBy (has_failed x.coming) (if b then verdicts.Permit else if nat_lt (length rest) head.length then unfinished x.coming false else whole t head request body)
    by_permit true = tt
    by_permit false = by_length (nat_lt (length rest) head.length)

routed_fails : (t : NodeTerms) (x : Arrival) (came : ℕ) (head : Head) (rest : List ℕ) (asked : Result Asked Refused) → IsSpared asked → FailsBy (has_failed x.coming) (routed t x came head rest asked)
routed_fails t x came head rest (Ok said) spared = body_fails t x came head rest said
routed_fails t x came head rest (Err why) spared = other_fails (has_failed x.coming) (asker_of head) (kept_after_head head x.number (came - length rest)) why spared

verdict_fails : (t : NodeTerms) (x : Arrival) (bytes rest : List ℕ) (answer : Result Head HttpFault) → IsDecided answer → FailsBy (has_failed x.coming) (verdict_for t x bytes rest answer)
verdict_fails t x bytes rest (Ok head) decided = routed_fails t x (length bytes) head rest (asked_with_hint head t.rules) (head_spared head t.rules)
verdict_fails t x bytes rest (Err http.Source) decided = absurd decided
verdict_fails t x bytes rest (Err http.Ended) decided = unfinished_fails x.coming (is_none bytes)
verdict_fails t x bytes rest (Err http.Head) decided = other_fails (has_failed x.coming) (asker_in (taken bytes rest)) None refusals.Head tt
verdict_fails t x bytes rest (Err http.HeadLong) decided = other_fails (has_failed x.coming) (asker_in (taken bytes rest)) None refusals.HeadLong tt
verdict_fails t x bytes rest (Err http.Fields) decided = other_fails (has_failed x.coming) (asker_in (taken bytes rest)) None refusals.Fields tt
verdict_fails t x bytes rest (Err http.Host) decided = other_fails (has_failed x.coming) (asker_in (taken bytes rest)) None refusals.Host tt
verdict_fails t x bytes rest (Err (http.Coding both)) decided = other_fails (has_failed x.coming) (asker_in (taken bytes rest)) None (refusals.Coding both) tt
verdict_fails t x bytes rest (Err (http.Length missing)) decided = other_fails (has_failed x.coming) (asker_in (taken bytes rest)) None (refusals.Length missing) tt
verdict_fails t x bytes rest (Err http.BodyLong) decided = other_fails (has_failed x.coming) (asker_in (taken bytes rest)) None refusals.BodyLong tt
verdict_fails t x bytes rest (Err http.Memory) decided = absurd decided

read_fails : (t : NodeTerms) (x : Arrival) (bytes : List ℕ) (v : Verdict) → IsVerdict t x bytes v → FailsBy (has_failed x.coming) v
read_fails t x bytes v is = subst (λ (w : Verdict). FailsBy (has_failed x.coming) w) (sym is.verdict) (verdict_fails t x bytes is.rest is.answer is.decided)

-- The deeds of a request

failure_of : (why : Refused) (failed : Type 0) → (why ≡ refusals.Source → failed) → IsFailure why failed
failure_of refusals.Source failed fails = fails refl
failure_of why failed fails = tt

refused : (event : LinkEvent) (c count : ℕ) (refusal : Refusal) → (refusal.why ≡ refusals.Source → IsTrue (fails_reading event)) → IsBorneOut event (Refuses c count refusal)
refused event c count refusal fails = failure_of refusal.why (IsTrue (fails_reading event)) fails

-- a condition that is not met is no failure
unmet_by_other : (held : ℕ) (at : Option ℕ) (why : Refused) → unmet_by held at ≡ Some why → IsOther why
unmet_by_other held None why is = let none : None ≡ Some why = is in absurd (cc none)
unmet_by_other held (Some at) why is = by_test (held == at) is
  where
    by_test : (b : Bool) → (if b then None else Some (refusals.At held)) ≡ Some why → IsOther why
    by_test true is = let none : None ≡ Some why = is in absurd (cc none)
    by_test false is =
        let some : Some (refusals.At held) ≡ Some why = is in
        let same : refusals.At held ≡ why = cc in
        subst (λ (x : Refused). IsOther x) same tt

unmet_at_other : (me : ℕ) (group : List ℕ) (at : Option ℕ) (lines : List Shelf) (why : Refused) → unmet_at me group at lines ≡ Some why → IsOther why
unmet_at_other me group at lines why is = by_test (me == 1) is
  where
    by_test : (b : Bool) → (if b then unmet_by (holding group lines).held at else None) ≡ Some why → IsOther why
    by_test true is = unmet_by_other (holding group lines).held at why is
    by_test false is = let none : None ≡ Some why = is in absurd (cc none)

unmet_in_other : (asked : Operation) (me : ℕ) (lines : List Shelf) (why : Refused) → unmet_in asked me lines ≡ Some why → IsOther why
unmet_in_other (asks.Publish group at) me lines why is = unmet_at_other me group at lines why is
unmet_in_other (asks.Seal group at) me lines why is = unmet_at_other me group at lines why is
unmet_in_other other me lines why is = let none : None ≡ Some why = is in absurd (cc none)

-- a refusal that was made of a fault has that fault
refusing_other : (kept : Option ℕ) (found : Option Refused) (refusal : Refusal) → ((why : Refused) → found ≡ Some why → IsOther why) → option_map (refusing kept) found ≡ Some refusal → IsOther refusal.why
refusing_other kept None refusal others is = let none : None ≡ Some refusal = is in absurd (cc none)
refusing_other kept (Some why) refusal others is =
    let some : Some (refusing kept why) ≡ Some refusal = is in
    let same : refusing kept why ≡ refusal = cc in
    subst (λ (x : Refusal). IsOther x.why) same (others why refl)

unmet_other : (request : Request) (me : ℕ) (lines : List Shelf) (refusal : Refusal) → unmet request me lines ≡ Some refusal → IsOther refusal.why
unmet_other request me lines refusal is =
    refusing_other (kept_after request.last request.count) (unmet_in request.asked.operation me lines) refusal (λ why found. unmet_in_other request.asked.operation me lines why found) is

mild_responds : (r : Pending) (input : Option Input) (now : ℕ) (s : Setting) (a : Running) → all_mild (responds r input now s a) ≡ true
mild_responds r None now s a = refl
mild_responds r (Some i) now s a = refl

taken_on : (event : LinkEvent) (c : ℕ) (request : Request) (now : ℕ) (s : Setting) (a : Running) → AreBorneOut event (takes_on c request now s a)
taken_on event c request now s a = by_condition (unmet request a.node.control.me (shelf a.node.groups)) refl
  where
    here : Request
    here = settled_at a.node.groups request

    by_test : (b : Bool) → AreBorneOut event (if b then Waits (waiting c here now) ∷ [] else responds (pending c here (is_some here.input) false) here.input now s a)
    by_test true = (tt, tt)
    by_test false = borne_mild event (responds (pending c here (is_some here.input) false) here.input now s a) (mild_responds (pending c here (is_some here.input) false) here.input now s a)

    by_condition : (why : Option Refusal) → unmet request a.node.control.me (shelf a.node.groups) ≡ why → AreBorneOut event (refuses_or why c request now s a)
    by_condition (Some why) is =
        (refused event c request.count why (λ source. absurd (subst (λ (x : Refused). IsOther x) source (unmet_other request a.node.control.me (shelf a.node.groups) why is))), tt)
    by_condition None is = by_test (has_to_wait here a.node)

obeyed : (event : LinkEvent) (c count : ℕ) (v : Verdict) (now : ℕ) (s : Setting) (a : Running) → FailsBy (fails_reading event) v → AreBorneOut event (obeys c count v now s a)
obeyed event c count verdicts.Wait now s a fails = tt
obeyed event c count verdicts.Leave now s a fails = (tt, tt)
obeyed event c count verdicts.Permit now s a fails = (tt, tt)
obeyed event c count (verdicts.Refuse why) now s a fails = (refused event c count why fails, tt)
obeyed event c count (verdicts.Ask request) now s a fails = taken_on event c request now s a

-- The deeds of other news

mild_moves : (p : Transfer) (now : ℕ) (what : Prospect) → all_mild (moves p now what) ≡ true
mild_moves p now prospects.Gives = refl
mild_moves p now prospects.Waits = refl
mild_moves p now prospects.Breaks = refl

mild_room : (o : Option Work) (now : ℕ) (s : Setting) (a : Running) → all_mild (room_for (rooms.transfer_of o) now s a) ≡ true
mild_room None now s a = refl
mild_room (Some (works.Content p)) now s a = mild_moves p now (prospect_of p (shelf a.node.groups) now)
mild_room (Some (works.Aside p)) now s a = refl
mild_room (Some (works.Waits w)) now s a = refl

dropped : (d c : ℕ) (loss : Loss) (told : Bool) → IsBorneOut (events.Gone d loss) (Drops c (is_failure loss && told))
dropped d c losses.Failed true = refl
dropped d c losses.Failed false = tt
dropped d c losses.GaveWay told = tt

mild_measures : (probing : Option Probing) (peer : ℕ) (fault : Option ProbeFault) (median : ℕ) (s : Setting) (a : Running) → all_mild (measures probing peer fault median s a) ≡ true
mild_measures None peer None median s a = refl
mild_measures (Some probing) peer None median s a = refl
mild_measures probing peer (Some fault) median s a = refl

mild_brought : (input : Option Input) (s : Setting) (a : Running) → all_mild (takes_brought input s a) ≡ true
mild_brought None s a = refl
mild_brought (Some i) s a = refl

mild_reply : (input : Option Input) (refused : Option MessageFault) (s : Setting) (a : Running) → all_mild (takes_reply input refused s a) ≡ true
mild_reply input None s a = mild_brought input s a
mild_reply input (Some fault) s a = mild_brought input s (after (Rejects fault) a)

mild_probe : (peer : Option ℕ) (started : ℕ) (s : Setting) (a : Running) → all_mild (probes_it peer started s a) ≡ true
mild_probe None started s a = refl
mild_probe (Some peer) started s a = refl

-- the reply on a dial
back_borne : (t : NodeTerms) (event : LinkEvent) (errand : Errand) (reading : Result Reply HttpFault) (probing : Option Probing) (now median started : ℕ) (s : Setting) (a : Running)
    → AreBorneOut event (happens probing (comes_back t.me t.nodes t.keys errand reading) now median started s a)
back_borne t event (errands.Message to fetch) reading probing now median started s a = borne_mild event (takes_reply (input_of t.me t.nodes t.keys to reading) (refused_of t.me t.nodes t.keys to reading) s a) (mild_reply (input_of t.me t.nodes t.keys to reading) (refused_of t.me t.nodes t.keys to reading) s a)
back_borne t event (errands.Probe peer since) reading probing now median started s a = borne_mild event (measures probing peer (fault_of reading) median s a) (mild_measures probing peer (fault_of reading) median s a)

nothing_borne : (event : LinkEvent) (probing : Option Probing) (now median started : ℕ) (s : Setting) (a : Running) → AreBorneOut event (happens probing comes.Nothing now median started s a)
nothing_borne event probing now median started s a = borne_mild event (probes_it (next_peer probing a.dials) started s a) (mild_probe (next_peer probing a.dials) started s a)

back_means : (t : NodeTerms) (event : LinkEvent) (lent : List ℕ) (errand : Option Errand) (coming : Coming) (came : Came) → MeansBack t lent errand coming came
    → (probing : Option Probing) (now median started : ℕ) (s : Setting) (a : Running) → AreBorneOut event (happens probing came now median started s a)
back_means t event lent None coming came means probing now median started s a =
    subst (λ (x : Came). AreBorneOut event (happens probing x now median started s a)) (sym means) (nothing_borne event probing now median started s a)
back_means t event lent (Some errand) coming came means probing now median started s a =
    subst (λ (x : Came). AreBorneOut event (happens probing x now median started s a)) (sym (means.3)) (back_borne t event errand (means.0) probing now median started s a)

-- the deeds for the meaning of an event
happened : (t : NodeTerms) (lent : List ℕ) (errand : Option Errand) (event : LinkEvent) (came : Came) → Means t lent errand event came
    → (probing : Option Probing) (now median started : ℕ) (s : Setting) (a : Running) → AreBorneOut event (happens probing came now median started s a)
happened t lent errand (events.Request x) came means probing now median started s a =
    subst (λ (y : Came). AreBorneOut (events.Request x) (happens probing y now median started s a)) (sym (means.2))
    (obeyed (events.Request x) x.connection (length lent) (means.0) now s a (read_fails t x lent (means.0) (means.1)))
happened t lent errand (events.Room d) came means probing now median started s a =
    subst (λ (y : Came). AreBorneOut (events.Room d) (happens probing y now median started s a)) (sym means)
    (borne_mild (events.Room d) (takes_room d now s a) (mild_room (work_on d a.works) now s a))
happened t lent errand (events.Gone d loss) came means probing now median started s a =
    subst (λ (y : Came). AreBorneOut (events.Gone d loss) (happens probing y now median started s a)) (sym means) (dropped d d loss (is_told (work_on d a.works)), tt)
happened t lent errand (events.Reply d coming) came means probing now median started s a = back_means t (events.Reply d coming) lent errand coming came means probing now median started s a
happened t lent errand events.Quiet came means probing now median started s a =
    subst (λ (y : Came). AreBorneOut events.Quiet (happens probing y now median started s a)) (sym means) (nothing_borne events.Quiet probing now median started s a)

-- Turns

taken_up : (o : Option Work) (now : ℕ) (s : Setting) (a : Running) → all_mild (takes_up o now s a) ≡ true
taken_up None now s a = refl
taken_up (Some (works.Content p)) now s a = refl
taken_up (Some (works.Aside p)) now s a = mild_moves p now (prospect_of p (shelf a.node.groups) now)
taken_up (Some (works.Waits w)) now s a =
    mild_responds (pending w.connection w.request (is_some (client_input w.request.asked)) true) (client_input w.request.asked) now s a

mild_due : (pace : Pace) (o : Option Work) (before seconds : ℕ) (s : Setting) (a : Running) → all_mild (takes_due pace o before seconds s a) ≡ true
mild_due pace o before seconds s a =
    let ds : List Deed = takes_up o before s a in
    mild_then ds (ticks_and_sends pace before seconds s (after_all ds a)) (taken_up o before s a) (mild_end pace before seconds s (after_all ds a))

dealt : (event : LinkEvent) (pace : Pace) (probing : Option Probing) (came : Came) (now median started seconds : ℕ) (s : Setting) (a : Running) → AreBorneOut event (happens probing came now median started s a)
    → AreBorneOut event (deals pace probing came now median started seconds s a)
dealt event pace probing came now median started seconds s a borne =
    let ds : List Deed = happens probing came now median started s a in
    let soon : Pace = quickened (came_hurries came a.node) pace in
    borne_then event ds (ticks_and_sends soon now seconds s (after_all ds a)) borne
    (λ last. borne_mild last (ticks_and_sends soon now seconds s (after_all ds a)) (mild_end soon now seconds s (after_all ds a)))

turn_at : (event : LinkEvent) (terms : NodeTerms) (calls : Option (List Call)) (due : Option ℕ) (s : Setting) (t : Observation) (m : Machine) → MayHear terms calls due t m
    → AreBorneOut event (Reads t.before ∷ takes_at due m.pace m.probing t s m.running)
turn_at event terms calls None s t m heard =
    let behind : Running = after (Sees t.event (wait_for m.pace m.running.works t.before) t.bytes) m.running in
    (tt, (tt, (tt, dealt t.event m.pace m.probing t.came t.now t.median t.started t.seconds s behind (happened terms heard.lent (errand_in t.event m.running.dials) t.event t.came heard.means m.probing t.now t.median t.started s behind))))
turn_at event terms calls (Some place) s t m heard =
    borne_mild event (Reads t.before ∷ takes_due m.pace (slice_get m.running.works place) t.before t.seconds s m.running) (mild_due m.pace (slice_get m.running.works place) t.before t.seconds s m.running)

-- A configuration that was read again

mild_measured : (ms : List Measure) (s : Setting) (a : Running) → all_mild (takes_measures ms s a) ≡ true
unfolding takes_measures
mild_measured [] s a = refl
mild_measured (m ∷ ms) s a = mild_measured ms s (after_all (takes_ahead (measured_by m) s a) a)

mild_settled : (o : Result Settings Unfit) (old : Settings) (s : Setting) (a : Running) → all_mild (settles o old s a) ≡ true
mild_settled (Err why) old s a = refl
mild_settled (Ok new) old s a = mild_measured (fresh s.me old new) s (after (Rereads new) a)

mild_by : (r : Reread) (s : Setting) (a : Running) → all_mild (goes_by r s a) ≡ true
mild_by rereads.Nothing s a = refl
mild_by (rereads.Unfit why) s a = refl
mild_by (rereads.Config new) s a = mild_settled (fitting s a.config new) a.config s a

mild_looks : (look : Look) (r : Reread) (s : Setting) (a : Running) → all_mild (looks_again look r s a) ≡ true
mild_looks look r s a = mild_by r s (after (Looks look) a)

turn_borne : (event : LinkEvent) (terms : NodeTerms) (calls : Option (List Call)) (s : Setting) (t : Observation) (m : Machine) → MayHear terms calls (due_at t m) t m → AreBorneOut event (turn_deeds s t m)
turn_borne event terms calls s t m heard =
    let ds : List Deed = turns.dealt m.pace m.probing t s m.running in
    borne_then event ds (looks_again t.look t.reread s (after_all ds m.running)) (turn_at event terms calls (due_at t m) s t m heard)
    (λ last. borne_mild last (looks_again t.look t.reread s (after_all ds m.running)) (mild_looks t.look t.reread s (after_all ds m.running)))

turns_borne : (event : LinkEvent) (calls : Option (List Call)) (s : Setting) (ts : List Observation) (m : Machine) → AreHeard s calls ts m → AreBorneOut event (turns_deeds s ts m)
turns_borne event calls s [] m heard = tt
turns_borne event calls s (t ∷ ts) m heard =
    borne_then event (turn_deeds s t m) (turns_deeds s ts (after_turn s t m)) (turn_borne event (terms_in s m.running) calls s t m (heard.0.0))
    (λ last. turns_borne last (calls_after s t m calls) s ts (after_turn s t m) (heard.1))

-- All that a node does

mild_own : (text : List ℕ) (i : Input) (b : Bool) (ds : List Deed) → all_mild ds ≡ true → all_mild ((if b then Says text ∷ Takes i ∷ [] else []) ++ ds) ≡ true
mild_own text i true ds mild = mild
mild_own text i false ds mild = mild

own_mild : (s : Setting) (ms : List Measure) → all_mild (own_measures s ms) ≡ true
own_mild s [] = refl
own_mild s (x ∷ ms) =
    mild_own (told_ahead s.log s.me (Measured x.peer x.rate x.hops)) (Measured x.peer x.rate x.hops) (x.from == s.me) (own_measures s ms) (own_mild s ms)

pub node_borne : (event : LinkEvent) (calls : Option (List Call)) (s : Setting) (ms : List Measure) (ts : List Observation) (m : Machine) → AreHeard s calls ts (begun s ms m)
    → AreBorneOut event (node_deeds s ms ts m)
node_borne event calls s ms ts m heard =
    borne_then event (begins s ms m.running.node) (turns_deeds s ts (begun s ms m)) (borne_mild event (begins s ms m.running.node) (own_mild s ms))
    (λ last. turns_borne last calls s ts (begun s ms m) heard)

-- An early end

-- a list of at most this number of deeds is a prefix of these
front_of : (xs ys gs : List Deed) (k : ℕ) → gs ≡ xs ++ ys → length xs ≤ k → (rest : List Deed) × (take k gs ≡ xs ++ rest)
front_of [] ys gs k is few = (take k gs, refl)
front_of (x ∷ xs) ys gs zero is few = absurd (omega (arith, few))
front_of (x ∷ xs) ys [] (suc k) is few = let none : [] ≡ x ∷ (xs ++ ys) = is in absurd (cc none)
front_of (x ∷ xs) ys (g ∷ gs) (suc k) is few =
    let all : g ∷ gs ≡ x ∷ (xs ++ ys) = is in
    let first : g ≡ x = cc in
    let others : gs ≡ xs ++ ys = cc in
    let more = front_of xs ys gs k others (omega (arith, few)) in
    (more.0, ap (λ (y : Deed). y ∷ take k gs) first ∙ ap (λ (zs : List Deed). x ∷ zs) (more.1))

-- a list of deeds no longer than some deeds and `k` more is a front of these deeds and the next `k`
pub front_of_few : (xs ys ds es : List Deed) (k : ℕ) → ds ++ es ≡ xs ++ ys → length xs ≤ length ds + k → (rest : List Deed) × (ds ++ take k es ≡ xs ++ rest)
front_of_few [] ys ds es k is few = (ds ++ take k es, refl)
front_of_few (x ∷ xs) ys [] es k is few = front_of (x ∷ xs) ys es k is (omega (arith, few))
front_of_few (x ∷ xs) ys (d ∷ ds) es k is few =
    let all : d ∷ (ds ++ es) ≡ x ∷ (xs ++ ys) = is in
    let first : d ≡ x = cc in
    let others : ds ++ es ≡ xs ++ ys = cc in
    let more = front_of_few xs ys ds es k others (omega (arith, few)) in
    (more.0, ap (λ (y : Deed). y ∷ (ds ++ take k es)) first ∙ ap (λ (zs : List Deed). x ∷ zs) (more.1))

-- a turn in which nothing was due begins with three deeds that tell of no failure
mild_begin : (due : Option ℕ) (s : Setting) (t : Observation) (m : Machine) (more : List Deed) → due ≡ None → all_mild (take 3 ((Reads t.before ∷ takes_at due m.pace m.probing t s m.running) ++ more)) ≡ true
mild_begin None s t m more none = refl
mild_begin (Some place) s t m more none = let no : Some place ≡ None = none in absurd (cc no)

pub due_or_none : (due : Option ℕ) → (due ≡ None) ⊎ ((place : ℕ) × (due ≡ Some place))
due_or_none None = inl refl
due_or_none (Some place) = inr (place, refl)

-- the deeds of all turns, and of one more, and the one under way
module _ (event : LinkEvent) (terms : NodeTerms) (calls : Option (List Call)) (s : Setting) (ms : List Measure) (ts : List Observation) (last : Observation) (m : Machine)
    (heard : AreHeard s calls ts (begun s ms m)) where
  abbrev all : List Deed
  all = node_deeds s ms ts m

  abbrev turn : List Deed
  turn = turn_deeds s last (machine_after s ms ts m)

  -- its look at the configuration
  abbrev look : List Deed
  look =
      let here = machine_after s ms ts m in
      looks_again last.look last.reread s (after_all (turns.dealt here.pace here.probing last s here.running) here.running)

  -- after a turn that was heard
  heard_borne : (later : Option (List Call)) → MayHear terms later (due_at last (machine_after s ms ts m)) last (machine_after s ms ts m) → AreBorneOut event (all ++ turn)
  heard_borne later last_heard =
      borne_then event all turn (node_borne event calls s ms ts m heard) (λ x. turn_borne x terms later s last (machine_after s ms ts m) last_heard)

  -- in the first three deeds of one in which nothing was due
  begun_borne : due_at last (machine_after s ms ts m) ≡ None → AreBorneOut event (all ++ take 3 turn)
  begun_borne none =
      borne_then event all (take 3 turn) (node_borne event calls s ms ts m heard)
      (λ x. borne_mild x (take 3 turn) (mild_begin (due_at last (machine_after s ms ts m)) s last (machine_after s ms ts m) look none))

  pub front_borne : (deeds behind : List Deed) (later : Option (List Call)) → all ++ turn ≡ deeds ++ behind
      → (length deeds < length all + 3) ⊎ MayHear terms later (due_at last (machine_after s ms ts m)) last (machine_after s ms ts m) → AreBorneOut event (deeds ++ take 1 behind)
  front_borne deeds behind later cut last_heard = by_heard last_heard
    where
      split : all ++ turn ≡ (deeds ++ take 1 behind) ++ drop 1 behind
      split = cut ∙ ap (λ (ds : List Deed). deeds ++ ds) (sym (take-append-drop 1 behind)) ∙ sym (append_assoc deeds (take 1 behind) (drop 1 behind))

      by_whole : AreBorneOut event (all ++ turn) → AreBorneOut event (deeds ++ take 1 behind)
      by_whole whole = borne_front event (deeds ++ take 1 behind) (drop 1 behind) (subst (λ (ds : List Deed). AreBorneOut event ds) split whole)

      by_few : length deeds < length all + 3 → due_at last (machine_after s ms ts m) ≡ None → AreBorneOut event (deeds ++ take 1 behind)
      by_few few none =
          let front = front_of_few (deeds ++ take 1 behind) (drop 1 behind) all turn 3 split (omega (arith, few, length-append deeds (take 1 behind), one_at_most behind)) in
          borne_front event (deeds ++ take 1 behind) (front.0) (subst (λ (ds : List Deed). AreBorneOut event ds) (front.1) (begun_borne none))

      by_due : length deeds < length all + 3 → (due_at last (machine_after s ms ts m) ≡ None) ⊎ ((place : ℕ) × (due_at last (machine_after s ms ts m) ≡ Some place)) → AreBorneOut event (deeds ++ take 1 behind)
      by_due few (inl none) = by_few few none
      by_due few (inr due) =
          by_whole (heard_borne later (subst (λ (o : Option ℕ). MayHear terms later o last (machine_after s ms ts m)) (sym (due.1)) tt))

      by_heard : (length deeds < length all + 3) ⊎ MayHear terms later (due_at last (machine_after s ms ts m)) last (machine_after s ms ts m) → AreBorneOut event (deeds ++ take 1 behind)
      by_heard (inl few) = by_due few (due_or_none (due_at last (machine_after s ms ts m)))
      by_heard (inr heard_last) = by_whole (heard_borne later heard_last)

-- The counts of the link

rise_one : (event : LinkEvent) (wait : ℕ) (old now : LinkCounts) (d : Deed) → CountsEvent event wait old now → IsBorneOut event d → RisesFor d old now
rise_one event wait old now (Refuses c count refusal) counts borne = by_why refusal.why borne
  where
    by_why : (why : Refused) → IsFailure why (IsTrue (fails_reading event)) → IsFailure why (Rose old.reading now.reading)
    by_why refusals.Source borne = subst (λ (b : Bool). RisesAt b old.reading now.reading) borne counts.reading
    by_why why borne = tt
rise_one event wait old now (Drops c true) counts borne = subst (λ (b : Bool). RisesAt b old.writing now.writing) borne counts.writing
rise_one event wait old now d counts borne = tt

rise_since : (event : LinkEvent) (wait : ℕ) (ds : List Deed) (old now new : LinkCounts) → CountsEvent event wait old now → AreBorneOut event ds → CountsAll ds now new → RiseForLines old now ds new
rise_since event wait [] old now new counts borne all = all
rise_since event wait (Sees next most bytes ∷ ds) old now new counts borne (at, one, all) = (at, one, rise_since next most ds now at new one (borne.1) all)
rise_since event wait (d ∷ ds) old now new counts borne all = (rise_one event wait old now d counts (borne.0), rise_since event wait ds old now new counts (borne.1) all)

-- nothing rises where nothing happens
quiet_counts : (old : LinkCounts) → CountsEvent events.Quiet 0 old old
quiet_counts old = record { listening = refl; reading = refl; writing = refl; dialling = refl; waited = omega arith }

pub rise_for_lines : (ds : List Deed) (old new : LinkCounts) → AreBorneOut events.Quiet ds → CountsAll ds old new → RiseForLines old old ds new
rise_for_lines ds old new borne all = rise_since events.Quiet 0 ds old old new (quiet_counts old) borne all
