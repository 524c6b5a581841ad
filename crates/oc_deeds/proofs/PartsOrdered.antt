-- The parts of a turn do their deeds in order.
use Rattle.std.proofs.Common.{◌≡◌, ℕ, zero, suc, Bool, true, false, cond, Option, None, Some, Result, Ok, Err, List, [], ◌∷◌, ◌++◌, ◌+◌, ◌-◌, take, inl, inr, refl, sym, ap, subst, ◌∙◌}
use Rattle.std.specs.Prelude.{◌==◌, ◌&&◌, if◌then◌else◌, IsTrue, IfOk, is_some, nat_lt, not, length, slice_get}
use Rattle.std.proofs.lemmas.Bool.{eq-eqb, false≢true}
use Rattle.std.proofs.lemmas.List.{append_assoc, append-nil}
use Rattle.oc_base.specs.Groups.{shelf}
use Rattle.oc_base.specs.declared.group.Group.{Group}
use Rattle.oc_link.proofs.Stories.{stands-then}
use Rattle.oc_link.specs.Failures.{is_failure}
use Rattle.oc_link.specs.Stands.{after_loss, after_room, is_awaiting, may, sees, standing_of, untouched}
use Rattle.oc_link.specs.declared.call.Call.{Call}
use Rattle.oc_link.specs.declared.call.Call.TheVariants as acts
use Rattle.oc_link.specs.declared.event.Coming.{Coming}
use Rattle.oc_link.specs.declared.event.Coming.TheVariants.{Open, Ended, Failed}
use Rattle.oc_link.specs.declared.event.Arrival.{Arrival}
use Rattle.oc_link.specs.declared.event.LinkEvent.{LinkEvent}
use Rattle.oc_link.specs.declared.event.LinkEvent.TheVariants as events
use Rattle.oc_link.specs.declared.event.Loss.{Loss}
use Rattle.oc_link.specs.declared.phase.Phase.{Phase}
use Rattle.oc_link.specs.declared.phase.Phase.TheVariants.{Awaiting, Answering, Whole, Broken, Gone}
use Rattle.oc_link.specs.declared.phase.Standing.{Standing}
use Rattle.oc_http.specs.declared.fault.HttpFault.{HttpFault}
use Rattle.oc_http.specs.declared.head.Head.{Head}
use Rattle.oc_http.specs.declared.reply.Reply.{Reply}
use Rattle.oc_model.specs.declared.answer.Answer.TheVariants as answers
use Rattle.oc_model.specs.declared.input.Input.{Input}
use Rattle.oc_model.specs.declared.input.Input.TheVariants as inputs
use Rattle.oc_model.specs.declared.message.Message.{Message}
use Rattle.oc_model.specs.Node.{Node}
use Rattle.oc_model.specs.Step.{step}
use Rattle.oc_probe.specs.declared.fault.ProbeFault.{ProbeFault}
use Rattle.oc_probe.specs.declared.probing.Probing.{Probing}
use Rattle.oc_routes.specs.Askers.{asker_in, asker_of}
use Rattle.oc_routes.specs.declared.asker.Asker.{Asker}
use Rattle.oc_routes.specs.Asks.{IsInputOf}
use Rattle.oc_routes.specs.Conditions.{unmet}
use Rattle.oc_routes.specs.Elements.{element_at}
use Rattle.oc_routes.specs.Hints.{asked_with_hint, hint_for, with_hint}
use Rattle.oc_routes.specs.Macs.{is_forged}
use Rattle.oc_routes.specs.Routes.{response_for}
use Rattle.oc_routes.specs.Verdicts.{IsVerdict, NodeTerms, answered, fault_met, input_for, is_none, refuse, routed, taken, unfinished, unread, verdict_for, whole, with_body}
use Rattle.oc_routes.specs.declared.hint.Asked.{Asked}
use Rattle.oc_routes.specs.declared.hint.Hint.{Hint}
use Rattle.oc_routes.specs.declared.hint.Hint.TheVariants.{Plain, Here, Of, Known}
use Rattle.oc_routes.specs.declared.verdict.Request.{Request}
use Rattle.oc_routes.specs.declared.verdict.Verdict.{Verdict}
use Rattle.oc_routes.specs.declared.verdict.Verdict.TheVariants as verdicts
use Rattle.oc_routes.specs.declared.waiting.Prospect.{Prospect}
use Rattle.oc_routes.specs.declared.waiting.Prospect.TheVariants as prospects
use Rattle.oc_routes.specs.Connections.{awaits_continue, is_last, kept_after}
use Rattle.oc_routes.specs.Routes.{input_asked}
use Rattle.oc_routes.specs.Routes as routes
use Rattle.oc_routes.specs.Selections.{input_by, line_of, selection_of, selectors_for}
use Rattle.oc_routes.specs.Selections as choices
use Rattle.oc_routes.specs.declared.holding.Holding.{Holding}
use Rattle.oc_select.specs.declared.selection.Selection.{Selection}
use Rattle.oc_select.specs.declared.selection.Selection.TheVariants as selections
use Rattle.oc_routes.specs.declared.fault.RouteFault.{RouteFault}
use Rattle.oc_routes.specs.declared.fault.RouteFault.TheVariants as faults
use Rattle.oc_routes.specs.declared.manner.Manner.{Manner}
use Rattle.oc_routes.specs.declared.refused.Refused.{Refused}
use Rattle.oc_routes.specs.declared.verdict.Refusal.{Refusal}
use Rattle.oc_routes.specs.declared.refused.Refused.TheVariants as refusals
use Rattle.oc_routes.specs.declared.routes.Operation.{Operation}
use Rattle.oc_routes.specs.declared.routes.Operation.TheVariants as asks
use Rattle.oc_deeds.proofs.ChunksThere.{condition_there, here_there, step_there}
use Rattle.oc_deeds.proofs.Settled.{AllQuiet, IsLeft, IsOrderly, all_quiet, breaks, drops, fits_if, gives, lays, one_at_most, orderly_behind, orderly_none, orderly_then, permits, quiet_behind, quiet_looks, refuses_request, replies_request, settled_by, waits}
use Rattle.oc_routes.specs.declared.tally.MessageFault.{MessageFault}
use Rattle.oc_deeds.specs.Asks.{answers_or_waits, has_to_wait, holding_for, obeys, refuses_or, replies, report_for, responds, response_now, settled_at, takes_on, takes_up, waiting}
use Rattle.oc_deeds.specs.Brief.{told_of}
use Rattle.oc_deeds.specs.Records.{told_ahead}
use Rattle.oc_deeds.specs.Brought.{comes_back}
use Rattle.oc_deeds.specs.Choices.{due_index, next_to_dial, prospect_of, wait_for}
use Rattle.oc_deeds.specs.Deeds.{Deed, Sees, Reads, Rejects, Tells, Accepts, Says, Waits, Running, Setting, after, after_all, back_to, calls_of, content_in, sender_of, key_in}
use Rattle.oc_deeds.specs.Rereading.{looks_again}
use Rattle.oc_deeds.specs.Hurries.{came_hurries}
use Rattle.oc_deeds.specs.Pace.{has_passed, wait_until}
use Rattle.oc_deeds.specs.Parts.{nothing, one, ◌>>◌}
use Rattle.oc_deeds.specs.Replying.{HasContent, IsGivable, MayAnswer, asked_of, phase_on, works_on}
use Rattle.oc_deeds.specs.Rooms.{goes_on, is_told, moves, takes_room, room_for}
use Rattle.oc_deeds.specs.Rooms as rooms
use Rattle.oc_deeds.specs.Telling.{takes_in}
use Rattle.oc_deeds.specs.Sends.{dials_at, dials_it, dials_next, sends}
use Rattle.oc_deeds.specs.Settled.{Fits, IsSettled}
use Rattle.oc_deeds.specs.Turns.{Means, MeansBack, Observation, takes_brought, takes_reply, deals, happens, measures, next_peer, probes_it, quickened, takes_at, takes_due, takes_next, takes_one, ticked, ticks, ticks_and_sends, ticks_if, turn, dealt}
use Rattle.oc_deeds.specs.Works.{client_input, connection_of, pending, index_on, work_on}
use Rattle.oc_deeds.specs.declared.came.Came.{Came}
use Rattle.oc_deeds.specs.declared.came.Came.TheVariants as comes
use Rattle.oc_deeds.specs.declared.choosing.TheConstants.{MAX_DIALS}
use Rattle.oc_deeds.specs.declared.dials.Errand.{Errand}
use Rattle.oc_deeds.specs.declared.dials.Errand.TheVariants as errands
use Rattle.oc_deeds.specs.declared.pace.Pace.{Pace}
use Rattle.oc_deeds.specs.declared.work.Pending.{Pending}
use Rattle.oc_deeds.specs.declared.work.Transfer.{Transfer}
use Rattle.oc_deeds.specs.declared.work.Work.{Work}
use Rattle.oc_deeds.specs.declared.work.Work.TheVariants as works

-- The work at a place

-- a work at a place is among those of its connection
found : (ws : List Work) (i : ℕ) (w : Work) → slice_get ws i ≡ Some w → (front behind : List Work) × (works_on (connection_of w) ws ≡ front ++ w ∷ behind)
found [] i w is = let none : None ≡ Some w = is in absurd (cc none)
found (x ∷ ws) zero w is =
    let some : Some x ≡ Some w = is in
    let same : x ≡ w = cc in (
      [],
      works_on (connection_of w) ws,
      ap (λ (y : Work). works_on (connection_of w) (y ∷ ws)) same
          ∙ ap (λ (b : Bool). cond b (w ∷ works_on (connection_of w) ws) (works_on (connection_of w) ws)) (eq-eqb (connection_of w) (connection_of w) refl),
    )
found (x ∷ ws) (suc i) w is = by_test (found ws i w is) (connection_of x == connection_of w) refl
  where
    by_test : ((front behind : List Work) × (works_on (connection_of w) ws ≡ front ++ w ∷ behind)) → (b : Bool) → (connection_of x == connection_of w) ≡ b
        → (front behind : List Work) × (cond b (x ∷ works_on (connection_of w) ws) (works_on (connection_of w) ws) ≡ front ++ w ∷ behind)
    by_test f true own = (x ∷ f.0, f.1, ap (λ (y : List Work). x ∷ y) (f.2))
    by_test f false apart = f

not_none : (front behind : List Work) (w : Work) → [] ≡ front ++ w ∷ behind → ⊥
not_none [] behind w is = let none : [] ≡ w ∷ behind = is in absurd (cc none)
not_none (x ∷ front) behind w is = let none : [] ≡ x ∷ (front ++ w ∷ behind) = is in absurd (cc none)

is_alone : (x w : Work) (front behind : List Work) → x ∷ [] ≡ front ++ w ∷ behind → x ≡ w
is_alone x w [] behind is = let all : x ∷ [] ≡ w ∷ behind = is in cc
is_alone x w (y ∷ front) behind is =
    let all : x ∷ [] ≡ y ∷ (front ++ w ∷ behind) = is in
    let rest : [] ≡ front ++ w ∷ behind = cc in
    absurd (not_none front behind w rest)

alone_at : (phase : Phase) (ws front behind : List Work) (w : Work) → ws ≡ front ++ w ∷ behind → Fits phase ws → (phase ≡ Answering) × (ws ≡ w ∷ [])
alone_at Awaiting ws front behind w is fits = absurd (not_none front behind w (sym fits ∙ is))
alone_at Answering ws front behind w is fits = (refl, fits.1 ∙ ap (λ (x : Work). x ∷ []) (is_alone (fits.0) w front behind (sym (fits.1) ∙ is)))
alone_at Whole ws front behind w is fits = absurd (not_none front behind w (sym fits ∙ is))
alone_at Broken ws front behind w is fits = absurd (not_none front behind w (sym fits ∙ is))
alone_at Gone ws front behind w is fits = absurd (not_none front behind w (sym fits ∙ is))

-- the work under way is alone on its connection, where a reply is under way
pub alone : (made : List Call) (ws : List Work) (i : ℕ) (w : Work) → slice_get ws i ≡ Some w → IsSettled made ws → (phase_on (connection_of w) made ≡ Answering) × (works_on (connection_of w) ws ≡ w ∷ [])
alone made ws i w is settled =
    let f = found ws i w is in
    alone_at (phase_on (connection_of w) made) (works_on (connection_of w) ws) (f.0) (f.1) w (f.2) (settled (connection_of w))

-- Contents

moved : (s : Setting) (made : List Call) (p : Transfer) (now : ℕ) (what : Prospect) (a : Running) → HasContent p made a.works → IsSettled made a.works → IsOrderly s made (moves p now what) a
moved s made p now prospects.Gives a has settled = gives s made p now a has settled
moved s made p now prospects.Waits a has settled = lays s made p a has settled
moved s made p now prospects.Breaks a has settled = breaks s made p.connection a settled

going_on : (s : Setting) (made : List Call) (p : Transfer) (now : ℕ) (a : Running) → HasContent p made a.works → IsSettled made a.works → IsOrderly s made (goes_on p now s a) a
going_on s made p now a has settled = moved s made p now (prospect_of p (shelf a.node.groups) now) a has settled

at_place : (ws : List Work) (o : Option ℕ) (w : Work) → element_at ws o ≡ Some w → (i : ℕ) × (slice_get ws i ≡ Some w)
at_place ws None w is = let none : None ≡ Some w = is in absurd (cc none)
at_place ws (Some i) w is = (i, is)

pub has_room : (s : Setting) (made : List Call) (c now : ℕ) (a : Running) → IsSettled made a.works → IsOrderly s made (takes_room c now s a) a
has_room s made c now a settled = by_work (work_on c a.works) refl
  where
    by_work : (o : Option Work) → work_on c a.works ≡ o → IsOrderly s made (room_for (rooms.transfer_of o) now s a) a
    by_work None is = orderly_none s made a settled
    by_work (Some (works.Aside p)) is = orderly_none s made a settled
    by_work (Some (works.Waits w)) is = orderly_none s made a settled
    by_work (Some (works.Content p)) is =
        let at = at_place a.works (index_on c a.works) (works.Content p) is in
        let here = alone made a.works (at.0) (works.Content p) (at.1) settled in
        going_on s made p now a (record { phase = here.0; works = inl (here.1) }) settled

-- Requests

-- a request of which nothing is selected yet, and which has its client's input, or is answered by the node itself
pub record IsUnsettled (asked : Asked) (input : Option Input) : Type 0 where
  pub whole : asked.selection ≡ selections.Whole
  pub own : IsInputOf asked input

abbrev pub HasInput : Verdict → Type 0
HasInput (verdicts.Ask request) = IsUnsettled request.asked request.input
HasInput verdict = Unit {0}

-- the request of a client that takes no input is answered by the node itself, or by a condition
client_at_once : (group : List ℕ) (area start : ℕ) (manner : Manner) (hint : Hint) (what : Selection) (last : Bool) (back : Option Message) (ks : List Group) (addresses : List (Option (List ℕ))) (key : Option (List ℕ)) (told : List ℕ)
    → IsInputOf (asked_of (asks.Client group area start manner) hint what) None
    → IsGivable (content_in (asks.Client group area start manner) (response_for (asked_of (asks.Client group area start manner) hint what) last answers.Ok back (holding_for (asks.Client group area start manner) ks) addresses key told).content) ks
client_at_once group area start manner Here what last back ks addresses key told is = here_there answers.Ok ks group area start manner what last addresses
client_at_once group area start manner Plain what last back ks addresses key told is = condition_there answers.Ok ks group area start manner Plain what last addresses (inputs.Client area start group) is
client_at_once group area start manner (Of n) what last back ks addresses key told is = condition_there answers.Ok ks group area start manner (Of n) what last addresses (inputs.Client area start group) is
client_at_once group area start manner Known what last back ks addresses key told is = condition_there answers.Ok ks group area start manner Known what last addresses (inputs.Client area start group) is

at_once : (operation : Operation) (hint : Hint) (what : Selection) (last : Bool) (back : Option Message) (ks : List Group) (addresses : List (Option (List ℕ))) (key : Option (List ℕ)) (told : List ℕ) → IsInputOf (asked_of operation hint what) None
    → IsGivable (content_in operation (response_for (asked_of operation hint what) last answers.Ok back (holding_for operation ks) addresses key told).content) ks
at_once asks.Message hint what last back ks addresses key told is = tt
at_once (asks.Publish group at) hint what last back ks addresses key told is = tt
at_once (asks.Seal group at) hint what last back ks addresses key told is = tt
at_once (asks.Client group area start manner) hint what last back ks addresses key told is = client_at_once group area start manner hint what last back ks addresses key told is
at_once (asks.Probe manner) hint what last back ks addresses key told is = tt
at_once (asks.Report report manner) hint what last back ks addresses key told is = tt

client_by_step : (group : List ℕ) (area start : ℕ) (manner : Manner) (hint : Hint) (what : Selection) (last : Bool) (i : Input) (back : Option Message) (n : Node) (addresses : List (Option (List ℕ))) (key : Option (List ℕ)) (told : List ℕ)
    → i ≡ inputs.Client area start group
    → IsGivable (content_in (asks.Client group area start manner) (response_for (asked_of (asks.Client group area start manner) hint what) last (step n i).answer back (holding_for (asks.Client group area start manner) (step n i).node.groups) addresses key told).content) (step n i).node.groups
client_by_step group area start manner hint what last i back n addresses key told same =
    subst (λ (j : Input). IsGivable (content_in (asks.Client group area start manner) (response_for (asked_of (asks.Client group area start manner) hint what) last (step n j).answer back (holding_for (asks.Client group area start manner) (step n j).node.groups) addresses key told).content) (step n j).node.groups)
    (sym same) (step_there n group area start manner hint what last addresses)

-- the input that is taken is the one that the client asks
input_chosen : (what : Selection) (i j : Input) → Some i ≡ input_by what (Some j) → i ≡ j
input_chosen selections.Whole i j is = cc
input_chosen (selections.Part start size) i j is = cc
input_chosen selections.NotModified i j is = let none : Some i ≡ None = is in absurd (cc none)
input_chosen selections.PreconditionFailed i j is = let none : Some i ≡ None = is in absurd (cc none)
input_chosen selections.Unsatisfiable i j is = cc

no_input : (what : Selection) (i : Input) → Some i ≡ input_by what None → ⊥
no_input selections.Whole i is = let none : Some i ≡ None = is in absurd (cc none)
no_input (selections.Part start size) i is = let none : Some i ≡ None = is in absurd (cc none)
no_input selections.NotModified i is = let none : Some i ≡ None = is in absurd (cc none)
no_input selections.PreconditionFailed i is = let none : Some i ≡ None = is in absurd (cc none)
no_input selections.Unsatisfiable i is = let none : Some i ≡ None = is in absurd (cc none)

client_step : (group : List ℕ) (area start : ℕ) (manner : Manner) (hint : Hint) (what : Selection) (last : Bool) (i : Input) (back : Option Message) (n : Node) (addresses : List (Option (List ℕ))) (key : Option (List ℕ)) (told : List ℕ)
    → IsInputOf (asked_of (asks.Client group area start manner) hint what) (Some i)
    → IsGivable (content_in (asks.Client group area start manner) (response_for (asked_of (asks.Client group area start manner) hint what) last (step n i).answer back (holding_for (asks.Client group area start manner) (step n i).node.groups) addresses key told).content) (step n i).node.groups
client_step group area start manner Here what last i back n addresses key told is = absurd (no_input what i is)
client_step group area start manner Plain what last i back n addresses key told is = client_by_step group area start manner Plain what last i back n addresses key told (input_chosen what i (inputs.Client area start group) is)
client_step group area start manner (Of m) what last i back n addresses key told is = client_by_step group area start manner (Of m) what last i back n addresses key told (input_chosen what i (inputs.Client area start group) is)
client_step group area start manner Known what last i back n addresses key told is = client_by_step group area start manner Known what last i back n addresses key told (input_chosen what i (inputs.Client area start group) is)

by_step : (operation : Operation) (hint : Hint) (what : Selection) (last : Bool) (i : Input) (back : Option Message) (n : Node) (addresses : List (Option (List ℕ))) (key : Option (List ℕ)) (told : List ℕ) → IsInputOf (asked_of operation hint what) (Some i)
    → IsGivable (content_in operation (response_for (asked_of operation hint what) last (step n i).answer back (holding_for operation (step n i).node.groups) addresses key told).content) (step n i).node.groups
by_step asks.Message hint what last i back n addresses key told is = tt
by_step (asks.Publish group at) hint what last i back n addresses key told is = tt
by_step (asks.Seal group at) hint what last i back n addresses key told is = tt
by_step (asks.Client group area start manner) hint what last i back n addresses key told is = client_step group area start manner hint what last i back n addresses key told is
by_step (asks.Probe manner) hint what last i back n addresses key told is = tt
by_step (asks.Report report manner) hint what last i back n addresses key told is = tt

-- a request is answered by its step, or at once
pub responding : (s : Setting) (made : List Call) (r : Pending) (input : Option Input) (now : ℕ) (a : Running) → MayAnswer r.waited r.connection made a.works
    → IsInputOf r.asked input → IsSettled made a.works → IsOrderly s made (responds r input now s a) a
responding s made r None now a may is settled =
    replies_request s made r (response_now r answers.Ok None s a) now a may
    (at_once r.asked.operation r.asked.hint r.asked.selection r.last None a.node.groups a.config.addresses (key_in a) (report_for r.asked.operation s a) is) settled
responding s made r (Some i) now a may is settled =
    let ds : List Deed = replies r now (step a.node i).answer (back_to (sender_of i) (step a.node i).sends) s (after (Accepts i) a) in
    quiet_behind s made (Says (told_ahead s.log s.me i)) (Accepts i ∷ Says (told_of s.log a.node i) ∷ ds) a tt settled
    (λ ahead. quiet_behind s (made ++ []) (Accepts i) (Says (told_of s.log a.node i) ∷ ds) a tt ahead
    (λ taken. quiet_behind s ((made ++ []) ++ []) (Says (told_of s.log a.node i)) ds (after (Accepts i) a) tt taken
    (λ behind. replies_request s (((made ++ []) ++ []) ++ []) r
    (response_now r (step a.node i).answer (back_to (sender_of i) (step a.node i).sends) s (after (Accepts i) a)) now (after (Accepts i) a)
    (subst (λ (cs : List Call). MayAnswer r.waited r.connection cs a.works) (sym (append-nil ((made ++ []) ++ []) ∙ append-nil (made ++ []) ∙ append-nil made)) may)
    (by_step r.asked.operation r.asked.hint r.asked.selection r.last i (back_to (sender_of i) (step a.node i).sends) a.node a.config.addresses (key_in a) (report_for r.asked.operation s (after (Accepts i) a)) is) behind)))

answering_or_waiting : (s : Setting) (made : List Call) (c : ℕ) (request : Request) (now : ℕ) (a : Running) → phase_on c made ≡ Awaiting → IsInputOf request.asked request.input → IsSettled made a.works
    → IsOrderly s made (answers_or_waits c request now s a) a
answering_or_waiting s made c request now a may is settled = by_test (has_to_wait request a.node)
  where
    by_test : (b : Bool) → IsOrderly s made (if b then Waits (waiting c request now) ∷ [] else responds (pending c request (is_some request.input) false) request.input now s a) a
    by_test true = waits s made (waiting c request now) a may settled
    by_test false = responding s made (pending c request (is_some request.input) false) request.input now a may is settled

with_whole : (asked : Asked) → asked.selection ≡ selections.Whole → asked ≡ asked_of asked.operation asked.hint selections.Whole
with_whole asked whole = ap (λ (s : Selection). asked_of asked.operation asked.hint s) whole

-- a request has its client's input once it is settled what it selects, unless a condition answers it
still_for : (operation : Operation) (hint : Hint) (what : Selection) (input : Option Input) → IsInputOf (asked_of operation hint selections.Whole) input → IsInputOf (asked_of operation hint what) (input_by what input)
still_for asks.Message hint what input is = tt
still_for (asks.Publish group at) hint what input is = tt
still_for (asks.Seal group at) hint what input is = tt
still_for (asks.Client group area start manner) hint what input is = ap (input_by what) is
still_for (asks.Probe manner) hint what input is = tt
still_for (asks.Report report manner) hint what input is = tt

still_input : (request : Request) (h : Holding) → IsUnsettled request.asked request.input → IsInputOf (choices.settled request h).asked (choices.settled request h).input
still_input request h is =
    still_for request.asked.operation request.asked.hint (selection_of request.asked.operation request.asked.hint h request.line request.selectors) request.input
    (subst (λ (x : Asked). IsInputOf x request.input) (with_whole request.asked is.whole) is.own)

taking_on : (s : Setting) (made : List Call) (c : ℕ) (request : Request) (now : ℕ) (a : Running) → phase_on c made ≡ Awaiting → IsUnsettled request.asked request.input → IsSettled made a.works
    → IsOrderly s made (takes_on c request now s a) a
taking_on s made c request now a may is settled = by_condition (unmet request a.node.control.me (shelf a.node.groups))
  where
    by_condition : (why : Option Refusal) → IsOrderly s made (refuses_or why c request now s a) a
    by_condition (Some why) = refuses_request s made c request.count why a may settled
    by_condition None = answering_or_waiting s made c (settled_at a.node.groups request) now a may (still_input request (holding_for request.asked.operation a.node.groups) is) settled

pub obeying : (s : Setting) (made : List Call) (c count : ℕ) (v : Verdict) (now : ℕ) (a : Running) → phase_on c made ≡ Awaiting → HasInput v → IsSettled made a.works → IsOrderly s made (obeys c count v now s a) a
obeying s made c count verdicts.Wait now a may is settled = orderly_none s made a settled
obeying s made c count verdicts.Leave now a may is settled = breaks s made c a settled
obeying s made c count verdicts.Permit now a may is settled = permits s made c a may settled
obeying s made c count (verdicts.Refuse why) now a may is settled = refuses_request s made c count why a may settled
obeying s made c count (verdicts.Ask request) now a may is settled = taking_on s made c request now a may is settled

-- the input of a verdict

answered_input : (head : Head) (request : Request) (r : Result (Option Input) Refused) → IfOk r (λ (i : Option Input). IsUnsettled request.asked (input_for request.asked.hint i)) → HasInput (answered head request r)
answered_input head request (Ok input) is = is
answered_input head request (Err why) is = tt

any_input : (r : Result (Option Input) Refused) → IfOk r (λ (i : Option Input). Unit {0})
any_input (Ok input) = tt
any_input (Err why) = tt

asked_input : (nodes me : ℕ) (operation : Operation) (hint : Hint) (body : List ℕ) → IfOk (input_asked nodes me operation body) (λ (i : Option Input). IsInputOf (asked_of operation hint selections.Whole) (input_for hint i))
asked_input nodes me asks.Message hint body = any_input (input_asked nodes me asks.Message body)
asked_input nodes me (asks.Publish group at) hint body = tt
asked_input nodes me (asks.Seal group at) hint body = any_input (input_asked nodes me (asks.Seal group at) body)
asked_input nodes me (asks.Client group area start manner) hint body = refl
asked_input nodes me (asks.Probe manner) hint body = tt
asked_input nodes me (asks.Report report manner) hint body = tt

unsettled_input : (asked : Asked) (r : Result (Option Input) Refused) → asked.selection ≡ selections.Whole
    → IfOk r (λ (i : Option Input). IsInputOf (asked_of asked.operation asked.hint selections.Whole) (input_for asked.hint i)) → IfOk r (λ (i : Option Input). IsUnsettled asked (input_for asked.hint i))
unsettled_input asked (Ok i) whole is = record { whole = whole; own = subst (λ (x : Asked). IsInputOf x (input_for asked.hint i)) (sym (with_whole asked whole)) is }
unsettled_input asked (Err why) whole is = tt

-- nothing is selected by the head of a request alone
nothing_selected : (operation : Result Operation Refused) (hint : Result Hint Refused) → IfOk (with_hint operation hint) (λ (said : Asked). said.selection ≡ selections.Whole)
nothing_selected (Ok asks.Message) hint = refl
nothing_selected (Ok (asks.Publish group at)) hint = refl
nothing_selected (Ok (asks.Seal group at)) hint = refl
nothing_selected (Ok (asks.Client group area start manner)) (Ok hint) = refl
nothing_selected (Ok (asks.Client group area start manner)) (Err why) = tt
nothing_selected (Ok (asks.Probe manner)) hint = refl
nothing_selected (Ok (asks.Report report manner)) (Ok hint) = refl
nothing_selected (Ok (asks.Report report manner)) (Err why) = tt
nothing_selected (Err refusals.Source) hint = tt
nothing_selected (Err refusals.Ended) hint = tt
nothing_selected (Err refusals.Head) hint = tt
nothing_selected (Err refusals.HeadLong) hint = tt
nothing_selected (Err refusals.Fields) hint = tt
nothing_selected (Err refusals.Host) hint = tt
nothing_selected (Err (refusals.Coding both)) hint = tt
nothing_selected (Err (refusals.Length missing)) hint = tt
nothing_selected (Err refusals.BodyLong) hint = tt
nothing_selected (Err refusals.Method) hint = tt
nothing_selected (Err refusals.Path) hint = tt
nothing_selected (Err refusals.Query) hint = tt
nothing_selected (Err (refusals.Denied rule needs_token)) (Ok hint) = tt
nothing_selected (Err (refusals.Denied rule needs_token)) (Err why) = tt
nothing_selected (Err refusals.Mac) hint = tt
nothing_selected (Err refusals.Message) hint = tt
nothing_selected (Err refusals.Body) hint = tt
nothing_selected (Err (refusals.At length)) hint = tt

unfinished_input : (coming : Coming) (none : Bool) → HasInput (unfinished coming none)
unfinished_input Open none = tt
unfinished_input Ended true = tt
unfinished_input Ended false = tt
unfinished_input Failed none = tt

body_input : (t : NodeTerms) (x : Arrival) (came : ℕ) (head : Head) (rest : List ℕ) (said : Asked) → said.selection ≡ selections.Whole → HasInput (with_body t x came head rest said)
body_input t x came head rest said none = by_permit (awaits_continue head && not x.permitted)
  where
    request : Request
    request = record {
      count = came - length rest + head.length;
      asked = said;
      line = line_of head;
      selectors = selectors_for said.operation head.selectors;
      input = None;
      last = is_last head x.number;
    }

    body : List ℕ
    body = take head.length rest

    by_mac : (b : Bool) → HasInput (if b then refuse (asker_of head) (kept_after request.last request.count) refusals.Mac else answered head request (input_asked t.nodes t.me said.operation body))
    by_mac true = tt
    by_mac false =
        answered_input head request (input_asked t.nodes t.me said.operation body)
        (unsettled_input said (input_asked t.nodes t.me said.operation body) none (asked_input t.nodes t.me said.operation said.hint body))

    by_length : (b : Bool) → HasInput (if b then unfinished x.coming false else whole t head request body)
    by_length true = unfinished_input x.coming false
    by_length false = by_mac (is_forged t.keys said.operation head.mac body)

    by_permit : (b : Bool) → HasInput (if b then verdicts.Permit else if nat_lt (length rest) head.length then unfinished x.coming false else whole t head request body)
    by_permit true = tt
    by_permit false = by_length (nat_lt (length rest) head.length)

routed_input : (t : NodeTerms) (x : Arrival) (came : ℕ) (head : Head) (rest : List ℕ) (r : Result Asked Refused) → IfOk r (λ (said : Asked). said.selection ≡ selections.Whole) → HasInput (routed t x came head rest r)
routed_input t x came head rest (Ok said) none = body_input t x came head rest said none
routed_input t x came head rest (Err why) none = tt

unread_input : (coming : Coming) (none : Bool) (asker : Asker) (fault : Option RouteFault) → HasInput (unread coming none asker fault)
unread_input coming none asker None = unfinished_input coming none
unread_input coming none asker (Some (faults.Refused why)) = tt
unread_input coming none asker (Some faults.Memory) = tt

verdict_input : (t : NodeTerms) (x : Arrival) (bytes rest : List ℕ) (answer : Result Head HttpFault) → HasInput (verdict_for t x bytes rest answer)
verdict_input t x bytes rest (Ok head) = routed_input t x (length bytes) head rest (asked_with_hint head t.rules) (nothing_selected (routes.asked head t.rules) (hint_for head.method head.query))
verdict_input t x bytes rest (Err fault) = unread_input x.coming (is_none bytes) (asker_in (taken bytes rest)) (fault_met fault)

has_input : (t : NodeTerms) (x : Arrival) (bytes : List ℕ) (v : Verdict) → IsVerdict t x bytes v → HasInput v
has_input t x bytes v is = subst HasInput (sym is.verdict) (verdict_input t x bytes is.rest is.answer)

-- News

-- the state of the connection after this news
abbrev pub IsReadyFor : Came → List Call → List Work → Type 0
IsReadyFor (comes.Request c count v) made ws = IsSettled made ws × (phase_on c made ≡ Awaiting) × HasInput v
IsReadyFor (comes.Gone c loss) made ws = IsLeft c made ws
IsReadyFor came made ws = IsSettled made ws

-- the deeds for the reply to a probe touch no connection
no_fault : (s : Setting) (made : List Call) (peer : ℕ) (probing : Option Probing) (fault : Option ProbeFault) (median : ℕ) (a : Running) → IsSettled made a.works → IsOrderly s made (measures probing peer fault median s a) a
no_fault s made peer None None median a settled = orderly_none s made a settled
no_fault s made peer (Some probing) None median a settled = all_quiet s made _ a (tt, (tt, tt)) settled
no_fault s made peer probing (Some fault) median a settled = all_quiet s made _ a (tt, tt) settled

bringing : (s : Setting) (made : List Call) (input : Option Input) (a : Running) → IsSettled made a.works → IsOrderly s made (takes_brought input s a) a
bringing s made None a settled = orderly_none s made a settled
bringing s made (Some i) a settled = all_quiet s made (takes_in i s a) a (tt, (tt, (tt, tt))) settled

replying_to : (s : Setting) (made : List Call) (input : Option Input) (refused : Option MessageFault) (a : Running) → IsSettled made a.works → IsOrderly s made (takes_reply input refused s a) a
replying_to s made input None a settled = bringing s made input a settled
replying_to s made input (Some fault) a settled = quiet_behind s made (Rejects fault) (takes_brought input s (after (Rejects fault) a)) a tt settled (λ onward. bringing s (made ++ []) input (after (Rejects fault) a) onward)

probing_it : (s : Setting) (made : List Call) (peer : Option ℕ) (started : ℕ) (a : Running) → IsSettled made a.works → IsOrderly s made (probes_it peer started s a) a
probing_it s made None started a settled = orderly_none s made a settled
probing_it s made (Some peer) started a settled = all_quiet s made (probes_it (Some peer) started s a) a (tt, (tt, tt)) settled

pub happening : (s : Setting) (made : List Call) (probing : Option Probing) (came : Came) (now median started : ℕ) (a : Running) → IsReadyFor came made a.works → IsOrderly s made (happens probing came now median started s a) a
happening s made probing (comes.Request c count v) now median started a ready = obeying s made c count v now a (ready.1) (ready.2) (ready.0)
happening s made probing (comes.Room c) now median started a ready = has_room s made c now a ready
happening s made probing (comes.Gone c loss) now median started a ready = drops s made c (is_failure loss && is_told (work_on c a.works)) a ready
happening s made probing (comes.Reply input taken refused) now median started a ready = replying_to s made input refused a ready
happening s made probing (comes.Probed peer since fault) now median started a ready = no_fault s made peer probing fault median a ready
happening s made probing comes.Nothing now median started a ready = probing_it s made (next_peer probing a.dials) started a ready

-- Ticks and messages

ticking : (s : Setting) (made : List Call) (pace : Pace) (now seconds : ℕ) (a : Running) → IsSettled made a.works → IsOrderly s made (ticks pace now seconds s a) a
ticking s made pace now seconds a settled = by_test (wait_until pace now == 0)
  where
    by_second : (b : Bool) → AllQuiet ((one (Tells seconds) >> ticks_if b seconds) s a)
    by_second true = (tt, (tt, (tt, (tt, tt))))
    by_second false = (tt, tt)

    by_test : (b : Bool) → IsOrderly s made ((if b then ticked pace.second seconds else nothing) s a) a
    by_test true = all_quiet s made (ticked pace.second seconds s a) a (by_second (has_passed pace.second seconds)) settled
    by_test false = orderly_none s made a settled

dialling_it : (s : Setting) (made : List Call) (place : ℕ) (m : Option Message) (a : Running) → IsSettled made a.works → IsOrderly s made (dials_it place m s a) a
dialling_it s made place None a settled = orderly_none s made a settled
dialling_it s made place (Some m) a settled = all_quiet s made (dials_it place (Some m) s a) a (tt, tt) settled

dialling_at : (s : Setting) (made : List Call) (place : Option ℕ) (a : Running) → IsSettled made a.works → IsOrderly s made (dials_at place s a) a
dialling_at s made None a settled = orderly_none s made a settled
dialling_at s made (Some place) a settled = dialling_it s made place (slice_get a.outbox place) a settled

sending : (n : ℕ) (s : Setting) (made : List Call) (a : Running) → IsSettled made a.works → IsOrderly s made (sends n s a) a
unfolding sends
sending zero s made a settled = orderly_none s made a settled
sending (suc n) s made a settled =
    let first = dialling_at s made (next_to_dial a.outbox a.dials) a settled in
    orderly_then s made (dials_next s a) (sends n s (after_all (dials_next s a) a)) a first (sending n s (made ++ calls_of s (dials_next s a) a) (after_all (dials_next s a) a) first.settled)

pub ticking_and_sending : (s : Setting) (made : List Call) (pace : Pace) (now seconds : ℕ) (a : Running) → IsSettled made a.works → IsOrderly s made (ticks_and_sends pace now seconds s a) a
ticking_and_sending s made pace now seconds a settled =
    let first = ticking s made pace now seconds a settled in
    let ds : List Deed = ticks pace now seconds s a in
    orderly_then s made ds (sends MAX_DIALS s (after_all ds a)) a first (sending MAX_DIALS s (made ++ calls_of s ds a) (after_all ds a) first.settled)

dealing : (s : Setting) (made : List Call) (pace : Pace) (probing : Option Probing) (came : Came) (now median started seconds : ℕ) (a : Running) → IsReadyFor came made a.works
    → IsOrderly s made (deals pace probing came now median started seconds s a) a
dealing s made pace probing came now median started seconds a ready =
    let first = happening s made probing came now median started a ready in
    let ds : List Deed = happens probing came now median started s a in
    let soon : Pace = quickened (came_hurries came a.node) pace in
    orderly_then s made ds (ticks_and_sends soon now seconds s (after_all ds a)) a first (ticking_and_sending s (made ++ calls_of s ds a) soon now seconds (after_all ds a) first.settled)

-- Events

awaited : (phase : Phase) (b c : Bool) → IsTrue (is_awaiting phase && b && c) → phase ≡ Awaiting
awaited Awaiting b c is = refl
awaited Answering b c is = absurd (false≢true is)
awaited Whole b c is = absurd (false≢true is)
awaited Broken b c is = absurd (false≢true is)
awaited Gone b c is = absurd (false≢true is)

-- the calls after an event and a reading of the clock
abbrev seeing : List Call → LinkEvent → List ℕ → ℕ → List Call
seeing made event bytes now = made ++ (acts.Next event bytes ∷ acts.Millis now ∷ [])

seen_phase : (c : ℕ) (made : List Call) (event : LinkEvent) (bytes : List ℕ) (now : ℕ) → phase_on c (seeing made event bytes now) ≡ (sees c event (standing_of c made)).phase
seen_phase c made event bytes now = ap (λ (x : Standing). x.phase) (stands-then c made (acts.Next event bytes ∷ acts.Millis now ∷ []) untouched)

seen_gone : (d : ℕ) (loss : Loss) (made : List Call) (bytes : List ℕ) (now : ℕ) (ws : List Work) → IsSettled made ws → IsLeft d (seeing made (events.Gone d loss) bytes now) ws
seen_gone d loss made bytes now ws settled = record {
  phase = seen_phase d made (events.Gone d loss) bytes now ∙ ap (λ (b : Bool). (if b then after_loss (standing_of d made) else standing_of d made).phase) (eq-eqb d d refl);
  one = one_at_most (phase_on d made) (works_on d ws) (settled d);
  others = λ (c : ℕ) (apart : (d == c) ≡ false).
      subst (λ (x : Phase). Fits x (works_on c ws))
      (sym (seen_phase c made (events.Gone d loss) bytes now ∙ ap (λ (b : Bool). (if b then after_loss (standing_of c made) else standing_of c made).phase) apart)) (settled c);
}

back_ready : (t : NodeTerms) (errand : Errand) (reading : Result Reply HttpFault) (made : List Call) (ws : List Work) → IsSettled made ws → IsReadyFor (comes_back t.me t.nodes t.keys errand reading) made ws
back_ready t (errands.Message to fetch) reading made ws settled = settled
back_ready t (errands.Probe peer since) reading made ws settled = settled

means_back : (t : NodeTerms) (lent : List ℕ) (errand : Option Errand) (coming : Coming) (came : Came) (made : List Call) (ws : List Work) → MeansBack t lent errand coming came → IsSettled made ws → IsReadyFor came made ws
means_back t lent None coming came made ws means settled = subst (λ (x : Came). IsReadyFor x made ws) (sym means) settled
means_back t lent (Some errand) coming came made ws means settled = subst (λ (x : Came). IsReadyFor x made ws) (sym (means.3)) (back_ready t errand (means.0) made ws settled)

-- the connection is ready for the news of an event that could come
seen_ready : (t : NodeTerms) (lent : List ℕ) (errand : Option Errand) (event : LinkEvent) (came : Came) (made : List Call) (bytes : List ℕ) (now : ℕ) (ws : List Work) → Means t lent errand event came
    → IsTrue (may event made) → IsSettled made ws → IsReadyFor came (seeing made event bytes now) ws
seen_ready t lent errand (events.Request x) came made bytes now ws means could settled =
    subst (λ (y : Came). IsReadyFor y (seeing made (events.Request x) bytes now) ws) (sym (means.2)) (
      settled_by made (acts.Next (events.Request x) bytes ∷ acts.Millis now ∷ []) ws (λ c. settled c),
      seen_phase x.connection made (events.Request x) bytes now
          ∙ awaited (phase_on x.connection made) (x.number == (standing_of x.connection made).number) (if x.permitted then (standing_of x.connection made).fed else not (standing_of x.connection made).fed) could,
      has_input t x lent (means.0) (means.1),
    )
seen_ready t lent errand (events.Room d) came made bytes now ws means could settled =
    subst (λ (y : Came). IsReadyFor y (seeing made (events.Room d) bytes now) ws) (sym means)
    (settled_by made (acts.Next (events.Room d) bytes ∷ acts.Millis now ∷ []) ws (λ c. fits_if (d == c) (after_room (standing_of c made)) (standing_of c made) (works_on c ws) refl (settled c)))
seen_ready t lent errand (events.Gone d loss) came made bytes now ws means could settled =
    subst (λ (y : Came). IsReadyFor y (seeing made (events.Gone d loss) bytes now) ws) (sym means) (seen_gone d loss made bytes now ws settled)
seen_ready t lent errand (events.Reply d coming) came made bytes now ws means could settled =
    means_back t lent errand coming came (seeing made (events.Reply d coming) bytes now) ws means
    (settled_by made (acts.Next (events.Reply d coming) bytes ∷ acts.Millis now ∷ []) ws (λ c. settled c))
seen_ready t lent errand events.Quiet came made bytes now ws means could settled =
    subst (λ (y : Came). IsReadyFor y (seeing made events.Quiet bytes now) ws) (sym means)
    (settled_by made (acts.Next events.Quiet bytes ∷ acts.Millis now ∷ []) ws (λ c. settled c))

-- Turns

-- the news was told by the link, which could tell it after these calls
pub record IsTold (t : Observation) (made : List Call) : Type 0 where
  pub terms : NodeTerms
  pub lent : List ℕ
  pub errand : Option Errand
  pub means : Means terms lent errand t.event t.came
  pub could : IsTrue (may t.event made)

taking_next : (s : Setting) (made : List Call) (pace : Pace) (probing : Option Probing) (t : Observation) (a : Running) → IsTold t made → IsSettled made a.works → IsOrderly s made (takes_next pace probing t s a) a
taking_next s made pace probing t a told settled =
    let saw : Deed = Sees t.event (wait_for pace a.works t.before) t.bytes in
    let behind : Running = after saw a in
    let ds : List Deed = deals pace probing t.came t.now t.median t.started t.seconds s behind in
    orderly_behind s made saw (Reads t.now ∷ ds) a tt
    (orderly_behind s (made ++ (acts.Next t.event t.bytes ∷ [])) (Reads t.now) ds behind tt
    (subst (λ (cs : List Call). IsOrderly s cs ds behind) (sym (append_assoc made (acts.Next t.event t.bytes ∷ []) (acts.Millis t.now ∷ [])))
    (dealing s (seeing made t.event t.bytes t.now) pace probing t.came t.now t.median t.started t.seconds behind
    (seen_ready told.terms told.lent told.errand t.event t.came made t.bytes t.now a.works told.means told.could settled))))

waited_input : (operation : Operation) (hint : Hint) (chosen : Selection) → IsInputOf (asked_of operation hint chosen) (client_input (asked_of operation hint chosen))
waited_input asks.Message hint chosen = tt
waited_input (asks.Publish group at) hint chosen = tt
waited_input (asks.Seal group at) hint chosen = tt
waited_input (asks.Client group area start manner) hint chosen = refl
waited_input (asks.Probe manner) hint chosen = tt
waited_input (asks.Report report manner) hint chosen = tt

taking_up : (s : Setting) (made : List Call) (place : ℕ) (now : ℕ) (a : Running) (o : Option Work) → slice_get a.works place ≡ o → IsSettled made a.works → IsOrderly s made (takes_up o now s a) a
taking_up s made place now a None is settled = orderly_none s made a settled
taking_up s made place now a (Some (works.Content p)) is settled = orderly_none s made a settled
taking_up s made place now a (Some (works.Aside p)) is settled =
    let here = alone made a.works place (works.Aside p) is settled in
    going_on s made p now a (record { phase = here.0; works = inr (here.1) }) settled
taking_up s made place now a (Some (works.Waits w)) is settled =
    let here = alone made a.works place (works.Waits w) is settled in
    responding s made (pending w.connection w.request (is_some (client_input w.request.asked)) true) (client_input w.request.asked) now a
    (here.0, w, here.1) (waited_input w.request.asked.operation w.request.asked.hint w.request.asked.selection) settled

taking_due : (s : Setting) (made : List Call) (pace : Pace) (place before seconds : ℕ) (a : Running) → IsSettled made a.works → IsOrderly s made (takes_due pace (slice_get a.works place) before seconds s a) a
taking_due s made pace place before seconds a settled =
    let first = taking_up s made place before a (slice_get a.works place) refl settled in
    let ds : List Deed = takes_up (slice_get a.works place) before s a in
    orderly_then s made ds (ticks_and_sends pace before seconds s (after_all ds a)) a first (ticking_and_sending s (made ++ calls_of s ds a) pace before seconds (after_all ds a) first.settled)

-- the news counts where no work is due
abbrev pub IsToldAt : Option ℕ → Observation → List Call → Type 0
IsToldAt None t made = IsTold t made
IsToldAt (Some place) t made = Unit {0}

taking_at : (due : Option ℕ) (s : Setting) (made : List Call) (pace : Pace) (probing : Option Probing) (t : Observation) (a : Running) → IsToldAt due t made → IsSettled made a.works → IsOrderly s made (takes_at due pace probing t s a) a
taking_at None s made pace probing t a told settled = taking_next s made pace probing t a told settled
taking_at (Some place) s made pace probing t a told settled = taking_due s made pace place t.before t.seconds a settled

-- what came or was due is dealt with in order
dealt_with : (s : Setting) (made : List Call) (pace : Pace) (probing : Option Probing) (t : Observation) (a : Running) → IsToldAt (due_index a.works (shelf a.node.groups) t.before) t (made ++ (acts.Millis t.before ∷ []))
    → IsSettled made a.works → IsOrderly s made (dealt pace probing t s a) a
dealt_with s made pace probing t a told settled =
    quiet_behind s made (Reads t.before) (takes_one pace probing t s a) a tt settled
    (λ behind. taking_at (due_index a.works (shelf a.node.groups) t.before) s (made ++ (acts.Millis t.before ∷ [])) pace probing t a told behind)

-- a turn does its deeds in order
pub turning : (s : Setting) (made : List Call) (pace : Pace) (probing : Option Probing) (t : Observation) (a : Running) → IsToldAt (due_index a.works (shelf a.node.groups) t.before) t (made ++ (acts.Millis t.before ∷ []))
    → IsSettled made a.works → IsOrderly s made (turn pace probing t s a) a
turning s made pace probing t a told settled =
    let ds : List Deed = dealt pace probing t s a in
    let first = dealt_with s made pace probing t a told settled in
    orderly_then s made ds (looks_again t.look t.reread s (after_all ds a)) a first
    (all_quiet s (made ++ calls_of s ds a) (looks_again t.look t.reread s (after_all ds a)) (after_all ds a) (quiet_looks t.look t.reread s (after_all ds a)) first.settled)
