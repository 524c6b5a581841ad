-- A turn answers each request by the step of its input.
use Rattle.std.proofs.Common.{ℕ, zero, suc, Bool, true, false, Option, None, Some, List, [], ◌∷◌, ◌++◌, refl, Result, Ok, Err}
use Rattle.std.specs.Prelude.{◌==◌, if◌then◌else◌, is_some, slice_get}
use Rattle.oc_base.specs.Groups.{shelf}
use Rattle.oc_model.specs.declared.answer.Answer.{Answer}
use Rattle.oc_model.specs.declared.answer.Answer.TheVariants as answers
use Rattle.oc_model.specs.declared.input.Input.{Input}
use Rattle.oc_model.specs.declared.message.Message.{Message}
use Rattle.oc_probe.specs.declared.fault.ProbeFault.{ProbeFault}
use Rattle.oc_probe.specs.declared.probing.Probing.{Probing}
use Rattle.oc_routes.specs.Conditions.{unmet}
use Rattle.oc_routes.specs.declared.verdict.Request.{Request}
use Rattle.oc_routes.specs.declared.verdict.Verdict.{Verdict}
use Rattle.oc_routes.specs.declared.verdict.Verdict.TheVariants as verdicts
use Rattle.oc_routes.specs.declared.waiting.Prospect.{Prospect}
use Rattle.oc_routes.specs.declared.waiting.Prospect.TheVariants as prospects
use Rattle.oc_routes.specs.declared.verdict.Refusal.{Refusal}
use Rattle.oc_routes.specs.declared.tally.MessageFault.{MessageFault}
use Rattle.oc_deeds.specs.Answered.{AreAnswered, AreAnsweredBy, IsAnsweredBy, answer_of, back_of}
use Rattle.oc_deeds.specs.Asks.{answers_or_waits, has_to_wait, obeys, refuses_or, responds, settled_at, takes_on, takes_up, waiting}
use Rattle.oc_deeds.specs.Choices.{due_index, next_to_dial, prospect_of, wait_for}
use Rattle.oc_deeds.specs.Deeds.{Accepts, BreaksOff, Deed, Dials, Drops, Gives, Keeps, LaysAside, Looks, Notes, Permits, Probes, Reads, Refuses, Rejects, Replies, Rereads, Running, Says, Sees, Setting, Takes, Tells, Waits, after, after_all}
use Rattle.oc_config.specs.Settings.{Settings}
use Rattle.oc_link.specs.declared.look.Look.{Look}
use Rattle.oc_updown.specs.declared.measure_lines.Measure.{Measure}
use Rattle.oc_deeds.specs.Rereading.{fitting, fresh, goes_by, looks_again, measured_by, settles, takes_measures}
use Rattle.oc_deeds.specs.Telling.{takes_ahead}
use Rattle.oc_deeds.specs.declared.reread.Reread.{Reread}
use Rattle.oc_deeds.specs.declared.reread.Reread.TheVariants as rereads
use Rattle.oc_deeds.specs.declared.unfit.Unfit.{Unfit}
use Rattle.oc_deeds.specs.Hurries.{came_hurries}
use Rattle.oc_deeds.specs.Pace.{has_passed, wait_until}
use Rattle.oc_deeds.specs.Parts.{nothing, one, ◌>>◌}
use Rattle.oc_deeds.specs.Rooms.{goes_on, moves, takes_room, room_for}
use Rattle.oc_deeds.specs.Rooms as rooms
use Rattle.oc_deeds.specs.Sends.{dials_at, dials_it, dials_next, sends}
use Rattle.oc_deeds.specs.Turns.{Observation, takes_brought, takes_reply, deals, happens, measures, next_peer, probes_it, quickened, takes_at, takes_due, ticked, ticks, ticks_and_sends, ticks_if, turn}
use Rattle.oc_deeds.specs.Turns as turns
use Rattle.oc_deeds.specs.Works.{client_input, pending, work_on}
use Rattle.oc_deeds.specs.declared.came.Came.{Came}
use Rattle.oc_deeds.specs.declared.came.Came.TheVariants as comes
use Rattle.oc_deeds.specs.declared.choosing.TheConstants.{MAX_DIALS}
use Rattle.oc_deeds.specs.declared.pace.Pace.{Pace}
use Rattle.oc_deeds.specs.declared.work.Pending.{Pending}
use Rattle.oc_deeds.specs.declared.work.Transfer.{Transfer}
use Rattle.oc_deeds.specs.declared.work.Work.{Work}
use Rattle.oc_deeds.specs.declared.work.Work.TheVariants as works

-- Deeds that answer no request

abbrev IsSilent : Deed → Type 0
IsSilent (Replies r response now) = ⊥
IsSilent d = Unit {0}

abbrev AreSilent : List Deed → Type 0
AreSilent [] = Unit {0}
AreSilent (d ∷ ds) = IsSilent d × AreSilent ds

silent_then : (ds es : List Deed) → AreSilent ds → AreSilent es → AreSilent (ds ++ es)
silent_then [] es first second = second
silent_then (d ∷ ds) es first second = (first.0, silent_then ds es (first.1) second)

silent_one : (answer : Answer) (back : Option Message) (s : Setting) (d : Deed) (a : Running) → IsSilent d → IsAnsweredBy answer back s d a
silent_one answer back s (Sees e wait bytes) a silent = tt
silent_one answer back s (Reads t) a silent = tt
silent_one answer back s (Tells t) a silent = tt
silent_one answer back s (Takes i) a silent = tt
silent_one answer back s (Accepts i) a silent = tt
silent_one answer back s (Says text) a silent = tt
silent_one answer back s (Notes why) a silent = tt
silent_one answer back s (Permits c) a silent = tt
silent_one answer back s (Waits w) a silent = tt
silent_one answer back s (Replies r response now) a silent = absurd silent
silent_one answer back s (Refuses c count why) a silent = tt
silent_one answer back s (Rejects fault) a silent = tt
silent_one answer back s (BreaksOff c) a silent = tt
silent_one answer back s (Gives p now) a silent = tt
silent_one answer back s (LaysAside p) a silent = tt
silent_one answer back s (Drops c told) a silent = tt
silent_one answer back s (Dials place m d) a silent = tt
silent_one answer back s (Probes peer d now) a silent = tt
silent_one answer back s (Looks look) a silent = tt
silent_one answer back s (Rereads config) a silent = tt
silent_one answer back s (Keeps why) a silent = tt

silent_all : (answer : Answer) (back : Option Message) (s : Setting) (ds : List Deed) (a : Running) → AreSilent ds → AreAnsweredBy answer back s ds a
silent_all answer back s [] a silent = tt
silent_all answer back s (d ∷ ds) a silent = (silent_one answer back s d a (silent.0), silent_all (answer_of answer d a) (back_of back d a) s ds (after d a) (silent.1))

-- the answer is unchanged after the deeds that answer
answered_then : (answer : Answer) (back : Option Message) (s : Setting) (ds es : List Deed) (a : Running) → AreAnsweredBy answer back s ds a → AreSilent es → AreAnsweredBy answer back s (ds ++ es) a
answered_then answer back s [] es a first second = silent_all answer back s es a second
answered_then answer back s (d ∷ ds) es a first second = (first.0, answered_then (answer_of answer d a) (back_of back d a) s ds es (after d a) (first.1) second)

-- Ticks and messages

silent_ticks : (pace : Pace) (now seconds : ℕ) (s : Setting) (a : Running) → AreSilent (ticks pace now seconds s a)
silent_ticks pace now seconds s a = by_test (wait_until pace now == 0)
  where
    by_second : (b : Bool) → AreSilent ((one (Tells seconds) >> ticks_if b seconds) s a)
    by_second true = (tt, (tt, (tt, (tt, tt))))
    by_second false = (tt, tt)

    by_test : (b : Bool) → AreSilent ((if b then ticked pace.second seconds else nothing) s a)
    by_test true = by_second (has_passed pace.second seconds)
    by_test false = tt

silent_dial : (place : ℕ) (m : Option Message) (s : Setting) (a : Running) → AreSilent (dials_it place m s a)
silent_dial place None s a = tt
silent_dial place (Some m) s a = (tt, tt)

silent_at : (place : Option ℕ) (s : Setting) (a : Running) → AreSilent (dials_at place s a)
silent_at None s a = tt
silent_at (Some place) s a = silent_dial place (slice_get a.outbox place) s a

silent_sends : (n : ℕ) (s : Setting) (a : Running) → AreSilent (sends n s a)
unfolding sends
silent_sends zero s a = tt
silent_sends (suc n) s a = silent_then (dials_next s a) (sends n s (after_all (dials_next s a) a)) (silent_at (next_to_dial a.outbox a.dials) s a) (silent_sends n s (after_all (dials_next s a) a))

silent_end : (pace : Pace) (now seconds : ℕ) (s : Setting) (a : Running) → AreSilent (ticks_and_sends pace now seconds s a)
silent_end pace now seconds s a =
    let ds : List Deed = ticks pace now seconds s a in
    silent_then ds (sends MAX_DIALS s (after_all ds a)) (silent_ticks pace now seconds s a) (silent_sends MAX_DIALS s (after_all ds a))

-- Turns in which something came

silent_moves : (p : Transfer) (now : ℕ) (what : Prospect) → AreSilent (moves p now what)
silent_moves p now prospects.Gives = (tt, tt)
silent_moves p now prospects.Waits = (tt, tt)
silent_moves p now prospects.Breaks = (tt, tt)

silent_room : (o : Option Work) (now : ℕ) (s : Setting) (a : Running) → AreSilent (room_for (rooms.transfer_of o) now s a)
silent_room None now s a = tt
silent_room (Some (works.Content p)) now s a = silent_moves p now (prospect_of p (shelf a.node.groups) now)
silent_room (Some (works.Aside p)) now s a = tt
silent_room (Some (works.Waits w)) now s a = tt

silent_measures : (probing : Option Probing) (peer : ℕ) (fault : Option ProbeFault) (median : ℕ) (s : Setting) (a : Running) → AreSilent (measures probing peer fault median s a)
silent_measures None peer None median s a = tt
silent_measures (Some probing) peer None median s a = (tt, (tt, tt))
silent_measures probing peer (Some fault) median s a = (tt, tt)

silent_brought : (input : Option Input) (s : Setting) (a : Running) → AreSilent (takes_brought input s a)
silent_brought None s a = tt
silent_brought (Some i) s a = (tt, (tt, (tt, tt)))

silent_probe : (peer : Option ℕ) (started : ℕ) (s : Setting) (a : Running) → AreSilent (probes_it peer started s a)
silent_probe None started s a = tt
silent_probe (Some peer) started s a = (tt, (tt, tt))

responded : (r : Pending) (input : Option Input) (now : ℕ) (s : Setting) (a : Running) → AreAnswered s (responds r input now s a) a
responded r None now s a = (refl, tt)
responded r (Some i) now s a = (tt, (tt, (tt, (refl, tt))))

answered_or_waits : (c : ℕ) (request : Request) (now : ℕ) (s : Setting) (a : Running) → AreAnswered s (answers_or_waits c request now s a) a
answered_or_waits c request now s a = by_test (has_to_wait request a.node)
  where
    by_test : (b : Bool) → AreAnswered s (if b then Waits (waiting c request now) ∷ [] else responds (pending c request (is_some request.input) false) request.input now s a) a
    by_test true = (tt, tt)
    by_test false = responded (pending c request (is_some request.input) false) request.input now s a

took_on : (c : ℕ) (request : Request) (now : ℕ) (s : Setting) (a : Running) → AreAnswered s (takes_on c request now s a) a
took_on c request now s a = by_condition (unmet request a.node.control.me (shelf a.node.groups))
  where
    by_condition : (why : Option Refusal) → AreAnswered s (refuses_or why c request now s a) a
    by_condition (Some why) = (tt, tt)
    by_condition None = answered_or_waits c (settled_at a.node.groups request) now s a

obeyed : (c count : ℕ) (v : Verdict) (now : ℕ) (s : Setting) (a : Running) → AreAnswered s (obeys c count v now s a) a
obeyed c count verdicts.Wait now s a = tt
obeyed c count verdicts.Leave now s a = (tt, tt)
obeyed c count verdicts.Permit now s a = (tt, tt)
obeyed c count (verdicts.Refuse why) now s a = (tt, tt)
obeyed c count (verdicts.Ask request) now s a = took_on c request now s a

replied_to : (input : Option Input) (refused : Option MessageFault) (s : Setting) (a : Running) → AreAnswered s (takes_reply input refused s a) a
replied_to input None s a = silent_all answers.Ok None s (takes_brought input s a) a (silent_brought input s a)
replied_to input (Some fault) s a =
    let b : Running = after (Rejects fault) a in
    (tt, silent_all answers.Ok None s (takes_brought input s b) b (silent_brought input s b))

happened : (probing : Option Probing) (came : Came) (now median started : ℕ) (s : Setting) (a : Running) → AreAnswered s (happens probing came now median started s a) a
happened probing (comes.Request c count v) now median started s a = obeyed c count v now s a
happened probing (comes.Room c) now median started s a = silent_all answers.Ok None s (takes_room c now s a) a (silent_room (work_on c a.works) now s a)
happened probing (comes.Gone c loss) now median started s a = (tt, tt)
happened probing (comes.Reply input taken refused) now median started s a = replied_to input refused s a
happened probing (comes.Probed peer since fault) now median started s a = silent_all answers.Ok None s (measures probing peer fault median s a) a (silent_measures probing peer fault median s a)
happened probing comes.Nothing now median started s a = silent_all answers.Ok None s (probes_it (next_peer probing a.dials) started s a) a (silent_probe (next_peer probing a.dials) started s a)

dealt : (pace : Pace) (probing : Option Probing) (came : Came) (now median started seconds : ℕ) (s : Setting) (a : Running) → AreAnswered s (deals pace probing came now median started seconds s a) a
dealt pace probing came now median started seconds s a =
    let ds : List Deed = happens probing came now median started s a in
    let soon : Pace = quickened (came_hurries came a.node) pace in
    answered_then answers.Ok None s ds (ticks_and_sends soon now seconds s (after_all ds a)) a (happened probing came now median started s a) (silent_end soon now seconds s (after_all ds a))

-- Turns in which some work was due

took_up : (o : Option Work) (now : ℕ) (s : Setting) (a : Running) → AreAnswered s (takes_up o now s a) a
took_up None now s a = tt
took_up (Some (works.Content p)) now s a = tt
took_up (Some (works.Aside p)) now s a = silent_all answers.Ok None s (goes_on p now s a) a (silent_moves p now (prospect_of p (shelf a.node.groups) now))
took_up (Some (works.Waits w)) now s a =
    responded (pending w.connection w.request (is_some (client_input w.request.asked)) true) (client_input w.request.asked) now s a

took_due : (pace : Pace) (o : Option Work) (before seconds : ℕ) (s : Setting) (a : Running) → AreAnswered s (takes_due pace o before seconds s a) a
took_due pace o before seconds s a =
    let ds : List Deed = takes_up o before s a in
    answered_then answers.Ok None s ds (ticks_and_sends pace before seconds s (after_all ds a)) a (took_up o before s a) (silent_end pace before seconds s (after_all ds a))

took_at : (due : Option ℕ) (pace : Pace) (probing : Option Probing) (t : Observation) (s : Setting) (a : Running) → AreAnswered s (takes_at due pace probing t s a) a
took_at None pace probing t s a =
    let behind : Running = after (Sees t.event (wait_for pace a.works t.before) t.bytes) a in
    (tt, (tt, dealt pace probing t.came t.now t.median t.started t.seconds s behind))
took_at (Some place) pace probing t s a = took_due pace (slice_get a.works place) t.before t.seconds s a

-- A configuration that was read again

silent_measured : (ms : List Measure) (s : Setting) (a : Running) → AreSilent (takes_measures ms s a)
unfolding takes_measures
silent_measured [] s a = tt
silent_measured (m ∷ ms) s a = (tt, (tt, silent_measured ms s (after_all (takes_ahead (measured_by m) s a) a)))

silent_settled : (o : Result Settings Unfit) (old : Settings) (s : Setting) (a : Running) → AreSilent (settles o old s a)
silent_settled (Err why) old s a = (tt, tt)
silent_settled (Ok new) old s a = (tt, silent_measured (fresh s.me old new) s (after (Rereads new) a))

silent_by : (r : Reread) (s : Setting) (a : Running) → AreSilent (goes_by r s a)
silent_by rereads.Nothing s a = tt
silent_by (rereads.Unfit why) s a = (tt, tt)
silent_by (rereads.Config new) s a = silent_settled (fitting s a.config new) a.config s a

silent_looks : (look : Look) (r : Reread) (s : Setting) (a : Running) → AreSilent (looks_again look r s a)
silent_looks look r s a = (tt, silent_by r s (after (Looks look) a))

pub turn_answers : (pace : Pace) (probing : Option Probing) (t : Observation) (s : Setting) (a : Running) → AreAnswered s (turn pace probing t s a) a
turn_answers pace probing t s a =
    let ds : List Deed = turns.dealt pace probing t s a in
    answered_then answers.Ok None s ds (looks_again t.look t.reread s (after_all ds a)) a (tt, took_at (due_index a.works (shelf a.node.groups) t.before) pace probing t s a)
    (silent_looks t.look t.reread s (after_all ds a))
