-- The deeds of a running node in a turn, by the news of the link and the clock.
use Rattle.std.specs.Prelude.{◌≡◌, ℕ, ◌-◌, min, Bool, true, false, ◌==◌, if◌then◌else◌, Option, Some, None, Result, List, [], ◌∷◌, ◌++◌, codes, decimal, length, slice_get, slice_set}
use Rattle.std.specs.Option.{option_map}
use Rattle.oc_base.specs.Groups.{shelf}
use Rattle.oc_base.specs.declared.limits.TheConstants.{MAX_RATE, MAX_TIME}
use Rattle.oc_link.specs.declared.event.Coming.{Coming}
use Rattle.oc_link.specs.declared.event.LinkEvent.{LinkEvent}
use Rattle.oc_link.specs.declared.event.LinkEvent.TheVariants as events
use Rattle.oc_link.specs.declared.look.Look.{Look}
use Rattle.oc_http.specs.declared.fault.HttpFault.{HttpFault}
use Rattle.oc_http.specs.declared.reply.Reply.{Reply}
use Rattle.oc_model.specs.declared.input.Input.{Input}
use Rattle.oc_model.specs.declared.input.Input.TheVariants as inputs
use Rattle.oc_model.specs.Measures.{reading_of}
use Rattle.oc_model.specs.Node.{Node}
use Rattle.oc_probe.specs.Rates.{rate_of, rates_of, with_rate}
use Rattle.oc_probe.specs.Turns.{turned}
use Rattle.oc_probe.specs.declared.fault.ProbeFault.{ProbeFault}
use Rattle.oc_probe.specs.declared.fault.ProbeFault.TheVariants as faults
use Rattle.oc_probe.specs.declared.probing.Probing.{Probing}
use Rattle.oc_routes.specs.declared.tally.MessageFault.{MessageFault}
use Rattle.oc_routes.specs.Verdicts.{IsVerdict, NodeTerms, terms_of}
use Rattle.oc_routes.specs.declared.verdict.Verdict.{Verdict}
use Rattle.oc_deeds.specs.Asks.{obeys, takes_up}
use Rattle.oc_deeds.specs.Brought.{HadMemory, IsReading, comes_back}
use Rattle.oc_deeds.specs.Choices.{due_index, free_number, wait_for}
use Rattle.oc_deeds.specs.Deeds.{Notes, Probes, Reads, Running, Rejects, Sees, Setting, Tells, dials_after}
use Rattle.oc_deeds.specs.Hurries.{came_hurries}
use Rattle.oc_deeds.specs.Pace.{has_passed, hurried, looked, wait_until}
use Rattle.oc_deeds.specs.Parts.{Part, nothing, one, ◌>>◌}
use Rattle.oc_deeds.specs.Rereading.{looks_again}
use Rattle.oc_deeds.specs.Rooms.{takes_loss, takes_room}
use Rattle.oc_deeds.specs.Sends.{sends}
use Rattle.oc_deeds.specs.Telling.{takes_ahead, takes_in}
use Rattle.oc_deeds.specs.declared.came.Came.{Came}
use Rattle.oc_deeds.specs.declared.came.Came.TheVariants as comes
use Rattle.oc_deeds.specs.declared.choosing.TheConstants.{MAX_DIALS}
use Rattle.oc_deeds.specs.declared.dials.Dialling.{Dialling}
use Rattle.oc_deeds.specs.declared.dials.Errand.{Errand}
use Rattle.oc_deeds.specs.declared.pace.Pace.{Pace}
use Rattle.oc_deeds.specs.declared.reread.Reread.{Reread}
use Rattle.oc_deeds.specs.declared.work.Work.{Work}

-- News

-- the terms by which a running node reads requests
abbrev pub terms_in : Setting → Running → NodeTerms
terms_in s a = terms_of s.me (length a.config.addresses) a.config.rules a.config.keys

-- the news of a dial with this errand; a reply to no dial is no news
abbrev pub MeansBack : NodeTerms → List ℕ → Option Errand → Coming → Came → Type 0
MeansBack t lent (Some errand) coming came = (reading : Result Reply HttpFault) × IsReading lent coming reading × HadMemory reading × (came ≡ comes_back t.me t.nodes t.keys errand reading)
MeansBack t lent None coming came = came ≡ comes.Nothing

-- The news of an event that lends these bytes, to a node that reads requests by these terms, where the dial whose reply the event is has this errand.
abbrev pub Means : NodeTerms → List ℕ → Option Errand → LinkEvent → Came → Type 0
Means t lent errand (events.Request a) came = (v : Verdict) × IsVerdict t a lent v × (came ≡ comes.Request a.connection (length lent) v)
Means t lent errand (events.Room c) came = came ≡ comes.Room c
Means t lent errand (events.Gone c loss) came = came ≡ comes.Gone c loss
Means t lent errand (events.Reply d coming) came = MeansBack t lent errand coming came
Means t lent errand events.Quiet came = came ≡ comes.Nothing

-- The news of the link and the clock in a turn. News that a turn does not ask for may be anything.
pub record Observation : Type 0 where
  -- the time when the turn begins
  pub before : ℕ
  -- the event, its bytes, and its meaning
  pub event : LinkEvent
  pub bytes : List ℕ
  pub came : Came
  -- the time after the event
  pub now : ℕ
  -- the median of the rates of the peer that was probed
  pub median : ℕ
  -- the time when a probe begins
  pub started : ℕ
  -- the seconds at the tick
  pub seconds : ℕ
  -- what the look at the file of the configuration gave, and what that is
  pub look : Look
  pub reread : Reread

-- Probes

-- `probe ID link` or `probe ID reply`
abbrev pub fault_word : ProbeFault → List ℕ
fault_word faults.Link = codes " link"
fault_word other = codes " reply"

abbrev pub probe_note : ℕ → ProbeFault → List ℕ
probe_note peer fault = codes "probe " ++ decimal peer ++ fault_word fault

-- a line tells why a probe took nothing
abbrev pub notes_fault : ℕ → ProbeFault → Part
notes_fault peer fault s a = Notes (probe_note peer fault) ∷ []

-- a rate is taken with the hops of the last record; nothing is told after it
abbrev pub takes_measure : ℕ → ℕ → Part
takes_measure peer rate s a = takes_ahead (inputs.Measured peer rate (reading_of a.node.control.kept.measures peer).hops) s a

-- the median of a peer's rates is taken, if rates are measured at all
abbrev pub takes_median : Option Probing → ℕ → ℕ → Part
takes_median None peer median = nothing
takes_median (Some probing) peer median = takes_measure peer (min median MAX_RATE)

-- the part that takes a measure, or writes the line with the fault
abbrev pub measures : Option Probing → ℕ → Option ProbeFault → ℕ → Part
measures probing peer None median = takes_median probing peer median
measures probing peer (Some fault) median = notes_fault peer fault

-- the next peer, where no dial is under way
abbrev pub next_peer : Option Probing → List Dialling → Option ℕ
next_peer (Some probing) [] = slice_get probing.rotation.coming 0
next_peer probing ds = None

abbrev pub probes_it : Option ℕ → ℕ → Part
probes_it None started s a = []
probes_it (Some peer) started s a = Reads started ∷ Probes peer (free_number a.dials) started ∷ []

-- the next peer is probed
abbrev pub probes_next : Option Probing → ℕ → Part
probes_next probing started s a = probes_it (next_peer probing a.dials) started s a

-- The deeds of a turn

-- the part that counts the reply to a message, where it was refused
abbrev pub rejects : Option MessageFault → Part
rejects None s a = []
rejects (Some fault) s a = Rejects fault ∷ []

-- the input that results from a message's reply is taken
abbrev pub takes_brought : Option Input → Part
takes_brought None s a = []
takes_brought (Some i) s a = takes_in i s a

-- the part for the reply to a message: it is counted where it was refused, and the input that results from it is taken
abbrev pub takes_reply : Option Input → Option MessageFault → Part
takes_reply input refused = rejects refused >> takes_brought input

-- the part for this news: at this time, with the median of the rates of a peer that was probed, and the time when a probe begins
abbrev pub happens : Option Probing → Came → ℕ → ℕ → ℕ → Part
happens probing (comes.Request c count verdict) now median started = obeys c count verdict now
happens probing (comes.Room c) now median started = takes_room c now
happens probing (comes.Gone c loss) now median started = takes_loss c loss
happens probing (comes.Reply input taken refused) now median started = takes_reply input refused
happens probing (comes.Probed peer since fault) now median started = measures probing peer fault median
happens probing comes.Nothing now median started = probes_next probing started

-- a tick at these seconds is taken, if the clock has passed the second that it has to
abbrev pub ticks_if : Bool → ℕ → Part
ticks_if true seconds = takes_in (inputs.Tick (min seconds MAX_TIME))
ticks_if false seconds = nothing

abbrev pub ticked : Option ℕ → ℕ → Part
ticked second seconds = one (Tells seconds) >> ticks_if (has_passed second seconds) seconds

-- a tick is taken, where it is due
abbrev pub ticks : Pace → ℕ → ℕ → Part
ticks pace now seconds = if wait_until pace now == 0 then ticked pace.second seconds else nothing

-- the part that takes a tick, and dials messages
abbrev pub ticks_and_sends : Pace → ℕ → ℕ → Part
ticks_and_sends pace now seconds = ticks pace now seconds >> sends MAX_DIALS

abbrev pub quickened : Bool → Pace → Pace
quickened hurries pace = if hurries then hurried pace else pace

-- the part that deals with this news, takes a tick and dials messages
abbrev pub deals : Pace → Option Probing → Came → ℕ → ℕ → ℕ → ℕ → Part
deals pace probing came now median started seconds s a =
    (happens probing came now median started >> ticks_and_sends (quickened (came_hurries came a.node) pace) now seconds) s a

-- A turn

-- one thing that happened at the link is taken
abbrev pub takes_next : Pace → Option Probing → Observation → Part
takes_next pace probing t s a =
    (one (Sees t.event (wait_for pace a.works t.before) t.bytes) >> (one (Reads t.now) >> deals pace probing t.came t.now t.median t.started t.seconds)) s a

-- some work that is due by itself is taken up
abbrev pub takes_due : Pace → Option Work → ℕ → ℕ → Part
takes_due pace work before seconds = takes_up work before >> ticks_and_sends pace before seconds

-- the work at a place, which is due by itself, is taken up; else one thing that happened
abbrev pub takes_at : Option ℕ → Pace → Option Probing → Observation → Part
takes_at None pace probing t s a = takes_next pace probing t s a
takes_at (Some place) pace probing t s a = takes_due pace (slice_get a.works place) t.before t.seconds s a

abbrev pub takes_one : Pace → Option Probing → Observation → Part
takes_one pace probing t s a = takes_at (due_index a.works (shelf a.node.groups) t.before) pace probing t s a

-- what came or was due is dealt with
abbrev pub dealt : Pace → Option Probing → Observation → Part
dealt pace probing t = one (Reads t.before) >> takes_one pace probing t

-- What a turn does, by what it is told: it deals with what came or was due, and looks whether the configuration changed.
abbrev pub turn : Pace → Option Probing → Observation → Part
turn pace probing t = dealt pace probing t >> looks_again t.look t.reread

-- The state after a turn

abbrev pub paced : Pace → ℕ → ℕ → Pace
paced pace now seconds = if wait_until pace now == 0 then looked now seconds pace else pace

-- the pace after a turn in which the work at this place was due, or none was
abbrev pub pace_after : Option ℕ → Pace → Observation → Node → Pace
pace_after None pace t n = paced (quickened (came_hurries t.came n) pace) t.now t.seconds
pace_after (Some place) pace t n = paced pace t.before t.seconds

-- the state for probes with another rate of a peer
abbrev pub with_measure : ℕ → ℕ → Probing → Probing
with_measure peer rate p = record p { gauge = slice_set p.gauge (peer - 1) (with_rate (rates_of p.gauge peer) rate) }

abbrev pub gauged : Option ProbeFault → ℕ → ℕ → Option Probing → Option Probing
gauged None peer rate p = option_map (with_measure peer rate) p
gauged (Some fault) peer rate p = p

-- the peer whose turn it was comes last, where no dial was under way
abbrev pub rotated : List Dialling → Probing → Probing
rotated [] p = record p { rotation = record p.rotation { coming = turned p.rotation.coming } }
rotated ds p = p

-- the state for probes after this news at this time, while these dials were under way
abbrev pub probed : Came → ℕ → List Dialling → Option Probing → Option Probing
probed (comes.Probed peer since fault) now ds p = gauged fault peer (rate_of since now) p
probed comes.Nothing now ds p = option_map (rotated ds) p
probed came now ds p = p

abbrev pub probing_after : Option ℕ → Observation → List Dialling → Option Probing → Option Probing
probing_after None t ds p = probed t.came t.now (dials_after t.event ds) p
probing_after (Some place) t ds p = p
