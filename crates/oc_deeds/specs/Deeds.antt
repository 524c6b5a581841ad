-- The deeds of a running node: the node after each deed, the line that the deed writes, and its calls on the link.
use Rattle.std.specs.Prelude.{ℕ, Bool, true, false, if◌then◌else◌, Option, None, Some, is_some, unwrap_or, List, [], ◌∷◌, ◌++◌, codes, length, remove, nat_le, ◌+◌, ◌-◌, ◌^◌}
use Rattle.std.specs.Option.{option_map}
use Rattle.oc_base.specs.declared.group.Group.{Group}
use Rattle.oc_link.specs.declared.call.Call.{Call}
use Rattle.oc_link.specs.declared.call.Call.TheVariants as acts
use Rattle.oc_link.specs.declared.event.LinkEvent.{LinkEvent}
use Rattle.oc_link.specs.declared.event.LinkEvent.TheVariants as events
use Rattle.oc_link.specs.declared.look.Look.{Look}
use Rattle.oc_link.specs.declared.look.Look.TheVariants as looks
use Rattle.oc_http.specs.Writing.{probe_text}
use Rattle.oc_http.specs.declared.framing.Persistence.{Persistence}
use Rattle.oc_http.specs.declared.framing.Persistence.TheVariants.{Close, Keep}
use Rattle.oc_model.specs.declared.input.Input.{Input}
use Rattle.oc_model.specs.declared.input.Input.TheVariants.{Delivered}
use Rattle.oc_model.specs.declared.message.Message.{Message}
use Rattle.oc_model.specs.Node.{Node}
use Rattle.oc_model.specs.Step.{step}
use Rattle.oc_routes.specs.Contents.{begun, rest_after, piece_of, piece_text}
use Rattle.oc_routes.specs.declared.content.UnderWay.{UnderWay}
use Rattle.oc_routes.specs.Inputs.{input_line}
use Rattle.oc_routes.specs.Refusals.{refusal_text, why_text}
use Rattle.oc_routes.specs.Replies.{others, reply_to}
use Rattle.oc_routes.specs.Responses.{address_of}
use Rattle.oc_routes.specs.declared.connections.TheConstants.{CONTINUE}
use Rattle.oc_routes.specs.declared.verdict.Refusal.{Refusal}
use Rattle.oc_routes.specs.declared.response.GroupRange.{GroupRange}
use Rattle.oc_routes.specs.declared.response.Response.{Response}
use Rattle.oc_routes.specs.declared.routes.Operation.{Operation}
use Rattle.oc_routes.specs.declared.routes.Operation.TheVariants as asks
use Rattle.oc_config.specs.Settings.{Settings, key_of}
use Rattle.oc_routes.specs.Tallies.{TallyView, known_before, with_refused, with_sent}
use Rattle.oc_routes.specs.Sights.{AboutView}
use Rattle.oc_routes.specs.declared.tally.MessageFault.{MessageFault}
use Rattle.oc_wire.specs.Macs.{request_of}
use Rattle.oc_deeds.specs.Areas.{with_areas_of}
use Rattle.oc_deeds.specs.Counted.{noted, with_refused_request, with_reply_to}
use Rattle.oc_deeds.specs.Dials.{brings, dialling}
use Rattle.oc_deeds.specs.Dials as dials
use Rattle.oc_deeds.specs.Outboxes.{with_messages}
use Rattle.oc_deeds.specs.Works.{without_work}
use Rattle.oc_deeds.specs.declared.dials.Dialling.{Dialling}
use Rattle.oc_deeds.specs.declared.dials.Errand.{Errand}
use Rattle.oc_deeds.specs.declared.dials.Errand.TheVariants as errands
use Rattle.oc_deeds.specs.declared.log.Log.{Log}
use Rattle.oc_deeds.specs.declared.log.Log.TheVariants.{Brief, Inputs, Record}
use Rattle.oc_deeds.specs.Unfit.{unfit_line}
use Rattle.oc_deeds.specs.declared.unfit.Unfit.{Unfit}
use Rattle.oc_deeds.specs.declared.work.Pending.{Pending}
use Rattle.oc_deeds.specs.declared.work.Transfer.{Transfer}
use Rattle.oc_deeds.specs.declared.work.Waiting.{Waiting}
use Rattle.oc_deeds.specs.declared.work.Work.{Work}
use Rattle.oc_deeds.specs.declared.work.Work.TheVariants as works

-- which node it is, and the form of the log of inputs
pub record Setting : Type 0 where
  pub me : ℕ
  pub log : Log

-- the text of a dial: the request that brings the message, and nothing to a node without an address, to which a dial has failed when it begins
abbrev pub dial_text : Option (List ℕ) → List ℕ → Message → List ℕ
dial_text key [] m = []
dial_text key (b ∷ host) m = request_of key (b ∷ host) m

-- a running node: its state, the messages that it has still to send, the works on its connections, its dials, what it counted,
-- the configuration that it goes by, and what is told of the program
pub record Running : Type 0 where
  pub node : Node
  pub outbox : List Message
  pub works : List Work
  pub dials : List Dialling
  pub tally : TallyView
  pub config : Settings
  pub about : AboutView

-- the address of a node, and the key of what goes out, where the network has one
abbrev pub address_in : Running → ℕ → List ℕ
address_in a node = address_of a.config.addresses node

abbrev pub key_in : Running → Option (List ℕ)
key_in a = key_of a.config.keys

pub data Deed : Type 0 where
  -- the link was asked, with this wait, and told this event, by which these bytes came
  Sees : LinkEvent → ℕ → List ℕ → Deed
  -- the clock gave this number of milliseconds
  Reads : ℕ → Deed
  -- the clock gave this number of seconds
  Tells : ℕ → Deed
  -- an input was taken, and its line was written, where each has one after its frame; its messages go to the outbox
  Takes : Input → Deed
  -- the input of a request was taken in the same way; a message back to its sender is the reply
  Accepts : Input → Deed
  -- lines that are written before an input or after it, or none
  Says : List ℕ → Deed
  -- the line `! WHY` was written
  Notes : List ℕ → Deed
  -- a connection was given the permission to send the body of its request
  Permits : ℕ → Deed
  -- a request was taken, and it waits
  Waits : Waiting → Deed
  -- a request was answered at this time
  Replies : Pending → Response → ℕ → Deed
  -- a request was refused, of which this many bytes had come
  Refuses : ℕ → ℕ → Refusal → Deed
  -- the reply to a message was refused
  Rejects : MessageFault → Deed
  -- a connection was broken off
  BreaksOff : ℕ → Deed
  -- the next piece of a content was given at this time
  Gives : Transfer → ℕ → Deed
  -- a content has nothing to give until its group has grown
  LaysAside : Transfer → Deed
  -- a connection is over; true where a line says that its reply was not sent
  Drops : ℕ → Bool → Deed
  -- the message at this place of the outbox was dialled under this number
  Dials : ℕ → Message → ℕ → Deed
  -- the probe of a node began under this number and at this time
  Probes : ℕ → ℕ → ℕ → Deed
  -- the file of the configuration was looked at, which gave this
  Looks : Look → Deed
  -- a configuration was read again, and is the one that the node goes by from now on, with its areas
  Rereads : Settings → Deed
  -- what was read again is not, for this reason
  Keeps : Unfit → Deed

-- Lines

-- `! WHY`
abbrev pub note_line : List ℕ → List ℕ
note_line why = codes "! " ++ why ++ codes "\n"

-- the line for a reply that was not sent, where one is written
abbrev pub drop_line : Bool → List ℕ
drop_line told = if told then note_line (codes "write") else []

-- the line of an input that is written after its frame; that of a record is written before it
abbrev pub taken_line : Log → ℕ → Input → List ℕ
taken_line Inputs me i = input_line me i
taken_line Record me i = []
taken_line Brief me i = []

-- what is told of a configuration that is gone by from now on
abbrev pub reread_line : List ℕ
reread_line = codes "overcast: configuration read again\n"

-- the lines of a deed
abbrev pub line : Setting → Deed → List ℕ
line s (Takes i) = taken_line s.log s.me i
line s (Accepts i) = taken_line s.log s.me i
line s (Says text) = text
line s (Notes why) = note_line why
line s (Refuses c count refusal) = note_line (why_text refusal.why)
line s (Drops c told) = drop_line told
line s d = []

-- The pieces of a content

-- the next piece as it is sent
abbrev pub piece : Transfer → List Group → List ℕ
piece p groups = piece_text p.content (piece_of p.content groups)

-- the transfer after this many bytes more of its content, if anything is left
abbrev pub transfer_after : Transfer → ℕ → ℕ → Option Transfer
transfer_after p now count = option_map (λ (u : UnderWay). record p { content = u; since = now }) (rest_after p.content count)

abbrev pub rest : Transfer → ℕ → List Group → Option Transfer
rest p now groups = transfer_after p now (length (piece_of p.content groups))

abbrev pub keeps : Persistence → Bool
keeps Keep = true
keeps Close = false

-- the content of a response to a client
abbrev pub content_of : List ℕ → GroupRange → Option UnderWay
content_of group range = if nat_le (range.start + range.count) (2 ^ 64 - 1) then Some (begun group range) else None

abbrev pub content_at : List ℕ → Option GroupRange → Option UnderWay
content_at group None = None
content_at group (Some range) = content_of group range

abbrev pub content_in : Operation → Option GroupRange → Option UnderWay
content_in (asks.Client group area start manner) range = content_at group range
content_in asked range = None

-- the transfer of a response's content, from its beginning on
abbrev pub transfer_for : Pending → Response → ℕ → Option Transfer
transfer_for r response now = option_map (λ (u : UnderWay). record {
  connection = r.connection;
  content = u;
  keeps = keeps response.connection;
  told = r.told;
  since = now;
}) (content_in r.asked.operation response.content)

-- the first piece of a content, and the rest of the content
abbrev pub first_piece : Option Transfer → List Group → List ℕ
first_piece None groups = []
first_piece (Some p) groups = piece p groups

-- the bytes that are given of a reply at once: its text, and the first piece of its content
abbrev pub given_first : Pending → Response → ℕ → List Group → List ℕ
given_first r response now groups = response.text ++ first_piece (transfer_for r response now) groups

abbrev pub first_rest : Option Transfer → ℕ → List Group → Option Transfer
first_rest None now groups = None
first_rest (Some p) now groups = rest p now groups

-- The node after a deed

-- who sent the message that an input is
abbrev pub sender_of : Input → Option ℕ
sender_of (Delivered m) = Some m.from
sender_of i = None

-- the counts after an input that this node took
abbrev pub counted_input : Input → Node → TallyView → TallyView
counted_input i n t = noted (sender_of i) (known_before i n.control.kept.table) (step n i).answer (step n i).node.control t

abbrev pub took : Input → (List Message → List Message) → Running → Running
took i kept a = record a {
  node = (step a.node i).node;
  outbox = with_messages a.outbox (kept (step a.node i).sends);
  tally = counted_input i a.node a.tally;
}

-- the message that goes back to this sender
abbrev pub back_to : Option ℕ → List Message → Option Message
back_to None sends = None
back_to (Some sender) sends = reply_to sends sender

-- the messages that go to others than this sender
abbrev pub others_than : Option ℕ → List Message → List Message
others_than None sends = sends
others_than (Some sender) sends = others sends sender

abbrev pub for_outbox : Input → List Message → List Message
for_outbox i sends = others_than (sender_of i) sends

-- the works with the rest of a content
abbrev pub with_content : Option Transfer → List Work → List Work
with_content None ws = ws
with_content (Some p) ws = ws ++ works.Content p ∷ []

-- a dial whose reply came is over
abbrev pub dials_after : LinkEvent → List Dialling → List Dialling
dials_after (events.Reply d coming) ds = dials.without_dial d ds
dials_after e ds = ds

-- the errand of the dial whose reply an event is
abbrev pub errand_in : LinkEvent → List Dialling → Option Errand
errand_in (events.Reply d coming) ds = dials.errand_of d ds
errand_in e ds = None

-- what is told of the program after its configuration was read, and was refused or not
abbrev pub when_read : Bool → AboutView → AboutView
when_read refused about = record about { refused = refused }

-- what is told of it after a look at the configuration's file; one that can't be read is refused
abbrev pub when_seen : Look → AboutView → AboutView
when_seen looks.Failed about = when_read true about
when_seen look about = about

abbrev pub after : Deed → Running → Running
after (Sees e wait bytes) a = record a { dials = dials_after e a.dials }
after (Takes i) a = took i (λ sends. sends) a
after (Accepts i) a = took i (for_outbox i) a
after (Waits w) a = record a { works = a.works ++ works.Waits w ∷ [] }
after (Replies r response now) a = record a {
  works = with_content (first_rest (transfer_for r response now) now a.node.groups) (without_work r.connection a.works);
  tally = with_reply_to r.asked.operation (given_first r response now a.node.groups) a.tally;
}
after (Refuses c count refusal) a = record a { tally = with_refused_request refusal a.tally }
after (Rejects fault) a = record a { tally = with_refused fault a.tally }
after (BreaksOff c) a = record a { works = without_work c a.works }
after (Gives p now) a = record a {
  works = with_content (rest p now a.node.groups) (without_work p.connection a.works);
  tally = with_sent (length (piece p a.node.groups)) a.tally;
}
after (LaysAside p) a = record a { works = without_work p.connection a.works ++ works.Aside p ∷ [] }
after (Drops c told) a = record a { works = without_work c a.works }
after (Dials place m d) a = record a { outbox = remove a.outbox place; dials = a.dials ++ dialling d (brings m) ∷ [] }
after (Probes peer d now) a = record a { dials = a.dials ++ dialling d (errands.Probe peer now) ∷ [] }
after (Looks look) a = record a { about = when_seen look a.about }
after (Rereads config) a = record a { node = with_areas_of config.areas a.node; config = config; about = when_read false a.about }
after (Keeps why) a = record a { about = when_read true a.about }
after d a = a

-- The calls of a deed

-- the end of a whole reply, by which the connection ends or its next request is awaited; where the link watches, it tells if the reply was not sent
abbrev pub finish : ℕ → Bool → Bool → Option Transfer → List Call
finish c keeps watched None = acts.Finish c (record { keeps = keeps; watched = watched }) ∷ []
finish c keeps watched (Some left) = []

-- a refusal of a request of this many bytes, by which the connection ends or its next request is awaited; a connection whose refusal has no text is
-- broken off
abbrev pub refuses : ℕ → ℕ → Bool → Option (List ℕ) → List Call
refuses c count keep None = acts.BreakOff c ∷ []
refuses c count keep (Some text) = acts.Take c count ∷ acts.Give c text ∷ finish c keep false None

-- The calls of a refusal. Where the connection is kept it takes the bytes of its request, and else all that came.
abbrev pub refusal_calls : ℕ → ℕ → Refusal → List Call
refusal_calls c came refusal = refuses c (unwrap_or refusal.kept came) (is_some refusal.kept) (refusal_text refusal)

-- a request that has waited was taken before
abbrev pub takes_request : Pending → List Call
takes_request r = if r.waited then [] else acts.Take r.connection r.count ∷ []

abbrev pub calls : Setting → Deed → Running → List Call
calls s (Sees e wait bytes) a = acts.Next e bytes ∷ []
calls s (Reads t) a = acts.Millis t ∷ []
calls s (Tells t) a = acts.Now t ∷ []
calls s (Permits c) a = acts.Give c CONTINUE.now ∷ []
calls s (Waits w) a = acts.Take w.connection w.request.count ∷ []
calls s (Replies r response now) a =
    takes_request r
    ++ acts.Give r.connection (given_first r response now a.node.groups)
    ∷ finish r.connection (keeps response.connection) r.told (first_rest (transfer_for r response now) now a.node.groups)
calls s (Refuses c count refusal) a = refusal_calls c count refusal
calls s (BreaksOff c) a = acts.BreakOff c ∷ []
calls s (Gives p now) a = acts.Give p.connection (piece p a.node.groups) ∷ finish p.connection p.keeps p.told (rest p now a.node.groups)
calls s (Dials place m d) a = acts.Dial d (address_in a m.to) (dial_text (key_in a) (address_in a m.to) m) ∷ []
calls s (Probes peer d now) a = acts.Dial d (address_in a peer) (probe_text (address_in a peer)) ∷ []
calls s (Looks look) a = acts.Look look ∷ []
calls s (Rereads config) a = acts.Report reread_line ∷ []
calls s (Keeps why) a = acts.Report (unfit_line why) ∷ []
calls s d a = []

-- Deeds one after another

abbrev pub after_all : List Deed → Running → Running
after_all [] a = a
after_all (d ∷ ds) a = after_all ds (after d a)

abbrev pub lines : Setting → List Deed → List ℕ
lines s [] = []
lines s (d ∷ ds) = line s d ++ lines s ds

abbrev pub calls_of : Setting → List Deed → Running → List Call
calls_of s [] a = []
calls_of s (d ∷ ds) a = calls s d a ++ calls_of s ds (after d a)

-- the input of a deed, if it takes one
abbrev pub deed_input : Deed → Option Input
deed_input (Takes i) = Some i
deed_input (Accepts i) = Some i
deed_input d = None

abbrev pub with_input : Option Input → List Input → List Input
with_input None is = is
with_input (Some i) is = i ∷ is

-- the inputs that were taken, in their order
abbrev pub inputs_of : List Deed → List Input
inputs_of [] = []
inputs_of (d ∷ ds) = with_input (deed_input d) (inputs_of ds)

-- the configuration of a deed that goes on by another one
abbrev pub reread_of : Deed → Option Settings
reread_of (Rereads config) = Some config
reread_of d = None

-- the configuration after deeds
abbrev pub config_behind : List Deed → Settings → Settings
config_behind [] c = c
config_behind (d ∷ ds) c = config_behind ds (unwrap_or (reread_of d) c)
