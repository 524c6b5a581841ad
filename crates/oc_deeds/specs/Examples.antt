-- Worked examples: short runs of deeds, with their calls, their lines and the works after them.
use Rattle.std.specs.Prelude.{◌≡◌, ℕ, true, false, Option, None, Some, List, [], ◌∷◌, ◌++◌, codes}
use Rattle.oc_base.specs.Groups.{bytes_of}
use Rattle.oc_link.specs.declared.call.Call.TheVariants as acts
use Rattle.oc_link.specs.declared.event.Coming.TheVariants.{Open, Ended}
use Rattle.oc_link.specs.declared.event.LinkEvent.{LinkEvent}
use Rattle.oc_link.specs.declared.event.LinkEvent.TheVariants as events
use Rattle.oc_http.specs.declared.framing.Persistence.{Persistence}
use Rattle.oc_http.specs.declared.framing.Persistence.TheVariants.{Close, Keep}
use Rattle.oc_model.specs.Node.{new_node}
use Rattle.oc_model.specs.declared.input.Input.TheVariants as inputs
use Rattle.oc_model.specs.declared.message.Body.TheVariants as bodies
use Rattle.oc_model.specs.declared.message.Message.{Message}
use Rattle.oc_routes.specs.Sights.{AboutView}
use Rattle.oc_routes.specs.Tallies.{first_tally}
use Rattle.oc_routes.specs.declared.hint.Hint.TheVariants.{Plain}
use Rattle.oc_routes.specs.Inputs.{input_line}
use Rattle.oc_routes.specs.Refusals.{refusal_text}
use Rattle.oc_routes.specs.declared.asker.Asker.TheVariants.{Client}
use Rattle.oc_routes.specs.declared.refused.Refused.TheVariants.{Path}
use Rattle.oc_routes.specs.declared.verdict.Refusal.{Refusal}
use Rattle.oc_select.specs.declared.selection.Selection.TheVariants.{Whole}
use Rattle.oc_routes.specs.declared.manner.Manner.TheVariants.{Once}
use Rattle.oc_routes.specs.declared.response.GroupRange.{GroupRange}
use Rattle.oc_routes.specs.declared.response.Response.{Response}
use Rattle.oc_routes.specs.declared.routes.Operation.{Operation}
use Rattle.oc_routes.specs.declared.routes.Operation.TheVariants as asks
use Rattle.oc_config.specs.Settings.{Settings}
use Rattle.oc_wire.specs.Macs.{request_of}
use Rattle.oc_deeds.specs.Deeds.{Accepts, Deed, Dials, Drops, Gives, Notes, Refuses, Replies, Rereads, Running, Sees, Setting, after_all, calls_of, errand_in, lines}
use Rattle.oc_deeds.specs.Dials.{dialling}
use Rattle.oc_deeds.specs.Replying.{text_or_none}
use Rattle.oc_deeds.specs.declared.dials.Errand.TheVariants as errands
use Rattle.oc_deeds.specs.declared.work.Pending.{Pending}
use Rattle.oc_deeds.specs.declared.log.Log.TheVariants.{Inputs}
use Rattle.oc_deeds.specs.declared.work.Transfer.{Transfer}
use Rattle.oc_deeds.specs.declared.work.Work.TheVariants as works

-- two nodes, at these addresses
abbrev pub two_nodes : Settings
two_nodes = record {
  chain = 1;
  chunk = 4096;
  keys = None;
  retired = false ∷ false ∷ [];
  addresses = Some (codes "a:1") ∷ Some (codes "b:2") ∷ [];
  listens = Some (codes "a:1") ∷ Some (codes "b:2") ∷ [];
  areas = 0 ∷ 0 ∷ [];
  names = None ∷ None ∷ [];
  measures = [];
  rules = [];
}

-- what is told of the program
abbrev pub first_about : AboutView
first_about = record { version = codes "1.0.0"; started = 1796102400; refused = false }

-- node 1 of them
abbrev example : Setting
example = record {
  me = 1;
  log = Inputs;
}

-- node 1, new, with these messages to send
abbrev started : List Message → Running
started outbox = record { node = new_node (record { nodes = 2; chain = 1; chunk = 4096; areas = 0 ∷ 0 ∷ [] }) 1; outbox = outbox; works = []; dials = []; config = two_nodes; tally = first_tally 2; about = first_about }

-- a request of a connection has come
abbrev came : ℕ → LinkEvent
came c = events.Request (record { connection = c; number = 1; permitted = false; coming = Open })

-- a request with an input, which is to be answered
abbrev pending : ℕ → ℕ → Operation → Pending
pending c count operation = record { connection = c; count = count; asked = record { operation = operation; hint = Plain; selection = Whole }; last = false; told = true; waited = false }

-- a response
abbrev response : List ℕ → Option GroupRange → Persistence → Response
response text content connection = record { text = text; content = content; connection = connection }

-- a deed that publishes these bytes after those of the group
abbrev publishes : List ℕ → Deed
publishes bytes = Accepts (inputs.Publish (codes "/a") bytes)

-- A publish of three bytes comes on connection 7, is taken and answered.

abbrev publish : List Deed
publish = Sees (came 7) 0 (codes "POST") ∷ publishes (codes "abc") ∷ Replies (pending 7 43 (asks.Publish (codes "/a") None)) (response (codes "200") None Close) 5 ∷ []

abbrev published : Running
published = after_all publish (started [])

-- Three of six bytes that were promised of a group are there: they are given with the head, and the other three once they were published.

abbrev six_bytes : GroupRange
six_bytes = record { start = 0; count = 6; chunked = false }

abbrev head_deed : Deed
head_deed = Replies (pending 8 40 (asks.Client (codes "/a") 0 0 Once)) (response (codes "200:") (Some six_bytes) Keep) 5

-- the transfer after the first three bytes
abbrev left : Transfer
left = record { connection = 8; content = record { group = codes "/a"; at = 3; end = 6; chunked = false }; keeps = true; told = true; since = 5 }

abbrev content : List Deed
content = head_deed ∷ publishes (codes "def") ∷ Gives left 9 ∷ []

-- A request of 30 bytes is refused on a connection that is kept, of which 70 bytes have come, and the next request on it is answered.

abbrev no_such_path : Refusal
no_such_path = record { why = Path; asker = Client; kept = Some 30 }

abbrev kept : List Deed
kept = Refuses 9 70 no_such_path ∷ Replies (pending 9 40 (asks.Client (codes "/a") 0 0 Once)) (response (codes "200") None Keep) 5 ∷ []

-- A message to node 2 is dialled, and its reply comes.

abbrev look : Message
look = record { from = 1; to = 2; body = bodies.Look }

abbrev dial : List Deed
dial = Dials 0 look 3 ∷ []

abbrev reply : LinkEvent
reply = events.Reply 3 Ended

-- the effects of these runs
pub record AreRuns : Type 0 where
  pub published_calls : calls_of example publish (started [])
      ≡ acts.Next (came 7) (codes "POST") ∷ acts.Take 7 43 ∷ acts.Give 7 (codes "200") ∷ acts.Finish 7 (record { keeps = false; watched = true }) ∷ []
  pub published_lines : lines example publish ≡ input_line 1 (inputs.Publish (codes "/a") (codes "abc")) ++ []
  pub published_bytes : bytes_of (codes "/a") published.node.groups ≡ codes "abc"
  pub published_works : published.works ≡ []
  pub noted_lines : lines example (Notes (codes "ended") ∷ Drops 7 true ∷ Drops 8 false ∷ []) ≡ codes "! ended\n! write\n"
  pub content_calls : calls_of example content published
      ≡ acts.Take 8 40 ∷ acts.Give 8 (codes "200:abc") ∷ acts.Give 8 (codes "def") ∷ acts.Finish 8 (record { keeps = true; watched = true }) ∷ []
  pub content_left : (after_all (head_deed ∷ []) published).works ≡ works.Content left ∷ []
  pub content_given : (after_all content published).works ≡ []
  pub kept_calls : calls_of example kept published
      ≡ acts.Take 9 30 ∷ acts.Give 9 (text_or_none (refusal_text no_such_path)) ∷ acts.Finish 9 (record { keeps = true; watched = false })
      ∷ acts.Take 9 40 ∷ acts.Give 9 (codes "200") ∷ acts.Finish 9 (record { keeps = true; watched = true }) ∷ []
  pub ending_calls : calls_of example (Refuses 9 70 (record no_such_path { kept = None }) ∷ []) published
      ≡ acts.Take 9 70 ∷ acts.Give 9 (text_or_none (refusal_text (record no_such_path { kept = None }))) ∷ acts.Finish 9 (record { keeps = false; watched = false }) ∷ []
  pub dial_calls : calls_of example (dial ++ Sees reply 100 (codes "204") ∷ []) (started (look ∷ []))
      ≡ acts.Dial 3 (codes "b:2") (request_of None (codes "b:2") look) ∷ acts.Next reply (codes "204") ∷ []
  pub dial_nowhere : calls_of example (Rereads (record two_nodes { addresses = Some (codes "a:1") ∷ None ∷ [] }) ∷ dial) (started (look ∷ []))
      ≡ acts.Report (codes "overcast: configuration read again\n") ∷ acts.Dial 3 [] [] ∷ []
  pub dial_under_way : (after_all dial (started (look ∷ []))).dials ≡ dialling 3 (errands.Message 2 false) ∷ []
  pub dial_outbox : (after_all dial (started (look ∷ []))).outbox ≡ []
  pub dial_errand : errand_in reply (after_all dial (started (look ∷ []))).dials ≡ Some (errands.Message 2 false)
  pub dial_over : (after_all (dial ++ Sees reply 100 (codes "204") ∷ []) (started (look ∷ []))).dials ≡ []
