-- Worked examples of turns and their parts.
use Rattle.std.specs.Prelude.{◌≡◌, ℕ, Bool, true, false, None, Some, List, [], ◌∷◌, codes, take}
use Rattle.oc_base.specs.declared.shelf.Shelf.{Shelf}
use Rattle.oc_link.specs.declared.event.LinkEvent.TheVariants as events
use Rattle.oc_config.specs.Settings.{Settings}
use Rattle.oc_config.specs.declared.config_key.ConfigKey.TheVariants.{Area, Chain, Nodes}
use Rattle.oc_link.specs.declared.event.Loss.TheVariants as losses
use Rattle.oc_link.specs.declared.look.Look.TheVariants as looks
use Rattle.oc_model.specs.Node.{new_node}
use Rattle.oc_model.specs.declared.answer.Answer.TheVariants as answers
use Rattle.oc_model.specs.declared.input.Input.TheVariants as inputs
use Rattle.oc_model.specs.declared.message.Body.TheVariants as bodies
use Rattle.oc_model.specs.declared.message.Message.{Message}
use Rattle.oc_routes.specs.Tallies.{first_tally}
use Rattle.oc_routes.specs.declared.hint.Hint.TheVariants.{Of, Plain}
use Rattle.oc_routes.specs.declared.verdict.Request.{Request}
use Rattle.oc_routes.specs.declared.verdict.Verdict.TheVariants as verdicts
use Rattle.oc_routes.specs.declared.asker.Asker.TheVariants.{Client}
use Rattle.oc_routes.specs.declared.manner.Manner.TheVariants.{Follow, Once}
use Rattle.oc_routes.specs.declared.refused.Refused.TheVariants.{At}
use Rattle.oc_routes.specs.declared.response.Response.{Response}
use Rattle.oc_routes.specs.declared.routes.Operation.TheVariants as asks
use Rattle.oc_routes.specs.Selections.{with_selection}
use Rattle.oc_select.specs.Values.{no_selectors}
use Rattle.oc_select.specs.declared.selection.Selection.{Selection}
use Rattle.oc_select.specs.declared.selection.Selection.TheVariants as selections
use Rattle.oc_select.specs.declared.selectors.Selectors.{Selectors}
use Rattle.oc_deeds.specs.Asks.{answers_or_waits, obeys, response_now, settled_at, waiting}
use Rattle.oc_deeds.specs.Choices.{due_index, free_number, next_to_dial, wait_for}
use Rattle.oc_deeds.specs.Deeds.{Accepts, BreaksOff, Drops, Gives, Keeps, LaysAside, Looks, Permits, Reads, Refuses, Replies, Rereads, Running, Says, Sees, Setting, Takes, Tells, Waits, after_all}
use Rattle.oc_deeds.specs.Dials.{dialling}
use Rattle.oc_deeds.specs.Examples.{first_about, two_nodes}
use Rattle.oc_deeds.specs.Pace.{first_pace}
use Rattle.oc_deeds.specs.Rereading.{MeansLook, goes_by, looks_again}
use Rattle.oc_deeds.specs.Rooms.{takes_loss, takes_room}
use Rattle.oc_deeds.specs.Turns.{Observation, terms_in, ticks, turn}
use Rattle.oc_deeds.specs.Works.{pending}
use Rattle.oc_deeds.specs.declared.came.Came.TheVariants as comes
use Rattle.oc_deeds.specs.declared.dials.Errand.TheVariants as errands
use Rattle.oc_deeds.specs.declared.pace.Pace.{Pace}
use Rattle.oc_deeds.specs.declared.log.Log.TheVariants.{Inputs, Record}
use Rattle.oc_deeds.specs.declared.reread.Reread.TheVariants as rereads
use Rattle.oc_deeds.specs.declared.unfit.Unfit.TheVariants.{Restart, Stranger}
use Rattle.oc_deeds.specs.declared.work.Pending.{Pending}
use Rattle.oc_deeds.specs.declared.work.Transfer.{Transfer}
use Rattle.oc_deeds.specs.declared.work.Work.{Work}
use Rattle.oc_deeds.specs.declared.work.Work.TheVariants as works

-- node 1 of 2
abbrev example : Setting
example = record {
  me = 1;
  log = Inputs;
}

-- node 1, new, with this under way
abbrev started : List Work → Running
started ws = record { node = new_node (record { nodes = 2; chain = 1; chunk = 4096; areas = 0 ∷ 0 ∷ [] }) 1; outbox = []; works = ws; dials = []; config = two_nodes; tally = first_tally 2; about = first_about }

-- node 1 with a group of three bytes, and with this under way
abbrev held : List Work → Running
held ws = after_all (Accepts (inputs.Publish (codes "/a") (codes "abc")) ∷ []) (started ws)

-- a content of connection 8 that goes up to byte 6, from this byte on
abbrev place : ℕ → Transfer
place at = record { connection = 8; content = record { group = codes "/a"; at = at; end = 6; chunked = false }; keeps = true; told = true; since = 5 }

abbrev shelf_line : ℕ → List Shelf
shelf_line count = record { group = codes "/a"; held = count; sealed = false } ∷ []

-- messages to node 2
abbrev look : Message
look = record { from = 1; to = 2; body = bodies.Look }

abbrev fetch : Message
fetch = record { from = 1; to = 2; body = bodies.Fetch [] }

-- the news of a quiet turn
abbrev quiet : Observation
quiet = record { before = 0; event = events.Quiet; bytes = []; came = comes.Nothing; now = 5; median = 0; started = 5; seconds = 7; look = looks.Nothing; reread = rereads.Nothing }

-- a request of a client that follows the group and has all of its bytes
abbrev follows : Request
follows = record {
  count = 40;
  asked = record { operation = asks.Client (codes "/a") 0 3 Follow; hint = Plain; selection = selections.Whole };
  line = record { is_get = true; has_start = true };
  selectors = no_selectors;
  input = Some (inputs.Client 0 3 (codes "/a"));
  last = false;
}

-- a request for the group with these fields, and its answer with this selection
abbrev gets : Selectors → Request
gets fields = record {
  count = 40;
  asked = record { operation = asks.Client (codes "/a") 0 0 Once; hint = Plain; selection = selections.Whole };
  line = record { is_get = true; has_start = false };
  selectors = fields;
  input = Some (inputs.Client 0 0 (codes "/a"));
  last = false;
}

abbrev got : Selection → Bool → Pending
got chosen told = record {
  connection = 7;
  count = 40;
  asked = record { operation = asks.Client (codes "/a") 0 0 Once; hint = Plain; selection = chosen };
  last = false;
  told = told;
  waited = false;
}

-- the client asks for the second of the group's bytes
abbrev second_byte : Selectors
second_byte = record no_selectors { range = codes "bytes=1-1" ∷ [] }

-- a client that knows that the group has six bytes asks for the last two of them
abbrev last_two : Request
last_two = record (gets (record no_selectors { range = codes "bytes=4-5" ∷ [] })) { asked = record { operation = asks.Client (codes "/a") 0 0 Once; hint = Of 6; selection = selections.Whole } }

-- a publish after another length than the group has
abbrev publishes_at : ℕ → Request
publishes_at length = record (gets no_selectors) {
  asked = record { operation = asks.Publish (codes "/a") (Some length); hint = Plain; selection = selections.Whole };
  input = Some (inputs.Publish (codes "/a") (codes "def"));
}

-- the answer of a node that holds the three bytes
abbrev answered : Pending → Response
answered r = response_now r answers.Ok None example (held [])

abbrev served : Pending → Response
served r = response_now r (answers.Serve 3) None example (held [])

-- a tick was taken at 0
abbrev ticked_once : Pace
ticked_once = record { last = Some 0; interval = 100; most = 1000; whole = false; second = None }

-- node 1 as it writes a record; its tick at 0 was of second 7
abbrev recording : Setting
recording = record example { log = Record }

abbrev ticked_at_seven : Pace
ticked_at_seven = record { last = Some 0; interval = 100; most = 1000; whole = true; second = Some 7 }

-- a configuration with a measure of node 1 and one of node 2, or with another chain, or without node 1
abbrev measured : Settings
measured = record two_nodes { measures = record { from = 1; peer = 2; rate = 9; hops = 3 } ∷ record { from = 2; peer = 1; rate = 8; hops = 3 } ∷ [] }

abbrev chained : Settings
chained = record two_nodes { chain = 2 }

abbrev elsewhere : Settings
elsewhere = record two_nodes { addresses = None ∷ Some (codes "b:2") ∷ [] }

-- a configuration with one more node, and other areas
abbrev wider : Settings
wider = record two_nodes {
  retired = false ∷ false ∷ false ∷ [];
  addresses = Some (codes "a:1") ∷ Some (codes "b:2") ∷ Some (codes "c:3") ∷ [];
  listens = Some (codes "a:1") ∷ Some (codes "b:2") ∷ Some (codes "c:3") ∷ [];
  areas = 4 ∷ 0 ∷ 9 ∷ [];
  names = None ∷ None ∷ None ∷ [];
}

-- node 1, loaded for four nodes
abbrev roomy : Running
roomy = record (started []) { node = new_node (record { nodes = 4; chain = 1; chunk = 4096; areas = 0 ∷ 0 ∷ 0 ∷ 0 ∷ [] }) 1 }

pub record AreTurns : Type 0 where
  -- a content is given the bytes that are there, and is laid aside until there are more
  pub gives : takes_room 8 9 example (held (works.Content (place 0) ∷ [])) ≡ Gives (place 0) 9 ∷ []
  pub lays_aside : takes_room 8 9 example (held (works.Content (place 3) ∷ [])) ≡ LaysAside (place 3) ∷ []
  pub breaks : takes_room 8 30005 example (held (works.Content (place 3) ∷ [])) ≡ BreaksOff 8 ∷ []
  pub no_content : takes_room 7 9 example (held (works.Content (place 3) ∷ [])) ≡ []
  -- a connection that failed is told of, and one that gave way is not
  pub failed : takes_loss 8 losses.Failed example (started (works.Content (place 0) ∷ [])) ≡ Drops 8 true ∷ []
  pub gave_way : takes_loss 8 losses.GaveWay example (started (works.Content (place 0) ∷ [])) ≡ Drops 8 false ∷ []
  -- a content laid aside is due when its group has grown, and after its time
  pub not_due : due_index (works.Aside (place 3) ∷ []) (shelf_line 3) 100 ≡ None
  pub grown : due_index (works.Aside (place 3) ∷ []) (shelf_line 4) 100 ≡ Some 0
  pub late : due_index (works.Content (place 0) ∷ works.Aside (place 3) ∷ []) (shelf_line 3) 30005 ≡ Some 1
  -- the waits of a turn
  pub first_wait : wait_for (first_pace false 1000) [] 5 ≡ 0
  pub tick_wait : wait_for ticked_once (works.Aside (place 3) ∷ []) 10 ≡ 90
  pub work_wait : wait_for ticked_once (works.Aside (place 3) ∷ []) 29990 ≡ 0
  pub second_wait : wait_for ticked_at_seven [] 130 ≡ 100
  pub interval_wait : wait_for ticked_at_seven [] 10 ≡ 100
  -- a message may be dialled to one receiver, and besides it one that asks for content
  pub oldest : next_to_dial (look ∷ fetch ∷ []) [] ≡ Some 0
  pub besides : next_to_dial (look ∷ fetch ∷ []) (dialling 0 (errands.Message 2 false) ∷ []) ≡ Some 1
  pub neither : next_to_dial (look ∷ fetch ∷ []) (dialling 0 (errands.Message 2 false) ∷ dialling 1 (errands.Message 2 true) ∷ []) ≡ None
  -- numbers of dials
  pub least : free_number (dialling 0 (errands.Probe 2 0) ∷ dialling 2 (errands.Probe 2 0) ∷ []) ≡ 1
  pub next : free_number (dialling 0 (errands.Probe 2 0) ∷ dialling 1 (errands.Probe 2 0) ∷ []) ≡ 2
  -- a permission
  pub permits : obeys 7 30 verdicts.Permit 9 example (started []) ≡ Permits 7 ∷ []
  -- a client that follows a group and has all of its bytes waits
  pub waits : obeys 7 40 (verdicts.Ask follows) 9 example (held []) ≡ Waits (waiting 7 follows 9) ∷ []
  -- a client that has the content is told so without its input, and so is one that wants another
  pub known : answers_or_waits 7 (with_selection (gets no_selectors) selections.NotModified) 9 example (held []) ≡ Replies (got selections.NotModified false) (answered (got selections.NotModified false)) 9 ∷ []
  pub known_text : take 12 (answered (got selections.NotModified false)).text ≡ codes "HTTP/1.1 304"
  pub other : answers_or_waits 7 (with_selection (gets no_selectors) selections.PreconditionFailed) 9 example (held []) ≡ Replies (got selections.PreconditionFailed false) (answered (got selections.PreconditionFailed false)) 9 ∷ []
  pub other_text : take 12 (answered (got selections.PreconditionFailed false)).text ≡ codes "HTTP/1.1 412"
  -- one that asks for a part is given it by its input
  pub part : obeys 7 40 (verdicts.Ask (gets second_byte)) 9 example (held [])
      ≡ Says [] ∷ Accepts (inputs.Client 0 0 (codes "/a")) ∷ Says [] ∷ Replies (got (selections.Part 1 1) true) (served (got (selections.Part 1 1) true)) 9 ∷ []
  pub part_text : take 12 (served (got (selections.Part 1 1) true)).text ≡ codes "HTTP/1.1 206"
  pub part_content : (served (got (selections.Part 1 1) true)).content ≡ Some (record { start = 1; count = 1; chunked = false })
  -- so is one that asks for bytes that are still to come, of a group whose length it tells
  pub to_come : (settled_at (held []).node.groups last_two).asked.selection ≡ selections.Part 4 2
  pub content_to_come : (served (pending 7 (settled_at (held []).node.groups last_two) true false)).content ≡ Some (record { start = 4; count = 2; chunked = false })
  -- a publish after another length is refused, and its connection is kept
  pub at : obeys 7 40 (verdicts.Ask (publishes_at 5)) 9 example (held []) ≡ Refuses 7 40 (record { why = At 3; asker = Client; kept = Some 40 }) ∷ []
  -- a tick
  pub first_tick : ticks (first_pace false 1000) 5 7 example (started []) ≡ Tells 7 ∷ Says [] ∷ Takes (inputs.Tick 7) ∷ Says [] ∷ []
  pub no_tick : ticks ticked_once 5 7 example (started []) ≡ []
  -- a tick in a record: its line comes first, and the clock has to pass the second of the last one
  pub first_recorded : ticks (first_pace true 1000) 5 7 recording (started []) ≡ Tells 7 ∷ Says (codes "tick 1 7\n") ∷ Takes (inputs.Tick 7) ∷ Says [] ∷ []
  pub same_second : ticks ticked_at_seven 130 7 recording (started []) ≡ Tells 7 ∷ []
  pub next_second : ticks ticked_at_seven 130 8 recording (started []) ≡ Tells 8 ∷ Says (codes "tick 1 8\n") ∷ Takes (inputs.Tick 8) ∷ Says [] ∷ []
  -- a first turn in which nothing happens
  pub quiet_turn : turn (first_pace false 1000) None quiet example (started []) ≡ Reads 0 ∷ Sees events.Quiet 0 [] ∷ Reads 5 ∷ Tells 7 ∷ Says [] ∷ Takes (inputs.Tick 7) ∷ Says [] ∷ Looks looks.Nothing ∷ []
  -- a configuration that was read again is gone by, with the node's own measures that the old one had not
  pub taken_over : looks_again (looks.Text (codes "c")) (rereads.Config measured) example (started [])
      ≡ Looks (looks.Text (codes "c")) ∷ Rereads measured ∷ Says [] ∷ Takes (inputs.Measured 2 9 3) ∷ []
  pub taken_before : looks_again (looks.Text (codes "c")) (rereads.Config measured) example (after_all (Rereads measured ∷ []) (started []))
      ≡ Looks (looks.Text (codes "c")) ∷ Rereads measured ∷ []
  -- so is one with a node more and other areas, by which the node goes from then on
  pub grown_network : goes_by (rereads.Config wider) example roomy ≡ Rereads wider ∷ []
  pub other_areas : (after_all (Rereads wider ∷ []) roomy).node.control.areas ≡ 4 ∷ 0 ∷ 9 ∷ 0 ∷ []
  pub more_told : (terms_in example (after_all (Rereads wider ∷ []) roomy)).nodes ≡ 3
  -- but not by a node that writes a record
  pub one_header : goes_by (rereads.Config wider) recording roomy ≡ Keeps (Restart Nodes) ∷ []
  pub one_area : goes_by (rereads.Config (record two_nodes { areas = 4 ∷ 0 ∷ [] })) recording (started []) ≡ Keeps (Restart Area) ∷ []
  -- or it is not
  pub restarts : looks_again (looks.Text (codes "c")) (rereads.Config chained) example (started []) ≡ Looks (looks.Text (codes "c")) ∷ Keeps (Restart Chain) ∷ []
  pub stranger : looks_again (looks.Text (codes "c")) (rereads.Config elsewhere) example (started []) ≡ Looks (looks.Text (codes "c")) ∷ Keeps Stranger ∷ []
  -- it is told whether the last configuration was refused, as one is that can't be read
  pub refused : (after_all (Keeps Stranger ∷ []) (started [])).about.refused ≡ true
  pub unread : (after_all (Looks looks.Failed ∷ []) (started [])).about.refused ≡ true
  pub still : (after_all (Keeps Stranger ∷ Looks looks.Nothing ∷ []) (started [])).about.refused ≡ true
  pub cleared : (after_all (Keeps Stranger ∷ Rereads measured ∷ []) (started [])).about.refused ≡ false
  -- the bytes of the last reading are passed over
  pub again : MeansLook (Some (codes "c")) (looks.Text (codes "c")) rereads.Nothing
