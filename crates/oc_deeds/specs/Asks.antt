-- The parts of turns that deal with requests.
use Rattle.std.specs.Prelude.{ℕ, Bool, true, false, if◌then◌else◌, Option, Some, None, is_some, List, [], ◌∷◌, length}
use Rattle.oc_base.specs.Groups.{shelf}
use Rattle.oc_base.specs.declared.group.Group.{Group}
use Rattle.oc_base.specs.declared.shelf.Shelf.{Shelf}
use Rattle.oc_model.specs.declared.answer.Answer.{Answer}
use Rattle.oc_model.specs.declared.answer.Answer.TheVariants as answers
use Rattle.oc_model.specs.declared.input.Input.{Input}
use Rattle.oc_model.specs.declared.message.Message.{Message}
use Rattle.oc_model.specs.Node.{Node}
use Rattle.oc_model.specs.Step.{step}
use Rattle.oc_routes.specs.Conditions.{unmet}
use Rattle.oc_routes.specs.Reports.{report_of}
use Rattle.oc_routes.specs.Routes.{response_for}
use Rattle.oc_routes.specs.Selections.{settled}
use Rattle.oc_routes.specs.Sights.{Sight}
use Rattle.oc_routes.specs.Waits.{holding, is_to_wait}
use Rattle.oc_routes.specs.declared.holding.Holding.{Holding}
use Rattle.oc_routes.specs.declared.verdict.Request.{Request}
use Rattle.oc_routes.specs.declared.verdict.Verdict.{Verdict}
use Rattle.oc_routes.specs.declared.verdict.Verdict.TheVariants as verdicts
use Rattle.oc_routes.specs.declared.verdict.Refusal.{Refusal}
use Rattle.oc_routes.specs.declared.response.Response.{Response}
use Rattle.oc_routes.specs.declared.routes.Operation.{Operation}
use Rattle.oc_routes.specs.declared.routes.Operation.TheVariants as asks
use Rattle.oc_deeds.specs.Deeds.{BreaksOff, Permits, Refuses, Replies, Running, Setting, Waits, back_to, key_in, sender_of}
use Rattle.oc_deeds.specs.Parts.{Part, nothing, one, ◌>>◌}
use Rattle.oc_deeds.specs.Rooms.{goes_on}
use Rattle.oc_deeds.specs.Telling.{accepts_in}
use Rattle.oc_deeds.specs.Works.{client_input, pending}
use Rattle.oc_deeds.specs.declared.due.Due.{Due}
use Rattle.oc_deeds.specs.declared.due.Due.TheVariants as dues
use Rattle.oc_deeds.specs.declared.work.Pending.{Pending}
use Rattle.oc_deeds.specs.declared.work.Waiting.{Waiting}
use Rattle.oc_deeds.specs.declared.work.Work.{Work}
use Rattle.oc_deeds.specs.declared.work.Work.TheVariants as works

-- Answers

-- the holding of the group that was asked for, at a node with this shelf
abbrev pub holding_in : Operation → List Shelf → Holding
holding_in (asks.Client group area start manner) lines = holding group lines
holding_in other lines = record { there = false; held = 0; sealed = false }

abbrev pub holding_for : Operation → List Group → Holding
holding_for asked groups = holding_in asked (shelf groups)

-- what a node tells of itself, where that is asked
abbrev pub sight_in : Setting → Running → Sight
sight_in s a = record {
  node = a.node.control;
  shelf = shelf a.node.groups;
  messages = length a.outbox;
  ids = length a.config.addresses;
  addresses = a.config.addresses;
  names = a.config.names;
  retired = a.config.retired;
  tally = a.tally;
  about = a.about;
}

abbrev pub report_for : Operation → Setting → Running → List ℕ
report_for asked s a = report_of asked (sight_in s a)

-- the answer to a request by the node as it is now
abbrev pub response_now : Pending → Answer → Option Message → Setting → Running → Response
response_now r answer back s a = response_for r.asked r.last answer back (holding_for r.asked.operation a.node.groups) a.config.addresses (key_in a) (report_for r.asked.operation s a)

abbrev pub replies : Pending → ℕ → Answer → Option Message → Part
replies r now answer back s a = Replies r (response_now r answer back s a) now ∷ []

-- the part that takes the input of a request and answers by its step; without an input it answers at once
abbrev pub responds : Pending → Option Input → ℕ → Part
responds r None now s a = replies r now answers.Ok None s a
responds r (Some i) now s a = (accepts_in i >> replies r now (step a.node i).answer (back_to (sender_of i) (step a.node i).sends)) s a

-- the answer that a request with this input would have now
abbrev pub answer_now : Option Input → Node → Answer
answer_now None n = answers.Ok
answer_now (Some i) n = (step n i).answer

-- a request waits, without its input
abbrev pub waiting : ℕ → Request → ℕ → Waiting
waiting c request now = record { connection = c; request = record request { input = None }; since = now }

-- whether a request is to wait: one of a client that follows a group and has all of its bytes
abbrev pub has_to_wait : Request → Node → Bool
has_to_wait request n = is_to_wait request.asked.operation request.asked.hint (answer_now request.input n) (holding_for request.asked.operation n.groups)

-- a whole request is answered, or waits
abbrev pub answers_or_waits : ℕ → Request → ℕ → Part
answers_or_waits c request now s a =
    if has_to_wait request a.node then Waits (waiting c request now) ∷ []
    else responds (pending c request (is_some request.input) false) request.input now s a

-- a request as the node answers it that holds these groups: with what it selects of its group
abbrev pub settled_at : List Group → Request → Request
settled_at groups request = settled request (holding_for request.asked.operation groups)

-- a request is answered by what it selects of its group as the node holds it now; one that its conditions answer takes no input
abbrev pub selects : ℕ → Request → ℕ → Part
selects c request now s a = answers_or_waits c (settled_at a.node.groups request) now s a

-- a request that has another length for its group is refused, and its input is not taken
abbrev pub refuses_or : Option Refusal → ℕ → Request → ℕ → Part
refuses_or (Some refusal) c request now = one (Refuses c request.count refusal)
refuses_or None c request now = selects c request now

abbrev pub takes_on : ℕ → Request → ℕ → Part
takes_on c request now s a = refuses_or (unmet request a.node.control.me (shelf a.node.groups)) c request now s a

-- the part for a verdict on this many bytes of a request
abbrev pub obeys : ℕ → ℕ → Verdict → ℕ → Part
obeys c count verdicts.Wait now = nothing
obeys c count verdicts.Leave now = one (BreaksOff c)
obeys c count verdicts.Permit now = one (Permits c)
obeys c count (verdicts.Refuse refusal) now = one (Refuses c count refusal)
obeys c count (verdicts.Ask request) now = takes_on c request now

-- Works that are due

-- the next step of some work
abbrev pub due_of : Option Work → Due
due_of None = dues.Nothing
due_of (Some (works.Content p)) = dues.Nothing
due_of (Some (works.Aside p)) = dues.Aside p
due_of (Some (works.Waits w)) = dues.Waits (pending w.connection w.request (is_some (client_input w.request.asked)) true)

-- a client that waits is answered
abbrev pub wakes : Pending → ℕ → Part
wakes r now = responds r (client_input r.asked) now

-- a content goes on, and a client that waits is answered
abbrev pub taken_up : Due → ℕ → Part
taken_up dues.Nothing now = nothing
taken_up (dues.Aside p) now = goes_on p now
taken_up (dues.Waits r) now = wakes r now

-- some work that is due is taken up
abbrev pub takes_up : Option Work → ℕ → Part
takes_up work now = taken_up (due_of work) now
