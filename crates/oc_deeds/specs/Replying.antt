-- The bytes that each connection is given over a list of deeds: the replies to its requests.
use Rattle.std.specs.Prelude.{◌≡◌, ◌⊎◌, ℕ, ◌==◌, Bool, true, false, if◌then◌else◌, Option, None, Some, List, [], ◌∷◌, ◌++◌, filter}
use Rattle.oc_base.specs.declared.group.Group.{Group}
use Rattle.oc_link.specs.Stands.{standing_of}
use Rattle.oc_link.specs.declared.call.Call.{Call}
use Rattle.oc_link.specs.declared.phase.Phase.{Phase}
use Rattle.oc_link.specs.declared.phase.Phase.TheVariants.{Awaiting, Answering, Gone}
use Rattle.oc_model.specs.declared.answer.Answer.{Answer}
use Rattle.oc_routes.specs.Contents.{IsThere, owed}
use Rattle.oc_routes.specs.Routes.{response_for}
use Rattle.oc_routes.specs.declared.content.UnderWay.{UnderWay}
use Rattle.oc_routes.specs.declared.hint.Asked.{Asked}
use Rattle.oc_routes.specs.declared.hint.Hint.{Hint}
use Rattle.oc_routes.specs.Refusals.{refusal_text}
use Rattle.oc_routes.specs.declared.connections.TheConstants.{CONTINUE}
use Rattle.oc_routes.specs.declared.response.Response.{Response}
use Rattle.oc_routes.specs.declared.routes.Operation.{Operation}
use Rattle.oc_select.specs.declared.selection.Selection.{Selection}
use Rattle.oc_deeds.specs.Asks.{holding_for}
use Rattle.oc_deeds.specs.Deeds.{Deed, Permits, Waits, Replies, Refuses, Gives, LaysAside, Drops, Running, Setting, after, calls, content_in}
use Rattle.oc_deeds.specs.Works.{connection_of}
use Rattle.oc_deeds.specs.declared.work.Pending.{Pending}
use Rattle.oc_deeds.specs.declared.work.Transfer.{Transfer}
use Rattle.oc_deeds.specs.declared.work.Waiting.{Waiting}
use Rattle.oc_deeds.specs.declared.work.Work.{Work}
use Rattle.oc_deeds.specs.declared.work.Work.TheVariants as works

-- The deeds that may be done after these calls

-- the state of a connection
abbrev pub phase_on : ℕ → List Call → Phase
phase_on c made = (standing_of c made).phase

-- the works on a connection
abbrev pub works_on : ℕ → List Work → List Work
works_on c ws = filter (λ w. connection_of w == c) ws

-- a request is answered that has come, or that has waited
abbrev pub MayAnswer : Bool → ℕ → List Call → List Work → Type 0
MayAnswer false c made ws = phase_on c made ≡ Awaiting
MayAnswer true c made ws = (phase_on c made ≡ Answering) × (w : Waiting) × (works_on c ws ≡ works.Waits w ∷ [])

-- a content that is given as chunks is there
abbrev pub IsGivable : Option UnderWay → List Group → Type 0
IsGivable None groups = Unit {0}
IsGivable (Some u) groups = u.chunked ≡ true → IsThere u groups

-- a content that is under way, with nothing else on its connection
pub record HasContent (p : Transfer) (made : List Call) (ws : List Work) : Type 0 where
  pub phase : phase_on p.connection made ≡ Answering
  pub works : (works_on p.connection ws ≡ works.Content p ∷ []) ⊎ (works_on p.connection ws ≡ works.Aside p ∷ [])

-- A connection is given something where its request has come, or as its content goes on, and dropped where it is gone.
abbrev pub MayDo : Deed → List Call → Running → Type 0
MayDo (Permits c) made a = phase_on c made ≡ Awaiting
MayDo (Waits w) made a = phase_on w.connection made ≡ Awaiting
MayDo (Replies r response now) made a = MayAnswer r.waited r.connection made a.works × IsGivable (content_in r.asked.operation response.content) a.node.groups
MayDo (Refuses c count refusal) made a = phase_on c made ≡ Awaiting
MayDo (Gives p now) made a = HasContent p made a.works
MayDo (LaysAside p) made a = HasContent p made a.works
MayDo (Drops c told) made a = phase_on c made ≡ Gone
MayDo d made a = Unit {0}

-- each deed may be done after those before it
abbrev pub IsOrdered : Setting → List Call → List Deed → Running → Type 0
IsOrdered s made [] a = Unit {0}
IsOrdered s made (d ∷ ds) a = MayDo d made a × IsOrdered s (made ++ calls s d a) ds (after d a)

-- The replies to the requests of a connection, whole: of a content the bytes that the group has in the end

abbrev pub text_or_none : Option (List ℕ) → List ℕ
text_or_none None = []
text_or_none (Some text) = text

abbrev pub whole_reply : Pending → Response → List Group → List ℕ
whole_reply r response groups = response.text ++ owed (content_in r.asked.operation response.content) groups

-- the replies of one deed
abbrev pub replied : ℕ → Deed → List Group → List ℕ
replied c (Permits d) groups = if d == c then CONTINUE.now else []
replied c (Replies r response now) groups = if r.connection == c then whole_reply r response groups else []
replied c (Refuses d count refusal) groups = if d == c then text_or_none (refusal_text refusal) else []
replied c d groups = []

-- the replies of one deed after another
abbrev pub replied_all : ℕ → List Deed → List Group → List ℕ
replied_all c [] groups = []
replied_all c (d ∷ ds) groups = replied c d groups ++ replied_all c ds groups

-- Replies to clients

-- an operation with this hint, of which this is selected
abbrev pub asked_of : Operation → Hint → Selection → Asked
asked_of operation hint chosen = record { operation = operation; hint = hint; selection = chosen }

-- the content that a client is given by a node with these groups, for this answer of its step
abbrev pub client_content : Asked → Bool → Answer → List Group → List (Option (List ℕ)) → Option UnderWay
client_content asked last answer groups addresses =
    content_in asked.operation (response_for asked last answer None (holding_for asked.operation groups) addresses None []).content
