-- What a client selects of the content of a group, by conditions and a range (RFC 9110, sections 13 and 14).
use Rattle.std.specs.Prelude.{ℕ, ◌+◌, ◌<◌, ◌^◌, Bool, true, false, not, ◌&&◌, ◌||◌, nat_lt, if◌then◌else◌, Option, None, is_some, List, codes}
use Rattle.oc_http.specs.Queries.{parts}
use Rattle.oc_http.specs.declared.head.Head.{Head}
use Rattle.oc_http.specs.declared.head.Method.{Method}
use Rattle.oc_http.specs.declared.head.Method.TheVariants as methods
use Rattle.oc_model.specs.declared.answer.Answer.{Answer}
use Rattle.oc_model.specs.declared.answer.Answer.TheVariants as answers
use Rattle.oc_model.specs.declared.input.Input.{Input}
use Rattle.oc_select.specs.Selecting.{selection}
use Rattle.oc_select.specs.Values.{no_selectors}
use Rattle.oc_select.specs.declared.content.Content.{Content}
use Rattle.oc_select.specs.declared.content.Source.TheVariants.{Group}
use Rattle.oc_select.specs.declared.selection.Selection.{Selection}
use Rattle.oc_select.specs.declared.selection.Selection.TheVariants.{Whole, Part, NotModified, PreconditionFailed}
use Rattle.oc_select.specs.declared.selectors.RequestLine.{RequestLine}
use Rattle.oc_select.specs.declared.selectors.Selectors.{Selectors}
use Rattle.oc_routes.specs.Queries.{first_value, has_part}
use Rattle.oc_routes.specs.Shown.{here_answer, shown}
use Rattle.oc_routes.specs.declared.hint.Hint.{Hint}
use Rattle.oc_routes.specs.declared.holding.Holding.{Holding}
use Rattle.oc_routes.specs.declared.manner.Manner.TheVariants.{HeadAlone, Once}
use Rattle.oc_routes.specs.declared.routes.Operation.{Operation}
use Rattle.oc_routes.specs.declared.routes.Operation.TheVariants as asks
use Rattle.oc_routes.specs.declared.verdict.Request.{Request}

-- The fields of a request

abbrev pub is_get : Method → Bool
is_get methods.Get = true
is_get method = false

-- a query with a part that is `start` or begins with `start=`
abbrev pub has_start : List ℕ → Bool
has_start query = has_part (codes "start") (parts query) || is_some (first_value (codes "start=") (parts query))

abbrev pub line_of : Head → RequestLine
line_of head = record { is_get = is_get head.method; has_start = has_start head.query }

-- the fields that count: those of a GET or HEAD of a group that does not follow it
abbrev pub selectors_for : Operation → Selectors → Selectors
selectors_for (asks.Client group area start Once) selectors = selectors
selectors_for (asks.Client group area start HeadAlone) selectors = selectors
selectors_for operation selectors = no_selectors

-- The content of a group

-- the start is past the end of a group that is sealed here; the end itself is not past it
abbrev pub is_past : ℕ → Holding → Bool
is_past start h = h.sealed && nat_lt h.held start

-- the content of a group with this length, whose length is open where it is not sealed
abbrev pub content_of : ℕ → Bool → Content
content_of length sealed = record { length = length; source = Group (not sealed) }

-- the content that a client is shown by the node itself
abbrev pub content_here : Hint → Holding → ℕ → Content
content_here hint h start = content_of (shown hint (here_answer h start) h start).length (shown hint (here_answer h start) h start).sealed

-- an answer that gives content
abbrev pub gives_content : Answer → Bool
gives_content (answers.Serve count) = true
gives_content answer = false

-- the node itself would give content to a client
abbrev pub would_give : Hint → Holding → ℕ → Bool
would_give hint h start = gives_content (shown hint (here_answer h start) h start).answer && not (is_past start h)

-- Selections

-- what a client selects of a group that the node holds so
abbrev pub client_selection : Hint → Holding → ℕ → RequestLine → Selectors → Selection
client_selection hint h start line selectors = if would_give hint h start then selection (content_here hint h start) line selectors else Whole

-- What a request selects at a node that holds its group so; what follows a group, and what is no client's, is given whole.
abbrev pub selection_of : Operation → Hint → Holding → RequestLine → Selectors → Selection
selection_of (asks.Client group area start Once) hint h line selectors = client_selection hint h start line selectors
selection_of (asks.Client group area start HeadAlone) hint h line selectors = client_selection hint h start line selectors
selection_of operation hint h line selectors = Whole

-- a client whose condition answers its request takes no input
abbrev pub input_by : Selection → Option Input → Option Input
input_by NotModified input = None
input_by PreconditionFailed input = None
input_by selection input = input

-- a request with this selection
abbrev pub with_selection : Request → Selection → Request
with_selection request chosen = record request { asked = record request.asked { selection = chosen }; input = input_by chosen request.input }

-- The request as it is answered by a node that holds its group so.
abbrev pub settled : Request → Holding → Request
settled request h = with_selection request (selection_of request.asked.operation request.asked.hint h request.line request.selectors)

-- a part has a byte, and its end has 64 bits
abbrev pub IsSelection : Selection → Type 0
IsSelection (Part start count) = (0 < count) × (start + count < 2 ^ 64)
IsSelection chosen = Unit {0}
