-- The works by connection.
use Rattle.std.specs.Prelude.{ℕ, ◌==◌, Bool, Option, None, Some, List, position}
use Rattle.oc_model.specs.declared.input.Input.{Input}
use Rattle.oc_model.specs.declared.input.Input.TheVariants as inputs
use Rattle.oc_routes.specs.Elements.{element_at, without_at}
use Rattle.oc_routes.specs.Verdicts.{input_for}
use Rattle.oc_routes.specs.Selections.{input_by}
use Rattle.oc_routes.specs.declared.hint.Asked.{Asked}
use Rattle.oc_routes.specs.declared.verdict.Request.{Request}
use Rattle.oc_routes.specs.declared.routes.Operation.{Operation}
use Rattle.oc_routes.specs.declared.routes.Operation.TheVariants as asks
use Rattle.oc_deeds.specs.declared.work.Pending.{Pending}
use Rattle.oc_deeds.specs.declared.work.Work.{Work}
use Rattle.oc_deeds.specs.declared.work.Work.TheVariants as works

-- the connection on which a work is under way
abbrev pub connection_of : Work → ℕ
connection_of (works.Content p) = p.connection
connection_of (works.Aside p) = p.connection
connection_of (works.Waits w) = w.connection

-- the place of the work on the connection c
abbrev pub index_on : ℕ → List Work → Option ℕ
index_on c ws = position (λ w. connection_of w == c) ws

-- the work on the connection c
abbrev pub work_on : ℕ → List Work → Option Work
work_on c ws = element_at ws (index_on c ws)

-- the works without the one on the connection c
abbrev pub without_work : ℕ → List Work → List Work
without_work c ws = without_at ws (index_on c ws)

-- Requests that wait

-- the input of a client that asks for a group
abbrev pub input_asked : Operation → Option Input
input_asked (asks.Client group area start manner) = Some (inputs.Client area start group)
input_asked other = None

-- the same, where neither the node is to answer itself nor a condition answers
abbrev pub client_input : Asked → Option Input
client_input asked = input_by asked.selection (input_for asked.hint (input_asked asked.operation))

-- a request that is to be answered on a connection: whether a line tells if its reply cannot be sent, and whether it was taken before
abbrev pub pending : ℕ → Request → Bool → Bool → Pending
pending c request told waited = record {
  connection = c;
  count = request.count;
  asked = request.asked;
  last = request.last;
  told = told;
  waited = waited;
}
