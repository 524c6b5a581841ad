-- Deeds that answer a request, or let it wait.
use Rattle.std.proofs.Common.{◌≡◌, ℕ, Bool, true, false, Option, List, [], ◌∷◌, cond, is_some, ap, sym, ◌∙◌}
use Rattle.oc_base.specs.Groups.{shelf}
use Rattle.oc_base.specs.declared.shelf.Shelf.{Shelf}
use Rattle.oc_model.specs.Node.{Node}
use Rattle.oc_routes.specs.Conditions.{unmet}
use Rattle.oc_routes.specs.declared.verdict.Request.{Request}
use Rattle.oc_routes.specs.declared.verdict.Refusal.{Refusal}
use Rattle.oc_routes.specs.Selections.{settled}
use Rattle.oc_routes.specs.declared.holding.Holding.{Holding}
use Rattle.oc_deeds.specs.Asks.{answers_or_waits, has_to_wait, holding_in, refuses_or, responds, settled_at, takes_on, waiting}
use Rattle.oc_deeds.specs.Deeds.{Running, Setting, Waits}
use Rattle.oc_deeds.specs.Hurries.{hurries_unless, request_hurries}
use Rattle.oc_deeds.specs.Parts.{nothing, one, ◌>>◌}
use Rattle.oc_deeds.specs.Works.{pending}

-- the part by the refusal of a request for its condition, if it is refused
pub condition_part : (c now : ℕ) (request : Request) (why : Option Refusal) (s : Setting) (a : Running) → unmet request a.node.control.me (shelf a.node.groups) ≡ why
    → takes_on c request now s a ≡ refuses_or why c request now s a
condition_part c now request why s a is = ap (λ (o : Option Refusal). refuses_or o c request now s a) is

-- the refusal as it was found of this node
pub condition_told : (request : Request) (why found : Option Refusal) (me : ℕ) (lines : List Shelf) (n : Node) → found ≡ unmet request me lines → me ≡ n.control.me → lines ≡ shelf n.groups → found ≡ why
    → unmet request n.control.me (shelf n.groups) ≡ why
condition_told request why found me lines n is same held told =
    sym (is ∙ ap (λ (x : ℕ). unmet request x lines) same ∙ ap (λ (ls : List Shelf). unmet request n.control.me ls) held) ∙ told

-- the haste that a refusal makes for the next tick
pub condition_hurries : (request : Request) (why : Option Refusal) (n : Node) → unmet request n.control.me (shelf n.groups) ≡ why
    → request_hurries request n ≡ hurries_unless why request n
condition_hurries request why n is = ap (λ (o : Option Refusal). hurries_unless o request n) is

-- the request as it was settled by this node
pub settled_here : (request found : Request) (h : Holding) (lines : List Shelf) (n : Node) → found ≡ settled request h → h ≡ holding_in request.asked.operation lines → lines ≡ shelf n.groups → found ≡ settled_at n.groups request
settled_here request found h lines n is held same = is ∙ ap (λ (x : Holding). settled request x) (held ∙ ap (λ (ls : List Shelf). holding_in request.asked.operation ls) same)

-- a request that is to wait
pub waits_part : (c now : ℕ) (request : Request) (s : Setting) (a : Running) → has_to_wait request a.node ≡ true
    → answers_or_waits c request now s a ≡ (nothing >> one (Waits (waiting c request now))) s a
waits_part c now request s a is =
    ap (λ (b : Bool). cond b (Waits (waiting c request now) ∷ []) (responds (pending c request (is_some request.input) false) request.input now s a)) is

-- the part that answers a request
pub answers_part : (c now : ℕ) (request : Request) (s : Setting) (a : Running) → has_to_wait request a.node ≡ false
    → answers_or_waits c request now s a ≡ (nothing >> responds (pending c request (is_some request.input) false) request.input now) s a
answers_part c now request s a is =
    ap (λ (b : Bool). cond b (Waits (waiting c request now) ∷ []) (responds (pending c request (is_some request.input) false) request.input now s a)) is
