-- What is lawful in a network is lawful in one of more nodes.
use Rattle.std.proofs.Common.{◌≡◌, ℕ, ◌≤◌, Option, Some, None, List, [], ◌∷◌, IfSome, get_or, arith}
use Rattle.std.specs.Prelude.{All}
use Rattle.std.specs.List.{AllByRecursion}
use Rattle.oc_base.specs.declared.cert.Cert.{Cert}
use Rattle.oc_base.specs.declared.cert.Child.{Child}
use Rattle.oc_base.specs.declared.refusal.Refusal.{Refusal}
use Rattle.oc_base.specs.declared.refusal.Refusal.TheVariants as refusals
use Rattle.oc_base.specs.Lawful.{IsNode, IsNodeOrNone, IsCert, AreNodes, AreCerts, AreChildren, IsRefusal}
use Rattle.oc_model.specs.Lawful.{IsBody, IsInput, IsMessage}
use Rattle.oc_model.specs.declared.input.Input.{Input}
use Rattle.oc_model.specs.declared.input.Input.TheVariants as inputs
use Rattle.oc_model.specs.declared.message.Body.{Body}
use Rattle.oc_model.specs.declared.message.Body.TheVariants as bodies
use Rattle.oc_model.specs.declared.message.Message.{Message}
use Rattle.oc_deeds.specs.Lawful.{IsLawfulCame}
use Rattle.oc_deeds.specs.declared.came.Came.{Came}
use Rattle.oc_deeds.specs.declared.came.Came.TheVariants as comes
use Rattle.oc_routes.specs.Asks.{IsLawfulAsk, IsLawfulVerdict}
use Rattle.oc_routes.specs.declared.verdict.Verdict.{Verdict}
use Rattle.oc_routes.specs.declared.verdict.Verdict.TheVariants as verdicts
use Rattle.oc_updown.specs.MeasureLines.{IsMeasure}
use Rattle.oc_updown.specs.declared.measure_lines.Measure.{Measure}

module _ (n m : ℕ) (more : n ≤ m) where
  node_too : (x : ℕ) → IsNode n x → IsNode m x
  node_too x is = (is.0, omega (arith, more, is.1))

  nodes_too : (xs : List ℕ) → AreNodes n xs → AreNodes m xs
  nodes_too [] are = tt
  nodes_too (x ∷ xs) are = (node_too x are.0, nodes_too xs are.1)

  node_or_none_too : (x : Option ℕ) → IsNodeOrNone n x → IsNodeOrNone m x
  node_or_none_too None is = tt
  node_or_none_too (Some x) is = node_too x is

  certs_too : (cs : List Cert) → AreCerts n cs → AreCerts m cs
  certs_too [] are = tt
  certs_too (c ∷ cs) are =
      let first : IsCert n c = are.0 in
      (record { subject = node_too c.subject first.subject; seq = first.seq; parent = node_too c.parent first.parent; number = first.number; clients = first.clients }, certs_too cs are.1)

  children_too : (cs : List Child) → AreChildren n cs → AreChildren m cs
  children_too [] are = tt
  children_too (c ∷ cs) are = (node_too c.id are.0, are.1, are.2, children_too cs are.3)

  refusal_too : (why : Refusal) → IsRefusal n why → IsRefusal m why
  refusal_too (refusals.Chain k) is = node_too k is
  refusal_too why is = tt

  body_too : (b : Body) → IsBody n b → IsBody m b
  body_too bodies.Look is = tt
  body_too (bodies.LookIs in_tree parent rate children) is = (node_or_none_too parent is.0, is.1, children_too children is.2)
  body_too (bodies.Ask seq rank) is = is
  body_too (bodies.Yes seq rank ancestors) is = (is.0, is.1, (nodes_too ancestors is.2.0, is.2.1))
  body_too (bodies.No seq why) is = (is.0, refusal_too why is.1)
  body_too (bodies.CheckIn seq upto rate number clients certs) is = (is.0, is.1, is.2, is.3, is.4, certs_too certs is.5, is.6)
  body_too (bodies.CheckAck seq upto rank ancestors) is = (is.0, is.1, is.2, (nodes_too ancestors is.3.0, is.3.1))
  body_too (bodies.Rejoin seq) is = is
  body_too (bodies.Fetch have) is = is
  body_too (bodies.Chunk group start bytes last) is = is

  pub message_too : (message : Message) → IsMessage n message → IsMessage m message
  message_too message is = record { from = node_too message.from is.from; to = node_too message.to is.to; body = body_too message.body is.body }

  pub input_too : (me : ℕ) (i : Input) → IsInput n me i → IsInput m me i
  input_too me (inputs.Tick t) is = is
  input_too me inputs.CheckNow is = tt
  input_too me (inputs.Relocate p) is = node_too p is
  input_too me (inputs.Unreachable p) is = node_too p is
  input_too me (inputs.Pull p) is = node_too p is
  input_too me (inputs.Measured p rate hops) is = (node_too p is.0, is.1, is.2)
  input_too me (inputs.Publish group bytes) is = is
  input_too me (inputs.Seal group) is = is
  input_too me (inputs.Client area start group) is = is
  input_too me (inputs.Delivered message) is = (message_too message is.0, is.1)

  -- no input, or one
  pub some_input_too : (me : ℕ) (i : Option Input) → IfSome i (IsInput n me) → IfSome i (IsInput m me)
  some_input_too me None is = tt
  some_input_too me (Some i) is = input_too me i is

  pub verdict_too : (me : ℕ) (v : Verdict) → IsLawfulVerdict n me v → IsLawfulVerdict m me v
  verdict_too me (verdicts.Ask request) is =
      let asked : IsLawfulAsk n me request = is.0 in
      (record { asks = asked.asks; input = some_input_too me request.input asked.input; client = asked.client }, is.1)
  verdict_too me v is = tt

  measure_too : (x : Measure) → IsMeasure n x → IsMeasure m x
  measure_too x is = record { from = (is.from.0, omega (arith, more, is.from.1)); peer = (is.peer.0, omega (arith, more, is.peer.1)); other = is.other; rate = is.rate }

  pub measures_too : (xs : List Measure) → All (IsMeasure n) xs → All (IsMeasure m) xs
  measures_too xs all = λ k d few. measure_too (get_or xs k d) (all k d few)

  -- News

  pub came_too : (me : ℕ) (came : Came) → IsLawfulCame n me came → IsLawfulCame m me came
  came_too me (comes.Request c count verdict) is = verdict_too me verdict is
  came_too me (comes.Reply input taken refused) is = some_input_too me input is
  came_too me (comes.Probed peer since fault) is = node_too peer is
  came_too me came is = tt

-- a message that is read among the ids of few nodes is one among more
pub message_among : (few many : ℕ) (message : Message) → IsMessage few message → few ≤ many → IsMessage many message
message_among few many message is more = message_too few many more message is
