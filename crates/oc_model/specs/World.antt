use Rattle.std.specs.Prelude.{ℕ, zero, suc, Bool, true, false, ◌==◌, if◌then◌else◌, Option, Some, None, List, [], ◌∷◌, ◌++◌, map, filter, slice_get}
use Rattle.std.specs.List.{range_with_len}
use Rattle.oc_model.specs.declared.answer.Answer.{Answer}
use Rattle.oc_model.specs.declared.answer.Answer.TheVariants as answers
use Rattle.oc_model.specs.declared.event.Act.{Act}
use Rattle.oc_model.specs.declared.event.Act.TheVariants as acts
use Rattle.oc_base.specs.declared.group.Group.{Group}
use Rattle.oc_model.specs.declared.input.Input.{Input}
use Rattle.oc_model.specs.declared.input.Input.TheVariants as inputs
use Rattle.oc_model.specs.declared.message.Message.{Message}
use Rattle.oc_model.specs.declared.mode.Mode.{Mode}
use Rattle.oc_base.specs.Groups.{group_or_empty, with_group}
use Rattle.oc_model.specs.Node.{Header, Node, Outcome, new_node}
use Rattle.oc_model.specs.Step.{step}

-- The world: all nodes, all messages that were ever sent, and the source; and the effect of one act.

-- a node, and whether it is up
pub record Process : Type 0 where
  pub node : Node
  pub up : Bool

-- all nodes, all messages that were ever sent, and the content that the source has published
pub record World : Type 0 where
  pub processes : List Process
  pub net : List Message
  pub source : List Group

abbrev pub down : Node → Process
down n = record { node = n; up = false }

-- the process for an id without a node: a new node of that id, which is down
abbrev pub absent : ℕ → Process
absent x = down (new_node (record { nodes = 0; chain = 0; chunk = 0; areas = [] }) x)

-- the process of this id
abbrev pub process_in : List Process → ℕ → Process
process_in [] x = absent x
process_in (p ∷ ps) x = if p.node.control.me == x then p else process_in ps x

abbrev pub process : World → ℕ → Process
process w x = process_in w.processes x

abbrev pub node : World → ℕ → Node
node w x = (process w x).node

-- whether the node of this id is up
abbrev pub is_up : World → ℕ → Bool
is_up w x = (process w x).up

abbrev pub mode_of : World → ℕ → Mode
mode_of w x = (node w x).control.kept.mode

-- the processes with this one in place of the process of the same id
abbrev pub with_process : List Process → Process → List Process
with_process [] q = []
with_process (p ∷ ps) q = if p.node.control.me == q.node.control.me then q ∷ ps else p ∷ with_process ps q

-- the ids of all nodes, in their order
abbrev pub ids : World → List ℕ
ids w = map (λ p. p.node.control.me) w.processes

-- the ids of the nodes that are up
abbrev pub up_ids : World → List ℕ
up_ids w = filter (is_up w) (ids w)

-- the world before its first event: all nodes are down and new, no message was sent, and there is no group
abbrev pub new_world : Header → World
new_world h = record { processes = map (λ x. down (new_node h x)) (range_with_len 1 h.nodes); net = []; source = [] }

-- the message of this number, counted from 1
abbrev pub message_at : List Message → ℕ → Option Message
message_at net zero = None
message_at net (suc k) = slice_get net k

-- the source after an input at node 1: it grows by each publish and takes each seal that was kept
abbrev pub source_after : List Group → Input → Answer → List Group
source_after s (inputs.Publish g bytes) answers.Ok = with_group (record (group_or_empty g s) { bytes = (group_or_empty g s).bytes ++ bytes }) s
source_after s (inputs.Seal g) answers.Ok = with_group (record (group_or_empty g s) { sealed = true }) s
source_after s input answer = s

-- the world after an input to a node that is up
abbrev pub stepped : World → Input → Outcome → World
stepped w input o = record {
  processes = with_process w.processes (record { node = o.node; up = true });
  net = w.net ++ o.sends;
  source = source_after w.source input o.answer;
}

-- an input, and the node to which it goes
pub record Arrival : Type 0 where
  pub at : ℕ
  pub input : Input

abbrev pub delivery : Option Message → Option Arrival
delivery None = None
delivery (Some m) = Some (record { at = m.to; input = inputs.Delivered m })

-- the input of an act; none where no message has that number; a delivery is no input of its own
abbrev pub arrival : World → Act → Option Arrival
arrival w (acts.At x (inputs.Delivered m)) = None
arrival w (acts.At x i) = Some (record { at = x; input = i })
arrival w (acts.Deliver k) = delivery (message_at w.net k)

-- the world after an input, which changes nothing where its node is down
abbrev pub acted : World → Option Arrival → World
acted w None = w
acted w (Some a) = if is_up w a.at then stepped w a.input (step (node w a.at) a.input) else w

-- the world after an act
abbrev pub after_act : World → Act → World
after_act w a = acted w (arrival w a)
