use Rattle.std.specs.Prelude.{ℕ, ◌-◌, Bool, ◌||◌, Option, Some, None, List, [], ◌++◌, length, take, drop, map}
use Rattle.oc_base.specs.declared.shelf.Shelf.{Shelf}
use Rattle.oc_base.specs.declared.group.Group.{Group}
use Rattle.oc_model.specs.declared.input.Input.{Input}
use Rattle.oc_model.specs.declared.input.Input.TheVariants as inputs
use Rattle.oc_model.specs.declared.message.Message.{Message}
use Rattle.oc_model.specs.declared.message.Body.{Body}
use Rattle.oc_model.specs.declared.message.Body.TheVariants as bodies
use Rattle.oc_model.specs.declared.want.Want.{Want}
use Rattle.oc_model.specs.Adopting.{asked}
use Rattle.oc_model.specs.Asking.{took_yes, took_no, unreachable, relocate}
use Rattle.oc_model.specs.Checking.{checks, tick, checked_in, took_ack, took_rejoin}
use Rattle.oc_model.specs.Content.{pulled, published, sealed_at, fetched, took_chunk}
use Rattle.oc_base.specs.Groups.{group_or_empty, with_group, shelf}
use Rattle.oc_model.specs.Looking.{looked, sees}
use Rattle.oc_model.specs.Node.{Control, Node, Outcome}
use Rattle.oc_model.specs.Plan.{Plan, begun}
use Rattle.oc_model.specs.Serving.{client, measured}

-- The step: the effect of one input on one node, which depends on that node alone.

-- The control step, which depends on the shelf but not on the bytes of the content

-- takes a message from p, by the rule for its kind
abbrev pub received : Plan → List Shelf → ℕ → Body → Plan
received o shelf p bodies.Look = looked o p
received o shelf p (bodies.LookIs is_in parent rate children) = sees o p (record { in_tree = is_in; parent = parent; rate = rate; children = children })
received o shelf p (bodies.Ask seq rank) = asked o p seq rank
received o shelf p (bodies.Yes seq rank ancestors) = took_yes o p seq rank ancestors
received o shelf p (bodies.No seq why) = took_no o p seq why
received o shelf p (bodies.CheckIn seq upto rate number clients certs) = checked_in o p seq upto rate number clients certs
received o shelf p (bodies.CheckAck seq upto rank ancestors) = took_ack o p seq upto rank ancestors
received o shelf p (bodies.Rejoin seq) = took_rejoin o p seq
received o shelf p (bodies.Fetch have) = fetched o shelf p have
received o shelf p (bodies.Chunk g start bytes last) = took_chunk o shelf p g start bytes last

abbrev pub taken : Plan → List Shelf → Input → Plan
taken o shelf (inputs.Tick t) = tick o shelf t
taken o shelf inputs.CheckNow = checks o
-- takes an input, by the rule for its kind
taken o shelf (inputs.Relocate p) = relocate o p
taken o shelf (inputs.Unreachable p) = unreachable o p
taken o shelf (inputs.Pull p) = pulled o shelf p
taken o shelf (inputs.Measured p rate hops) = measured o p rate hops
taken o shelf (inputs.Publish g bytes) = published o shelf g bytes
taken o shelf (inputs.Seal g) = sealed_at o shelf g
taken o shelf (inputs.Client area start g) = client o shelf area start g
taken o shelf (inputs.Delivered m) = received o shelf m.from m.body

-- the step of the control state for an input
abbrev pub plan : Control → List Shelf → Input → Plan
plan n shelf i = taken (begun n) shelf i

-- The whole step, with the bytes of the content

-- the group and the bytes that an input brings, for a step to keep
pub record Piece : Type 0 where
  pub group : List ℕ
  pub bytes : List ℕ

abbrev pub piece_in : Body → Piece
piece_in (bodies.Chunk g start bytes last) = record { group = g; bytes = bytes }
piece_in body = record { group = []; bytes = [] }

abbrev pub piece_of : Input → Piece
piece_of (inputs.Publish g bytes) = record { group = g; bytes = bytes }
piece_of (inputs.Seal g) = record { group = g; bytes = [] }
piece_of (inputs.Delivered m) = piece_in m.body
piece_of i = record { group = []; bytes = [] }

-- the group after a piece that begins at this place: with the bytes past its end, and perhaps closed
abbrev pub grown : Group → ℕ → List ℕ → Bool → Group
grown k at bytes closes = record { name = k.name; bytes = k.bytes ++ drop (length k.bytes - at) bytes; sealed = k.sealed || closes }

-- the groups after the piece, if it was kept
abbrev pub kept_at : Option ℕ → List Group → Piece → Bool → List Group
kept_at None ks p closes = ks
kept_at (Some at) ks p closes = with_group (grown (group_or_empty p.group ks) at p.bytes closes) ks

-- the bytes of content that a step sends
abbrev pub bytes_wanted : List Group → Want → List ℕ
bytes_wanted ks w = take w.count (drop w.start (group_or_empty w.group ks).bytes)

-- a chunk with its bytes
abbrev pub fill_body : List ℕ → Body → Body
fill_body bytes (bodies.Chunk g start none last) = bodies.Chunk g start bytes last
fill_body bytes body = body

abbrev pub fill : List ℕ → Message → Message
fill bytes m = record m { body = fill_body bytes m.body }

abbrev pub filled : Option Want → List Group → List Message → List Message
filled None ks sends = sends
filled (Some w) ks sends = map (fill (bytes_wanted ks w)) sends

-- the outcome of a plan of the control step
abbrev pub finished : Node → Input → Plan → Outcome
finished n i o = record {
  node = record { control = o.node; groups = kept_at o.keeps n.groups (piece_of i) o.seals };
  records = o.records;
  sends = filled o.wants n.groups o.sends;
  answer = o.answer;
}

-- the outcome of one input at one node
abbrev pub step : Node → Input → Outcome
step n i = finished n i (plan n.control (shelf n.groups) i)
