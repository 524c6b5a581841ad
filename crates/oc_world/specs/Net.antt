-- The net: each message as its bytes, those that the request to its receiver brings.
use Rattle.std.specs.Prelude.{◌≡◌, ℕ, Bool, true, false, Option, Some, None, Result, Ok, Err, List, [], ◌∷◌, ◌++◌, codes, decimal, map}
use Rattle.oc_http.specs.Writing.{request_text}
use Rattle.oc_model.specs.declared.message.Body.{Body}
use Rattle.oc_model.specs.declared.message.Body.TheVariants.{Look, CheckAck}
use Rattle.oc_model.specs.declared.message.Message.{Message}
use Rattle.oc_model.specs.Lawful.{IsMessage}
use Rattle.oc_wire.specs.declared.fault.WireFault.{WireFault}
use Rattle.oc_wire.specs.MessageReading.{decoded}
use Rattle.oc_wire.specs.Spelling.{spelling}
use Rattle.oc_world.specs.declared.letter.Letter.{Letter}
use Rattle.oc_world.specs.Letters.{IsPlaced, whole}

-- the host of a node: `node` and its id
abbrev pub host_of : ℕ → List ℕ
host_of x = codes "node" ++ decimal x

-- the request that brings a message to its receiver
abbrev pub text_of : Message → List ℕ
text_of m = request_text (host_of m.to) (spelling m)

abbrev pub message_or_look : Result Message WireFault → Message
message_or_look (Ok m) = m
message_or_look (Err fault) = record { from = 0; to = 0; body = Look }

-- the message between `nodes` nodes that these bytes spell
abbrev pub message_in : ℕ → List ℕ → Message
message_in nodes bytes = message_or_look (decoded nodes bytes)

-- bytes are those of a lawful message
pub record IsSpelled (nodes : ℕ) (bytes : List ℕ) : Type 0 where
  pub lawful : IsMessage nodes (message_in nodes bytes)
  pub exact : bytes ≡ spelling (message_in nodes bytes)

-- the message between `nodes` nodes that a letter brings
abbrev pub brought : ℕ → List (List ℕ) → Letter → Message
brought nodes pools l = message_in nodes (whole pools l)

-- a letter is that of a lawful message
pub record IsLetter (nodes : ℕ) (pools : List (List ℕ)) (l : Letter) : Type 0 where
  pub placed : IsPlaced pools l
  pub spelled : IsSpelled nodes (whole pools l)

-- the number of nodes, and every message in the order of sending
pub record NetView : Type 0 where
  pub nodes : ℕ
  pub messages : List Message

-- the net of these letters, which share the bytes of these pools
abbrev pub net_of : ℕ → List (List ℕ) → List Letter → NetView
net_of nodes pools letters = record { nodes = nodes; messages = map (brought nodes pools) letters }

-- whether this acknowledges a check-in
abbrev pub is_ack_body : Body → Bool
is_ack_body (CheckAck seq upto rank ancestors) = true
is_ack_body body = false

-- whether the last of these does
abbrev pub ends_with_ack : Bool → List Message → Bool
ends_with_ack acks [] = acks
ends_with_ack acks (m ∷ ms) = ends_with_ack (is_ack_body m.body) ms

-- the text of a message is read as that message, if there is one
abbrev pub IsTextOf : Option Message → Option (List ℕ) → Type 0
IsTextOf None text = text ≡ None
IsTextOf (Some m) text = text ≡ Some (text_of m)
