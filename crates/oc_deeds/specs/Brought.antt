-- The response that came back on a dial, as it is read.
use Rattle.std.specs.Prelude.{ℕ, Bool, true, false, ◌==◌, ◌&&◌, if◌then◌else◌, Option, Some, None, Result, Ok, Err, List, ◌++◌, length}
use Rattle.oc_link.specs.ArrivedView.{ArrivedView, FailsBehind, GivesFront, IsAtEnd, arrived}
use Rattle.oc_link.specs.declared.event.Coming.{Coming}
use Rattle.oc_http.specs.Responses.{reply_of}
use Rattle.oc_http.specs.Taking.{RefusesReply, SaysReply, Took}
use Rattle.oc_http.specs.declared.fault.HttpFault.{HttpFault}
use Rattle.oc_http.specs.declared.fault.HttpFault.TheVariants as https
use Rattle.oc_http.specs.declared.reply.Reply.{Reply}
use Rattle.oc_model.specs.declared.input.Input.{Input}
use Rattle.oc_model.specs.declared.input.Input.TheVariants.{Delivered, Unreachable}
use Rattle.oc_model.specs.declared.message.Message.{Message}
use Rattle.oc_policy.specs.Keys.{Keyring}
use Rattle.oc_probe.specs.Faults.{fault_of_http}
use Rattle.oc_probe.specs.declared.fault.ProbeFault.{ProbeFault}
use Rattle.oc_probe.specs.declared.fault.ProbeFault.TheVariants as faults
use Rattle.oc_probe.specs.declared.rate.TheConstants.{PROBE_BYTES}
use Rattle.oc_routes.specs.declared.tally.MessageFault.{MessageFault}
use Rattle.oc_routes.specs.declared.tally.MessageFault.TheVariants.{Mac, Message as NoMessage}
use Rattle.oc_wire.specs.Macs.{is_authentic}
use Rattle.oc_wire.specs.MessageReading.{decoded}
use Rattle.oc_wire.specs.declared.fault.WireFault.{WireFault}
use Rattle.oc_deeds.specs.declared.came.Came.{Came}
use Rattle.oc_deeds.specs.declared.came.Came.TheVariants as comes
use Rattle.oc_deeds.specs.declared.dials.Errand.{Errand}
use Rattle.oc_deeds.specs.declared.dials.Errand.TheVariants as errands
use Rattle.oc_deeds.specs.declared.reply_in_place.ReplyInPlace.{ReplyInPlace}

-- The reading of a response

-- the result of a reader of responses for these bytes, with this end: a response, or a fault
abbrev pub IsReading : List ℕ → Coming → Result Reply HttpFault → Type 0
IsReading bytes coming (Ok reply) = (head body : List ℕ) × (end : ArrivedView) × GivesFront (arrived bytes coming) (head ++ body) end × SaysReply head body (IsAtEnd end) reply
IsReading bytes coming (Err fault) = (front : List ℕ) × (end : ArrivedView) × Took GivesFront FailsBehind (arrived bytes coming) front end fault × RefusesReply front (IsAtEnd end) fault

-- a response where it lies among the bytes that came, as a value
abbrev pub reply_in : ReplyInPlace → Reply
reply_in reply = reply_of reply.head reply.body.now

abbrev pub reading : Result ReplyInPlace HttpFault → Result Reply HttpFault
reading (Ok reply) = Ok (reply_in reply)
reading (Err fault) = Err fault

-- a result for which there was memory
abbrev pub HadMemory : Result Reply HttpFault → Type 0
HadMemory (Err https.Memory) = ⊥
HadMemory reading = Unit {0}

-- The input that results from a message's reply

-- the message to the node me that was read, if it was one
abbrev pub message_to : ℕ → Result Message WireFault → Option Message
message_to me (Ok message) = if message.to == me then Some message else None
message_to me (Err fault) = None

-- a message that came, or else the input that the peer is not reached
abbrev pub delivered_or : ℕ → Option Message → Input
delivered_or peer (Some message) = Delivered message
delivered_or peer None = Unreachable peer

-- a response of 200 that has the MAC of its body, under one of the keys, where the network has some
abbrev pub brings_message : Option Keyring → Reply → Bool
brings_message keys reply = (reply.status == 200) && is_authentic keys reply.mac reply.body

-- the message of such a response to the node me, if it is one
abbrev pub message_in : ℕ → ℕ → Option Keyring → Reply → Option Message
message_in me nodes keys reply = if brings_message keys reply then message_to me (decoded nodes reply.body) else None

-- The input that results from a response: of one that brings a message, this message; of 204, none; and of any other, that the peer is not reached.
abbrev pub input_of_reply : ℕ → ℕ → Option Keyring → ℕ → Reply → Option Input
input_of_reply me nodes keys peer reply = if reply.status == 204 then None else Some (delivered_or peer (message_in me nodes keys reply))

-- the input that results from a reading: where it is no response, the peer is not reached
abbrev pub input_of : ℕ → ℕ → Option Keyring → ℕ → Result Reply HttpFault → Option Input
input_of me nodes keys peer (Ok reply) = input_of_reply me nodes keys peer reply
input_of me nodes keys peer (Err fault) = Some (Unreachable peer)

abbrev pub is_taken : Option Keyring → Result Reply HttpFault → Bool
is_taken keys (Ok reply) = brings_message keys reply
is_taken keys (Err fault) = false

-- the fault of a response of 200, by whether it has its MAC, and by the input that results from it: a message has none
abbrev pub fault_by : Bool → Option Input → Option MessageFault
fault_by false input = Some Mac
fault_by true (Some (Delivered m)) = None
fault_by true input = Some NoMessage

abbrev pub fault_in : Bool → Bool → Option Input → Option MessageFault
fault_in is_ok taken input = if is_ok then fault_by taken input else None

abbrev pub has_ok : Result Reply HttpFault → Bool
has_ok (Ok reply) = reply.status == 200
has_ok (Err fault) = false

abbrev pub refused_of : ℕ → ℕ → Option Keyring → ℕ → Result Reply HttpFault → Option MessageFault
refused_of me nodes keys peer reading = fault_in (has_ok reading) (is_taken keys reading) (input_of me nodes keys peer reading)

-- The rate that results from a probe's reply

abbrev pub is_answer : Reply → Bool
is_answer reply = (reply.status == 200) && (length reply.body == PROBE_BYTES)

-- the fault of a reading that is no answer
abbrev pub fault_of : Result Reply HttpFault → Option ProbeFault
fault_of (Ok reply) = if is_answer reply then None else Some faults.Reply
fault_of (Err fault) = Some (fault_of_http fault)

-- The news of a dial with this errand, whose reply was read with this result.
abbrev pub comes_back : ℕ → ℕ → Option Keyring → Errand → Result Reply HttpFault → Came
comes_back me nodes keys (errands.Message to fetch) reading = comes.Reply (input_of me nodes keys to reading) (is_taken keys reading) (refused_of me nodes keys to reading)
comes_back me nodes keys (errands.Probe peer since) reading = comes.Probed peer since (fault_of reading)
