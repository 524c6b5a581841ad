-- A POST of `/!overcast`: its body is a message to this node, and the message back to the sender is its reply.
use Rattle.std.specs.Prelude.{ℕ, Bool, ◌==◌, if◌then◌else◌, Option, Some, None, Result, Ok, Err, List}
use Rattle.oc_model.specs.declared.input.Input.{Input}
use Rattle.oc_model.specs.declared.input.Input.TheVariants as inputs
use Rattle.oc_model.specs.declared.message.Message.{Message}
use Rattle.oc_wire.specs.Macs.{mac_for}
use Rattle.oc_wire.specs.Spelling.{spelling}
use Rattle.oc_wire.specs.declared.fault.WireFault.{WireFault}
use Rattle.oc_routes.specs.Responses.{status_alone, typed, whole}
use Rattle.oc_routes.specs.declared.refused.Refused.{Refused}
use Rattle.oc_routes.specs.declared.refused.Refused.TheVariants as refusals
use Rattle.oc_routes.specs.declared.response.Response.{Response}

-- a message that was read goes to the node that it is addressed to, and to no other
abbrev pub delivered : ℕ → Result Message WireFault → Result (Option Input) Refused
delivered me (Ok message) = if message.to == me then Ok (Some (inputs.Delivered message)) else Err refusals.Message
delivered me (Err fault) = Err refusals.Message

-- the answer to a message: the reply to its sender, with its MAC, or nothing
abbrev pub message_response : Option (List ℕ) → Option Message → Bool → Response
message_response key None last = status_alone 204 last
message_response key (Some message) last = whole (record (typed (spelling message)) { mac = mac_for key (spelling message) }) last
