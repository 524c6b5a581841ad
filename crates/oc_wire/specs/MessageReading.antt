-- The message that bytes spell, or the first fault.
use Rattle.std.specs.Prelude.{◌≡◌, ℕ, Bool, true, false, ◌&&◌, ◌==◌, nat_le, if◌then◌else◌, Result, Ok, Err, List, length}
use Rattle.std.specs.Int.{w32}
use Rattle.oc_base.specs.Fields.{number_at}
use Rattle.oc_base.specs.Steps.{◌>>=◌}
use Rattle.oc_base.specs.Reading.{Reading, or_short, byte_at}
use Rattle.oc_wire.specs.FieldReading.{look_is_at, ask_at, yes_at, no_at, check_in_at, check_ack_at, rejoin_at, fetch_at, chunk_at}
use Rattle.oc_model.specs.declared.message.Body.{Body}
use Rattle.oc_model.specs.declared.message.Body.TheVariants.{Look}
use Rattle.oc_model.specs.declared.message.Message.{Message}
use Rattle.oc_wire.specs.declared.fault.WireFault.{WireFault}
use Rattle.oc_wire.specs.declared.fault.WireFault.TheVariants as faults
use Rattle.oc_wire.specs.MessageFaults.{of_field}

-- the body of the kind in this row of the codes
unfoldable pub fields_at : ℕ → ℕ → List ℕ → ℕ → Reading Body
fields_at row nodes bytes at =
    if row == 0 then Ok (Look, at)
    else if row == 1 then look_is_at nodes bytes at
    else if row == 2 then ask_at bytes at
    else if row == 3 then yes_at nodes bytes at
    else if row == 4 then no_at nodes bytes at
    else if row == 5 then check_in_at nodes bytes at
    else if row == 6 then check_ack_at nodes bytes at
    else if row == 7 then rejoin_at bytes at
    else if row == 8 then fetch_at bytes at
    else if row == 9 then chunk_at false bytes at
    else chunk_at true bytes at

-- the body of the kind with this code
unfoldable pub body_at : ℕ → ℕ → List ℕ → ℕ → Result (Body × ℕ) WireFault
body_at code nodes bytes at =
    if code == 1 then Ok (Look, at)
    else if code == 2 then of_field (look_is_at nodes bytes at)
    else if code == 3 then of_field (ask_at bytes at)
    else if code == 4 then of_field (yes_at nodes bytes at)
    else if code == 5 then of_field (no_at nodes bytes at)
    else if code == 11 then of_field (check_in_at nodes bytes at)
    else if code == 7 then of_field (check_ack_at nodes bytes at)
    else if code == 8 then of_field (rejoin_at bytes at)
    else if code == 12 then of_field (fetch_at bytes at)
    else if code == 13 then of_field (chunk_at false bytes at)
    else if code == 14 then of_field (chunk_at true bytes at)
    else Err (faults.Kind code)

-- Messages

-- whether an id is that of one of the nodes
abbrev pub is_node : ℕ → ℕ → Bool
is_node nodes id = nat_le 1 id && nat_le id nodes

-- a message with this body, which ends where the bytes do
abbrev pub closed : ℕ → ℕ → ℕ → Body × ℕ → Result Message WireFault
closed from to end body = if body.1 == end then Ok (record { from = from; to = to; body = body.0 }) else Err faults.Trailing

-- the message from this sender to this receiver, whose fields begin here, after its kind's code
abbrev pub message_at : ℕ → ℕ → ℕ → ℕ → List ℕ → ℕ → Result Message WireFault
message_at nodes from to code bytes at =
    if is_node nodes from && is_node nodes to then (body_at code nodes bytes at >>= λ body. closed from to (length bytes) body) else Err faults.Stranger

-- the message that all of the bytes are, or the first fault: too few bytes for sender, receiver and kind, then strangers, the kind, the fields,
-- and bytes after them
unfoldable pub decoded : ℕ → List ℕ → Result Message WireFault
decoded nodes bytes = do
  from ← of_field (or_short (number_at w32 bytes 0))
  to ← of_field (or_short (number_at w32 bytes from.1))
  code ← of_field (byte_at bytes to.1)
  message_at nodes from.0 to.0 code.0 bytes code.1

-- the answer of a call is that of reading, unless memory ran out
abbrev pub Gives : {A : Type 0} → Result A WireFault → Result A WireFault → Type 0
Gives (Err faults.Memory) read = Unit {0}
Gives answer read = read ≡ answer
