use Rattle.std.proofs.Common.{◌≡◌, Bool, false, if◌then◌else◌, Result, Err, sym, ap, ◌∙◌}
use Rattle.oc_model.specs.declared.message.Message.{Message}
use Rattle.oc_wire.specs.declared.fault.WireFault.{WireFault}
use Rattle.oc_wire.specs.declared.fault.WireFault.TheVariants as faults
use Rattle.oc_wire.proofs.message_decoding.message_at.Goals as goal

-- a message where one of sender and receiver is no node
stranger : (b : Bool) (read : Result Message WireFault) → b ≡ false → (if b then read else Err faults.Stranger) ≡ Err faults.Stranger
stranger b read none = ap (λ (b : Bool). if b then read else Err faults.Stranger) none

pub returns-then-not-are_nodes : goal.returns-then-not-are_nodes
returns-then-not-are_nodes c = stranger _ _ (sym c.are_nodes.ensures ∙ c.if-not-are_nodes.true)
