use Rattle.std.proofs.Common.{subst, arith}
use Rattle.oc_wire.specs.MessageReading.{Gives}
use Rattle.oc_wire.proofs.MessageReads.{is_read, is_found}
use Rattle.oc_wire.proofs.decoding.decode.Goals as goal

pub returns-clause-found : goal.returns-clause-found
returns-clause-found c = is_found c.args.nodes c.args.bytes.now c.read_message.result (λ i. omega (arith, c.type_inv.bytes i)) c.read_message.ensures

pub returns-clause-only : goal.returns-clause-only
returns-clause-only c = λ m spelled. subst (Gives c.read_message.result) (is_read c.args.nodes c.args.bytes.now m (omega (arith, c.ranges.nodes.fits)) spelled) c.read_message.ensures
