use Rattle.std.proofs.Common.{ℕ, ◌<◌, arith}
use Rattle.oc_server.proofs.taking.are_bytes.Goals as goal

pub returns : goal.returns
returns c = λ i. omega (arith, c.type_inv.items i)
