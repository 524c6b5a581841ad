use Rattle.std.proofs.Common.{rules}
use Rattle.oc_updown.proofs.waiting.Waiting.push_row.Goals as goal

pub returns-in_default-clause-certs : goal.returns-in_default-clause-certs
returns-in_default-clause-certs c = search rules
