use Rattle.std.proofs.Common.{refl}
use Rattle.hex.specs.Hex.{decode_pairs}
use Rattle.oc_config.proofs.law.examples_are_read.Goals as goal

pub returns-clause-keys : goal.returns-clause-keys
unfolding decode_pairs
returns-clause-keys c = refl

pub returns-clause-many : goal.returns-clause-many
unfolding decode_pairs
returns-clause-many c = refl
