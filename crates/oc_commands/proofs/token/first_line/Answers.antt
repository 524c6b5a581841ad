use Rattle.std.specs.List.{slice_split}
use Rattle.std.specs.Prelude.{◌==◌}
use Rattle.oc_commands.proofs.Tokens.{first_cut}
use Rattle.oc_commands.proofs.token.first_line.Goals as goal

pub returns : goal.returns
returns c = first_cut c.cut.result.1 c.cut.result.0.now (slice_split (λ b. b == 10) c.args.bytes.now) (λ rest. slice_split (λ b. b == 10) rest) c.cut.ensures.last c.cut.ensures.first
