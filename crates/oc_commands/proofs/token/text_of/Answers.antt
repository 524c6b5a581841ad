use Rattle.oc_commands.proofs.Tokens.{IsUtf8-token}
use Rattle.oc_commands.proofs.token.text_of.Goals as goal

pub unreachable-requires : goal.unreachable-requires
unreachable-requires c = c.in-Err.ensures.cases.0 (IsUtf8-token c.args.token.now c.requires)
