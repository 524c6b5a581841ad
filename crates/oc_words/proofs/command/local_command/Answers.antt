use Rattle.oc_words.specs.Command.{check_shape, rules_shape, stateless_command}
use Rattle.clap.specs.Words.{with_subcommand}
use Rattle.oc_words.proofs.command.local_command.Goals as goal

pub returns : goal.returns
returns c = c.with-2.ensures (with_subcommand stateless_command check_shape) rules_shape
    (c.with.ensures stateless_command check_shape c.stateless_command-stateless.ensures c.check_command.ensures) c.rules_command.ensures
