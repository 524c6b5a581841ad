use Rattle.oc_words.specs.Command.{command, get_shape, put_shape, serving_command}
use Rattle.clap.specs.Words.{with_subcommand}
use Rattle.oc_words.proofs.command.command.Goals as goal

pub returns : goal.returns
unfolding command
returns c = c.with-2.ensures (with_subcommand serving_command get_shape) put_shape
    (c.with.ensures serving_command get_shape c.serving_command-serving.ensures c.get_command.ensures) c.put_command.ensures
