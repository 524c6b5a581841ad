use Rattle.oc_words.specs.Command.{local_command, node_shape}
use Rattle.oc_words.proofs.command.serving_command.Goals as goal

pub returns : goal.returns
returns c = c.with.ensures local_command node_shape c.local_command.ensures c.node_command.ensures
