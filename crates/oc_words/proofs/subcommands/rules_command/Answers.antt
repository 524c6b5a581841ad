use Rattle.std.specs.Prelude.{codes}
use Rattle.clap.specs.Simple.{new_shape}
use Rattle.oc_words.specs.Command.{option_rule}
use Rattle.oc_words.proofs.subcommands.rules_command.Goals as goal

pub returns : goal.returns
returns c = c.with.ensures (new_shape (codes "rules")) (option_rule (codes "config"))
    c.named.ensures c.option.ensures
