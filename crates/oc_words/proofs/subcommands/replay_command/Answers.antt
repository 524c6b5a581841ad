use Rattle.std.specs.Prelude.{codes}
use Rattle.clap.specs.Simple.{new_shape}
use Rattle.clap.specs.Words.{Shape}
use Rattle.oc_words.specs.Command.{flag_rule, optional_rule, with_argument}
use Rattle.oc_words.proofs.subcommands.replay_command.Goals as goal

abbrev none : Shape
none = new_shape (codes "replay")

abbrev one : Shape
one = with_argument none (flag_rule (codes "summary"))

abbrev two : Shape
two = with_argument one (flag_rule (codes "large"))

pub returns : goal.returns
returns c = c.with.ensures two (optional_rule (codes "FILE"))
    (c.with-two.ensures one (flag_rule (codes "large"))
    (c.with-one.ensures none (flag_rule (codes "summary")) c.named.ensures c.flag.ensures) c.flag-2.ensures) c.optional.ensures
