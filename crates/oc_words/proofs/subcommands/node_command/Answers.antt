use Rattle.std.specs.Prelude.{codes}
use Rattle.clap.specs.Simple.{new_shape}
use Rattle.clap.specs.Words.{Shape}
use Rattle.oc_words.specs.Command.{flag_rule, option_rule, required_rule, with_argument}
use Rattle.oc_words.proofs.subcommands.node_command.Goals as goal

abbrev none : Shape
none = new_shape (codes "node")

abbrev one : Shape
one = with_argument none (required_rule (codes "ID"))

abbrev two : Shape
two = with_argument one (option_rule (codes "turns"))

abbrev three : Shape
three = with_argument two (flag_rule (codes "probe"))

abbrev four : Shape
four = with_argument three (option_rule (codes "config"))

abbrev five : Shape
five = with_argument four (option_rule (codes "dir"))

pub returns : goal.returns
returns c = c.with.ensures five (option_rule (codes "log"))
    (c.with-five.ensures four (option_rule (codes "dir"))
    (c.with-four.ensures three (option_rule (codes "config"))
    (c.with-three.ensures two (flag_rule (codes "probe"))
    (c.with-two.ensures one (option_rule (codes "turns"))
    (c.with-one.ensures none (required_rule (codes "ID")) c.named.ensures c.required.ensures) c.option.ensures) c.flag.ensures) c.option-2.ensures) c.option-3.ensures) c.option-4.ensures
