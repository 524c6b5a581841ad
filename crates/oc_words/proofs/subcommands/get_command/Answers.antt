use Rattle.std.specs.Prelude.{codes}
use Rattle.clap.specs.Simple.{new_shape}
use Rattle.clap.specs.Words.{Shape}
use Rattle.oc_words.specs.Command.{flag_rule, option_rule, required_rule, with_argument}
use Rattle.oc_words.proofs.subcommands.get_command.Goals as goal

abbrev none : Shape
none = new_shape (codes "get")

abbrev one : Shape
one = with_argument none (required_rule (codes "URL"))

abbrev two : Shape
two = with_argument one (option_rule (codes "follow"))

abbrev three : Shape
three = with_argument two (option_rule (codes "from"))

abbrev four : Shape
four = with_argument three (option_rule (codes "token-file"))

pub returns : goal.returns
returns c = c.with.ensures four (flag_rule (codes "progress"))
    (c.with-four.ensures three (option_rule (codes "token-file"))
    (c.with-three.ensures two (option_rule (codes "from"))
    (c.with-two.ensures one (option_rule (codes "follow"))
    (c.with-one.ensures none (required_rule (codes "URL")) c.named.ensures c.required.ensures) c.option.ensures) c.option-2.ensures) c.option-3.ensures) c.flag.ensures
