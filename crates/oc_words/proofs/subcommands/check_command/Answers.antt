use Rattle.std.specs.Prelude.{codes}
use Rattle.clap.specs.Simple.{new_shape}
use Rattle.clap.specs.Words.{Shape}
use Rattle.oc_words.specs.Command.{option_rule, optional_rule, required_rule, with_argument}
use Rattle.oc_words.proofs.subcommands.check_command.Goals as goal

abbrev none : Shape
none = new_shape (codes "check")

abbrev one : Shape
one = with_argument none (required_rule (codes "ID"))

abbrev two : Shape
two = with_argument one (optional_rule (codes "NODES"))

abbrev three : Shape
three = with_argument two (optional_rule (codes "CHAIN"))

abbrev four : Shape
four = with_argument three (option_rule (codes "config"))

pub returns : goal.returns
returns c = c.with.ensures four (option_rule (codes "dir"))
    (c.with-four.ensures three (option_rule (codes "config"))
    (c.with-three.ensures two (optional_rule (codes "CHAIN"))
    (c.with-two.ensures one (optional_rule (codes "NODES"))
    (c.with-one.ensures none (required_rule (codes "ID")) c.named.ensures c.required.ensures) c.optional.ensures) c.optional-2.ensures) c.option.ensures) c.option-2.ensures
