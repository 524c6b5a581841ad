use Rattle.std.specs.Prelude.{codes}
use Rattle.clap.specs.Simple.{new_shape}
use Rattle.clap.specs.Words.{Shape}
use Rattle.oc_words.specs.Command.{flag_rule, option_rule, required_rule, with_argument}
use Rattle.oc_words.proofs.subcommands.put_command.Goals as goal

abbrev none : Shape
none = new_shape (codes "put")

abbrev one : Shape
one = with_argument none (required_rule (codes "URL"))

abbrev two : Shape
two = with_argument one (flag_rule (codes "append"))

abbrev three : Shape
three = with_argument two (flag_rule (codes "resume"))

abbrev four : Shape
four = with_argument three (flag_rule (codes "seal"))

abbrev five : Shape
five = with_argument four (flag_rule (codes "live"))

abbrev six : Shape
six = with_argument five (option_rule (codes "token-file"))

pub returns : goal.returns
returns c = c.with.ensures six (flag_rule (codes "progress"))
    (c.with-six.ensures five (option_rule (codes "token-file"))
    (c.with-five.ensures four (flag_rule (codes "live"))
    (c.with-four.ensures three (flag_rule (codes "seal"))
    (c.with-three.ensures two (flag_rule (codes "resume"))
    (c.with-two.ensures one (flag_rule (codes "append"))
    (c.with-one.ensures none (required_rule (codes "URL")) c.named.ensures c.required.ensures) c.flag.ensures) c.flag-2.ensures) c.flag-3.ensures) c.flag-4.ensures) c.option.ensures) c.flag-5.ensures
