use Rattle.std.specs.Prelude.{codes}
use Rattle.clap.specs.Simple.{new_shape}
use Rattle.oc_words.specs.Command.{required_rule, with_argument}
use Rattle.oc_words.proofs.subcommands.gen_command.Goals as goal

pub returns : goal.returns
returns c = c.with-2.ensures (with_argument (with_argument (new_shape (codes "gen")) (required_rule (codes "SEED"))) (required_rule (codes "NODES"))) (required_rule (codes "EVENTS"))
    (c.with.ensures (with_argument (new_shape (codes "gen")) (required_rule (codes "SEED"))) (required_rule (codes "NODES"))
    (c.with-seeded.ensures (new_shape (codes "gen")) (required_rule (codes "SEED"))
    c.named.ensures c.required.ensures) c.required-2.ensures) c.required-3.ensures
