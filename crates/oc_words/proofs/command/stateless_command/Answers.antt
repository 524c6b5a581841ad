use Rattle.oc_words.specs.Command.{bare_command, gen_shape, merge_shape, replay_shape}
use Rattle.clap.specs.Words.{with_subcommand}
use Rattle.oc_words.proofs.command.stateless_command.Goals as goal

pub returns : goal.returns
returns c =
    let replaying = c.with-replaying.ensures bare_command replay_shape c.bare_command.ensures c.replay_command.ensures in
    let generating = c.with.ensures (with_subcommand bare_command replay_shape) gen_shape replaying c.gen_command.ensures in
    c.with-2.ensures (with_subcommand (with_subcommand bare_command replay_shape) gen_shape) merge_shape generating c.merge_command.ensures
