use Rattle.std.proofs.Common.{Ok, Err, subst}
use Rattle.oc_wire.specs.MessageReading.{Gives}
use Rattle.oc_world.specs.Net.{message_in}
use Rattle.oc_world.proofs.ReadBack.{given_err, given_ok, spelled_read}
use Rattle.oc_world.proofs.texts.message_in.Goals as goal

pub memory_of-requires : goal.memory_of-requires
memory_of-requires c =
    let nodes = c.args.nodes in
    let bytes = c.args.bytes.now in
    given_err c.in-Err.fault (message_in nodes bytes) (subst (Gives (Err c.in-Err.fault)) (spelled_read nodes bytes c.requires.few c.requires.spelled) c.in-Err.ensures.exact)

pub returns-in-Ok : goal.returns-in-Ok
returns-in-Ok c =
    let nodes = c.args.nodes in
    let bytes = c.args.bytes.now in
    given_ok c.in-Ok.message (message_in nodes bytes) (subst (Gives (Ok c.in-Ok.message)) (spelled_read nodes bytes c.requires.few c.requires.spelled) c.in-Ok.ensures.exact)
