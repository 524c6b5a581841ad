use Rattle.std.proofs.Common.{◌∙◌, arith}
use Rattle.oc_replay.proofs.Messages.{message-put}
use Rattle.oc_replay.proofs.reporting.put_sent.Goals as goal

-- the line of this message, and those after it
pub loop-number-preserved : goal.loop-number-preserved
loop-number-preserved g c =
    let net = (g.T.Stage.world c.args.stage.now).net in
    rw c.in_ok-put_one.ensures (message-put c.loop-number.out.items net c.loop-number.number (omega arith) ∙ c.loop-number.invariant)
