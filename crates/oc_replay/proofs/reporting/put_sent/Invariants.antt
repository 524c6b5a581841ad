-- The lines so far and those to come are all.
use Rattle.std.proofs.Common.{◌≡◌, ◌++◌, ◌-◌, drop}
use Rattle.oc_replay.specs.Lines.{messages_text}
use Rattle.oc_replay.proofs.reporting.put_sent.Given as goal

abbrev pub invariant-loop-number : goal.invariant-loop-number
invariant-loop-number g l =
    let net = (g.T.Stage.world l.stage).net in
    l.out.items ++ messages_text l.number (drop (l.number - 1) net) ≡ l.fn.out.items ++ messages_text l.fn.said.first (drop (l.fn.said.first - 1) net)
