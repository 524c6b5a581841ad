use Rattle.std.proofs.Common.{ℕ, ◌+◌, List, length, ap, arith}
use Rattle.std.proofs.lemmas.Result.{IfOk-weaker}
use Rattle.oc_client.specs.Jobs.{goal_of}
use Rattle.oc_client.proofs.Sent.{sent_up_to}
use Rattle.oc_client.proofs.settling.send.Goals as goal

pub returns-clause-length : goal.returns-clause-length
returns-clause-length g c =
    IfOk-weaker c.settle.result _ _ (λ reached led.
    let long = sent_up_to (goal_of c.args.job.now) c.args.load.now c.args.progress.length (c.args.progress.length + length c.items.result.now) c.args.progress.failures (g.L.Dialler.story c.args.link.now) (g.L.Dialler.story c.settle.new.link) reached led in
    omega (arith, long, ap (λ (x : List ℕ). length x) c.items.ensures)) c.settle.ensures.settled
