use Rattle.std.proofs.Common.{codes}
use Rattle.oc_routes.specs.Metrics.{cause_sample, count_heading, counter}
use Rattle.oc_routes.proofs.Texts.{last_put, then_put}
use Rattle.oc_routes.proofs.routes.metrics.put_others.Goals as goal

-- one metric after the other
pub returns : goal.returns
returns c =
    let t = c.args.tally.now in
    let out = c.args.out.now.items in
    last_put _ out _ _ _ (counter (codes "overcast_clients_total") (codes "Clients served since the start.") t.served)
    (then_put out _ _ _ (cause_sample (codes "message") t.messages)
    (then_put out _ _ (count_heading (codes "overcast_refused_messages_total") (codes "Messages of nodes that were refused.")) (cause_sample (codes "mac") t.macs)
    c.in_ok-put_count_heading.ensures (rw c.macs.ensures at c.in_ok-put_cause.ensures)) (rw c.messages.ensures at c.in_ok-put_cause-2.ensures)) (rw c.served.ensures at c.put_counter.ensures)
