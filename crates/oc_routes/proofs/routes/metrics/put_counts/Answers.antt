use Rattle.std.proofs.Common.{codes}
use Rattle.oc_routes.specs.Metrics.{gauge}
use Rattle.oc_routes.proofs.Texts.{last_put, then_put}
use Rattle.oc_routes.proofs.routes.metrics.put_counts.Goals as goal

-- one metric after the other
pub returns : goal.returns
returns c =
    let counts = c.args.counts.now in
    last_put _ c.args.out.now.items _ _ _ (gauge (codes "overcast_certificates_waiting") (codes "Certificates not acknowledged by the parent.") counts.waiting)
    (then_put c.args.out.now.items _ _ _ (gauge (codes "overcast_clients") (codes "Clients counted by this node.") counts.clients)
    (then_put c.args.out.now.items _ _ _ (gauge (codes "overcast_children") (codes "Leased children.") counts.children)
    (then_put c.args.out.now.items _ _ (gauge (codes "overcast_listed_nodes") (codes "Nodes listed beneath this node.") counts.listed) (gauge (codes "overcast_table_rows") (codes "Rows of the table.") counts.rows)
    c.in_ok-put_gauge.ensures c.in_ok-put_gauge-2.ensures) c.in_ok-put_gauge-3.ensures) c.in_ok-put_gauge-4.ensures) c.put_gauge-5.ensures
