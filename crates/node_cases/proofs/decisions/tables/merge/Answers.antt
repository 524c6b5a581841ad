use Rattle.std.proofs.Common.{◌≡◌, refl, ap, arith}
use Rattle.oc_updown.specs.TableView.{TableView}
use Rattle.node_cases.proofs.decisions.tables.merge.Goals as goal

pub merge-requires-clause-cert : goal.merge-requires-clause-cert
merge-requires-clause-cert c =
    let subject = c.if-is_node.ensures refl in
    let parent = c.if-is_node-2.ensures refl in
    let same : c.reserve.new.self.nodes ≡ c.args.table.now.nodes = ap (λ (t : TableView). t.nodes) c.reserve.ensures.rest in
    record {
      subject = (subject.0, omega (arith, same, subject.1, c.len-nodes.ensures, c.rows.ensures.nodes));
      seq = (c.if-cert-ge1.true, omega arith);
      parent = (parent.0, omega (arith, same, parent.1, c.len-nodes.ensures, c.rows.ensures.nodes));
      number = omega arith;
      clients = omega arith;
    }
