-- The records of the node are lawful for one among as many nodes.
use Rattle.std.proofs.Common.{List, refl, sym, subst}
use Rattle.oc_model.specs.declared.record.Record.{Record}
use Rattle.oc_model.specs.Lawful.{AreRecords}
use Rattle.oc_model.specs.Node.{Header}
use Rattle.oc_index.proofs.LoneSteps.{records_again}
use Rattle.oc_index.proofs.lone_node.started_again.Goals as goal

pub recover-requires-clause-lawful : goal.recover-requires-clause-lawful
recover-requires-clause-lawful c =
    let header : Header = record { nodes = c.nodes-nodes.result; chain = c.chain.result; chunk = c.chunk.result; areas = c.in_ok-to_vec.field-0.items } in
    let made = c.in_ok-made.made.control in
    subst (λ (list : List Record). AreRecords made.nodes list) (sym c.deref.ensures.value)
    (records_again c.args.node.now.control header c.id.result made c.in_ok-list.list.items c.in_ok-made.ensures c.nodes-nodes.ensures.nodes (c.if-not-has_short_log.ensures refl) c.in_ok-list.ensures.lawful)
