use Rattle.std.proofs.Common.{ap, ◌∙◌, arith, length}
use Rattle.std.proofs.lemmas.List.{length-replicate}
use Rattle.std.proofs.lemmas.Result.{err_from_is_err_and}
use Rattle.oc_config.specs.Nodes.{nodes_in}
use Rattle.oc_config.specs.Values.{sections_of}
use Rattle.oc_config.proofs.Walks.{node_put, node_fault}
use Rattle.oc_config.proofs.nodes.nodes.Goals as goal

pub loop-table-init : goal.loop-table-init
loop-table-init c = record {
  rest = ap (λ places. nodes_in places (sections_of c.args.tables.now)) c.in_ok-places.ensures;
  len = let count = ap length c.in_ok-places.ensures ∙ length-replicate _ _ in omega (arith, c.in_ok-places.places.ok.0, count);
}

pub loop-table-preserved : goal.loop-table-preserved
loop-table-preserved c =
    let m = c.loop-table in record {
      rest = node_put m.places.items c.put_node.new.places.items c.args.tables.now m.table-index c.table-item.result c.loop-table-test.true c.table-item.is c.in_ok-put_node.ensures.said ∙ m.invariant.rest;
      len = c.put_node.ensures.len ∙ m.invariant.len;
    }

pub returns-in_err-put_node : goal.returns-in_err-put_node
returns-in_err-put_node c =
    let m = c.loop-table in
    let p = err_from_is_err_and c.from_residual-in_err-put_node.result c.from_residual-in_err-put_node.ensures.1 in
    rw (p.1, p.2) (node_fault _ m.places.items c.put_node.new.places.items c.in_err-put_node.field-0.0 c.args.tables.now m.table-index c.table-item.result c.loop-table-test.true c.table-item.is m.invariant.rest c.in_err-put_node.ensures.said)
