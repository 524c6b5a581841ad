use Rattle.std.proofs.Common.{◌≡◌, None, drop, replicate, vec_len}
use Rattle.oc_config.specs.Nodes.{nodes_in}
use Rattle.oc_config.specs.Values.{sections_of}
use Rattle.oc_config.proofs.nodes.nodes.Given as goal

-- the tables that are left give the places that all of them give
abbrev pub invariant-loop-table : goal.invariant-loop-table
invariant-loop-table l = record {
  rest : nodes_in l.places.items (sections_of (drop l.table-index l.tables)) ≡ nodes_in (replicate l.greatest None) (sections_of l.tables);
  len : vec_len l.places ≡ l.greatest;
}
