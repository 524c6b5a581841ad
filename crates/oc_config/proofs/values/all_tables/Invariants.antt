use Rattle.std.proofs.Common.{◌≡◌, ◌+◌, drop, vec_len}
use Rattle.toml.specs.View.{items_view}
use Rattle.oc_config.specs.Values.{all_tables, sections_of}
use Rattle.oc_config.proofs.Tables.{with_front}
use Rattle.oc_config.proofs.values.all_tables.Given as goal

-- the tables so far, and those of the values that are left, are all
abbrev pub invariant-loop-value : goal.invariant-loop-value
invariant-loop-value l = record {
  all : with_front (sections_of l.tables.items) (all_tables l.kind (l.value-index + 1) (items_view (drop l.value-index l.values))) ≡ all_tables l.kind 1 (items_view l.values);
  count : vec_len l.tables ≡ l.value-index;
}
