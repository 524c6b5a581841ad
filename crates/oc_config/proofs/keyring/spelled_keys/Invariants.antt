use Rattle.std.proofs.Common.{◌≡◌, [], drop, vec_len}
use Rattle.toml.specs.View.{items_view}
use Rattle.oc_config.specs.Accepted.{keys_from}
use Rattle.oc_config.specs.Values.{section_of}
use Rattle.oc_config.proofs.keyring.spelled_keys.Given as goal

-- the values that are left give the keys that all of them give
abbrev pub invariant-loop-value : goal.invariant-loop-value
invariant-loop-value l = record {
  rest : keys_from (section_of l.top) l.keys.items (items_view (drop l.value-index l.values)) ≡ keys_from (section_of l.top) [] (items_view l.values);
  count : vec_len l.keys ≡ l.value-index;
}
