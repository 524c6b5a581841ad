use Rattle.std.proofs.Common.{◌≡◌, [], drop, vec_len}
use Rattle.oc_config.specs.AccessRules.{rules_from}
use Rattle.oc_config.specs.Values.{sections_of}
use Rattle.oc_config.proofs.rules.rules.Given as goal

-- the tables that are left give the rules that all of them give
abbrev pub invariant-loop-table : goal.invariant-loop-table
invariant-loop-table l = record {
  rest : rules_from l.rules.items (sections_of (drop l.table-index l.tables)) ≡ rules_from [] (sections_of l.tables);
  count : vec_len l.rules ≡ l.table-index;
}
