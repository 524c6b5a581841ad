-- The steps by which settings were read.
use Rattle.std.proofs.Common.{◌≡◌, ℕ, [], None, Option, Result, Ok, List, length, replicate, refl, sym, ap, subst}
use Rattle.std.specs.List.{AllByRecursion}
use Rattle.oc_config.specs.AccessRules.{rules_from, rule_tables_in}
use Rattle.oc_config.specs.Laws.{IsSaid}
use Rattle.oc_config.specs.Nodes.{nodes_in}
use Rattle.oc_config.specs.Reading.{network_in, greatest_of, node_tables_in, chain_within, measures_in, keys_known, settings_with, with_keys, with_rule_tables, with_rules, with_measures, with_chain, with_tables, with_nodes, settings_in}
use Rattle.oc_config.specs.Settings.{NodeSettings, Settings}
use Rattle.oc_config.specs.Values.{Section}
use Rattle.oc_config.specs.declared.fault.ConfigFault.{ConfigFault}
use Rattle.oc_config.specs.declared.reading.NetworkSettings.{NetworkSettings}
use Rattle.oc_config.proofs.Results.{steps}
use Rattle.oc_config.proofs.Said.{HasLists, settings_say}

same_Ok : (a b : Settings) (r : Result Settings ConfigFault) → r ≡ Ok a → r ≡ Ok b → a ≡ b
same_Ok a b r x y = let e : Ok a ≡ r = sym x in cc

-- the places that settings were read from
record HasPlaces (s : Settings) (n : ℕ) (tables : List Section) : Type 0 where
  places : List (Option NodeSettings)
  nodes : nodes_in (replicate n None) tables ≡ Ok places
  lists : HasLists s places

places_of : (text : Section) (network : NetworkSettings) (s : Settings) (tables : List Section) → with_tables text network tables ≡ Ok s → HasPlaces s (greatest_of network tables) tables
places_of text network s tables e =
    let n = greatest_of network tables in
    let nodes = steps (nodes_in (replicate n None) tables) (λ places. with_chain text network tables places) s e in
    let places = nodes.value in
    let within = steps (chain_within text n network.chain) (λ done. with_measures text network tables places) s nodes.then in
    let measures = steps (measures_in n text) (λ measures. with_rules text network tables places measures) s within.then in
    let found = steps (rule_tables_in text) (λ rule_tables. with_rule_tables text network tables places measures.value rule_tables) s measures.then in
    let rules = steps (rules_from [] found.value) (λ rules. with_keys text network tables places measures.value found.value rules) s found.then in
    let keys = steps (keys_known text tables found.value) (λ done. settings_with network places measures.value rules.value) s rules.then in
    let same = same_Ok _ _ _ refl keys.then in
    record {
      places = places;
      nodes = nodes.first;
      lists = record {
        retired = ap (λ (r : Settings). r.retired) (sym same);
        addresses = ap (λ (r : Settings). r.addresses) (sym same);
        listens = ap (λ (r : Settings). r.listens) (sym same);
        areas = ap (λ (r : Settings). r.areas) (sym same);
        names = ap (λ (r : Settings). r.names) (sym same);
      };
    }

-- the node of each table is in the settings
pub settled_say : (text : Section) (s : Settings) (network : NetworkSettings) (tables : List Section) → settings_in text ≡ Ok s → network_in text ≡ Ok network → node_tables_in text ≡ Ok tables
    → AllByRecursion (IsSaid s (greatest_of network tables)) tables
settled_say text s network tables e said there =
    let top = steps (network_in text) (λ network. with_nodes text network) s e in
    let found = steps (node_tables_in text) (λ ts. with_tables text top.value ts) s top.then in
    let same_top : top.value ≡ network = cc in
    let same : found.value ≡ tables = cc in
    let has = places_of text top.value s found.value found.then in
    subst (λ (c : NetworkSettings). AllByRecursion (IsSaid s (greatest_of c tables)) tables) same_top
    (subst (λ (ts : List Section). AllByRecursion (IsSaid s (greatest_of top.value ts)) ts) same
    (settings_say s (greatest_of top.value found.value) found.value has.places has.nodes has.lists))
