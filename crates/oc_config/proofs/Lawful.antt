-- The settings that are read are within their ranges.
use Rattle.std.proofs.Common.{◌≡◌, ℕ, ◌≤◌, None, Option, Ok, List, length, map, replicate, sym, ap, ◌∙◌, subst, arith}
use Rattle.std.specs.Prelude.{All, IfSome}
use Rattle.std.proofs.lemmas.List.{length-map, length-replicate}
use Rattle.std.proofs.lemmas.List.Elements.{All-from_recursion}
use Rattle.oc_base.specs.declared.limits.TheConstants.{MAX_CHAIN, MAX_NODES}
use Rattle.oc_updown.specs.MeasureLines.{IsMeasure}
use Rattle.oc_policy.specs.declared.deciding.TheConstants.{MAX_RULES}
use Rattle.oc_policy.specs.declared.keyring.TheConstants.{MAX_ACCEPTED}
use Rattle.oc_config.specs.Addresses.{is_address, is_reachable}
use Rattle.oc_config.specs.Names.{is_name}
use Rattle.oc_config.specs.Nodes.{nodes_in, retired_at, address_at, listen_at, area_at, name_at}
use Rattle.oc_config.specs.Reading.{AllPassing, IsConfig}
use Rattle.oc_config.specs.Settings.{NodeSettings, Settings}
use Rattle.oc_config.specs.Values.{Section}
use Rattle.oc_config.specs.declared.config.TheConstants.{MAX_CHUNK}
use Rattle.oc_config.proofs.Places.{Passes, put_all, all_none, addresses_good, listens_good, names_good}
use Rattle.oc_config.proofs.Said.{HasLists}

-- the ranges of the parts, where the greatest id is n
pub record AreRead (s : Settings) (n : ℕ) (ts : List Section) (places : List (Option NodeSettings)) : Type 0 where
  pub chain : (1 ≤ s.chain) × (s.chain ≤ MAX_CHAIN)
  pub chunk : (1 ≤ s.chunk) × (s.chunk ≤ MAX_CHUNK)
  pub keys : IfSome s.keys (λ ring. length ring.accept ≤ MAX_ACCEPTED)
  pub count : (1 ≤ n) × (n ≤ MAX_NODES)
  pub within : s.chain ≤ n
  pub nodes : nodes_in (replicate n None) ts ≡ Ok places
  pub lists : HasLists s places
  pub measures : All (IsMeasure n) s.measures
  pub rules : length s.rules ≤ MAX_RULES

-- lists of two fields of all places are as long as each other
as_long : {A B : Type 0} (f : Option NodeSettings → A) (g : Option NodeSettings → B) (places : List (Option NodeSettings)) → length (map f places) ≡ length (map g places)
as_long f g places = length-map places f ∙ sym (length-map places g)

-- settings with these ranges are a configuration
pub lawful : (s : Settings) (n : ℕ) (ts : List Section) (places : List (Option NodeSettings)) → AreRead s n ts places → IsConfig s
lawful s n ts places read =
    let put = put_all ts (replicate n None) places read.nodes in
    let good = put.good (all_none n) in
    let has = read.lists in
    let told : length (map address_at places) ≡ length s.addresses = ap length (sym has.addresses) in
    let many : length s.addresses ≡ n = sym told ∙ length-map places address_at ∙ put.long ∙ length-replicate n None in
    record {
      chain = read.chain;
      chunk = read.chunk;
      keys = read.keys;
      nodes = subst (λ (n : ℕ). (1 ≤ n) × (n ≤ MAX_NODES)) (sym many) read.count;
      within = omega (arith, many, read.within);
      places = record {
        retired = ap length has.retired ∙ as_long retired_at address_at places ∙ told;
        listens = ap length has.listens ∙ as_long listen_at address_at places ∙ told;
        areas = ap length has.areas ∙ as_long area_at address_at places ∙ told;
        names = ap length has.names ∙ as_long name_at address_at places ∙ told;
      };
      addresses = subst (AllPassing is_reachable) (sym has.addresses) (All-from_recursion (Passes is_reachable) (map address_at places) (addresses_good places good));
      listens = subst (AllPassing is_address) (sym has.listens) (All-from_recursion (Passes is_address) (map listen_at places) (listens_good places good));
      names = subst (AllPassing is_name) (sym has.names) (All-from_recursion (Passes is_name) (map name_at places) (names_good places good));
      measures = subst (λ (n : ℕ). All (IsMeasure n) s.measures) (sym many) read.measures;
      rules = read.rules;
    }
