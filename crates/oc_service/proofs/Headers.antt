-- The header that a node is loaded with.
use Rattle.std.proofs.Common.{◌≡◌, ◌≤◌, ℕ, Bool, true, false, List, length, refl, ap, ap₂, ◌∙◌, arith}
use Rattle.std.specs.List.{AllByRecursion}
use Rattle.oc_base.specs.declared.limits.TheConstants.{MAX_AREA, MAX_NODES}
use Rattle.oc_config.specs.Reading.{IsConfig}
use Rattle.oc_config.specs.Settings.{Settings}
use Rattle.oc_deeds.specs.Areas.{areas_among}
use Rattle.oc_deeds.proofs.Areas.{areas_many, areas_whole}
use Rattle.oc_keep.specs.KeptView.{header}
use Rattle.oc_model.specs.Lawful.{IsHeader}
use Rattle.oc_service.specs.OnSite.{header_by}

itself : (n : ℕ) → n ≤ n
itself n = omega arith

-- it has room for the nodes of the configuration
pub ids_within : (recorded : Bool) (s : Settings) → IsConfig s → length s.addresses ≤ (header_by recorded s).nodes
ids_within true s c = itself (length s.addresses)
ids_within false s c = c.nodes.1

-- its areas are those of the configuration, and 0 for other ids
pub areas_are : (recorded : Bool) (s : Settings) → IsConfig s → areas_among (header_by recorded s).nodes s.areas ≡ (header_by recorded s).areas
areas_are true s c = areas_whole (length s.addresses) s.areas c.places.areas
areas_are false s c = refl

pub areas_count : (recorded : Bool) (s : Settings) → IsConfig s → (areas : List ℕ) → areas ≡ (header_by recorded s).areas → length areas ≡ (header_by recorded s).nodes
areas_count true s c areas same = ap length same ∙ c.places.areas
areas_count false s c areas same = areas_many MAX_NODES s.areas areas same (omega (arith, c.places.areas, c.nodes.1))

pub few_nodes : (recorded : Bool) (s : Settings) → IsConfig s → (header_by recorded s).nodes ≤ MAX_NODES
few_nodes true s c = c.nodes.1
few_nodes false s c = itself MAX_NODES

-- it is a header
pub lawful_header : (recorded : Bool) (s : Settings) → IsConfig s → (nodes : ℕ) (areas : List ℕ) → nodes ≡ (header_by recorded s).nodes → length areas ≡ nodes → AllByRecursion (λ a. a ≤ MAX_AREA) areas → IsHeader (header nodes s.chain s.chunk areas)
lawful_header recorded s c nodes areas room many bytes =
    let within : length s.addresses ≤ (header_by recorded s).nodes = ids_within recorded s c in
    let few : (header_by recorded s).nodes ≤ MAX_NODES = few_nodes recorded s c in
    record {
      some = omega (arith, c.nodes.0, within, room);
      few = omega (arith, few, room);
      chain = c.chain.0;
      short = c.chain.1;
      within = omega (arith, c.within, within, room);
      chunk = c.chunk.0;
      fits = omega (arith, c.chunk.1);
      areas = many;
      bytes = bytes;
    }

-- the header of a node that was loaded with these settings
pub settings_header : (recorded : Bool) (s : Settings) (nodes chain chunk : ℕ) (areas : List ℕ) → nodes ≡ (header_by recorded s).nodes → chain ≡ s.chain → chunk ≡ s.chunk → areas ≡ (header_by recorded s).areas → header nodes chain chunk areas ≡ header_by recorded s
settings_header true s nodes chain chunk areas count links most same =
    ap (λ n. header n chain chunk areas) count ∙ ap (λ b. header (header_by true s).nodes chain b areas) most ∙ ap₂ (λ x a. header (header_by true s).nodes x s.chunk a) links same
settings_header false s nodes chain chunk areas count links most same =
    ap (λ n. header n chain chunk areas) count ∙ ap (λ b. header (header_by false s).nodes chain b areas) most ∙ ap₂ (λ x a. header (header_by false s).nodes x s.chunk a) links same
