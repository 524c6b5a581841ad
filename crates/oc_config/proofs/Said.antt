-- The settings of each node.
use Rattle.std.proofs.Common.{◌≡◌, ℕ, ◌-◌, Bool, Option, Some, None, Ok, List, [], ◌∷◌, length, map, replicate, ap, ◌∙◌, subst}
use Rattle.std.proofs.lemmas.List.{length-replicate}
use Rattle.std.specs.Prelude.{slice_get}
use Rattle.std.specs.List.{AllByRecursion}
use Rattle.oc_config.specs.Laws.{IsSaid}
use Rattle.oc_config.specs.Nodes.{nodes_in, retired_at, address_at, listen_at, area_at, name_at}
use Rattle.oc_config.specs.Settings.{NodeSettings, Settings}
use Rattle.oc_config.specs.Values.{Section}
use Rattle.oc_config.proofs.Lists.{at_map}
use Rattle.oc_config.proofs.Places.{AreSaid, put_all}

-- the settings have the lists of these places
pub record HasLists (s : Settings) (places : List (Option NodeSettings)) : Type 0 where
  pub retired : s.retired ≡ map retired_at places
  pub addresses : s.addresses ≡ map address_at places
  pub listens : s.listens ≡ map listen_at places
  pub areas : s.areas ≡ map area_at places
  pub names : s.names ≡ map name_at places

-- the places of settings give the nodes of the tables
said_all : (s : Settings) (places after : List (Option NodeSettings)) (nodes : ℕ) (ts : List Section) → HasLists s after → AllByRecursion (AreSaid places after nodes) ts → AllByRecursion (IsSaid s nodes) ts
said_all s places after nodes [] has all = tt
said_all s places after nodes (t ∷ ts) has all =
    let one = all.0 in (
      record {
        id = one.id;
        place = one.place;
        id_is = one.id_is;
        place_is = one.place_is;
        say = record {
          retired = ap (λ (xs : List Bool). slice_get xs (one.id - 1)) has.retired ∙ at_map retired_at after (one.id - 1) one.place one.there;
          address = ap (λ (xs : List (Option (List ℕ))). slice_get xs (one.id - 1)) has.addresses ∙ at_map address_at after (one.id - 1) one.place one.there;
          listen = ap (λ (xs : List (Option (List ℕ))). slice_get xs (one.id - 1)) has.listens ∙ at_map listen_at after (one.id - 1) one.place one.there;
          area = ap (λ (xs : List ℕ). slice_get xs (one.id - 1)) has.areas ∙ at_map area_at after (one.id - 1) one.place one.there;
          name = ap (λ (xs : List (Option (List ℕ))). slice_get xs (one.id - 1)) has.names ∙ at_map name_at after (one.id - 1) one.place one.there;
        };
      },
      said_all s places after nodes ts has all.1,
    )

-- settings with these places have the node of each table
pub settings_say : (s : Settings) (n : ℕ) (ts : List Section) (after : List (Option NodeSettings)) → nodes_in (replicate n None) ts ≡ Ok after → HasLists s after → AllByRecursion (IsSaid s n) ts
settings_say s n ts after e has =
    let put = put_all ts (replicate n None) after e in
    said_all s (replicate n None) after n ts has
    (subst (λ (k : ℕ). AllByRecursion (AreSaid (replicate n None) after k) ts) (length-replicate n None) put.said)
