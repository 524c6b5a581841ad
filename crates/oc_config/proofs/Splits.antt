-- The settings of all nodes, in one list for each field.
use Rattle.std.proofs.Common.{◌≡◌, ℕ, Bool, List, [], ◌∷◌, ◌++◌, Option, String, Global, string_bytes, map, sym, ap, ◌∙◌}
use Rattle.std.specs.Prelude.{option_map}
use Rattle.std.proofs.lemmas.List.{map-append}
use Rattle.oc_config.specs.Nodes.{AreOf, address_at, area_at, listen_at, name_at, retired_at, said_at}
use Rattle.oc_config.specs.Settings.{NodeSettings}
use Rattle.oc_config.proofs.Lists.{one_more, one_more_plain}

abbrev Texts : Type 0
Texts = List (Option (String Global))

-- the lists with one node more
pub record ArePushed (retired retired_new : List Bool) (told told_new heard heard_new : Texts) (near near_new : List ℕ) (named named_new : Texts) (said : NodeSettings) : Type 0 where
  pub is_retired : Bool
  pub address : Option (String Global)
  pub listen : Option (String Global)
  pub area : ℕ
  pub name : Option (String Global)
  pub retired_is : retired_new ≡ retired ++ is_retired ∷ []
  pub told_is : told_new ≡ told ++ address ∷ []
  pub heard_is : heard_new ≡ heard ++ listen ∷ []
  pub near_is : near_new ≡ near ++ area ∷ []
  pub named_is : named_new ≡ named ++ name ∷ []
  pub said_is : record { retired = is_retired; address = option_map string_bytes address; listen = option_map string_bytes listen; area = area; name = option_map string_bytes name } ≡ said

-- a list of the values of all nodes so far, with that of this node
of_all : {B : Type 0} (f : Option NodeSettings → B) (so_far : List (Option NodeSettings)) (place : Option NodeSettings) → map f so_far ++ f place ∷ [] ≡ map f (so_far ++ place ∷ [])
of_all f so_far place = sym (map-append f so_far (place ∷ []))

pub put_more : (retired retired_new : List Bool) (told told_new heard heard_new : Texts) (near near_new : List ℕ) (named named_new : Texts) (so_far : List (Option NodeSettings)) (place : Option NodeSettings)
    → ArePushed retired retired_new told told_new heard heard_new near near_new named named_new (said_at place)
    → AreOf retired told heard near named so_far → AreOf retired_new told_new heard_new near_new named_new (so_far ++ place ∷ [])
put_more retired retired_new told told_new heard heard_new near near_new named named_new so_far place put are = record {
  retired_are = one_more_plain retired retired_new (map retired_at so_far) put.is_retired (retired_at place) put.retired_is are.retired_are (ap (λ (n : NodeSettings). n.retired) put.said_is) ∙ of_all retired_at so_far place;
  addresses = one_more (option_map string_bytes) told told_new (map address_at so_far) put.address (address_at place) put.told_is are.addresses (ap (λ (n : NodeSettings). n.address) put.said_is) ∙ of_all address_at so_far place;
  listens = one_more (option_map string_bytes) heard heard_new (map listen_at so_far) put.listen (listen_at place) put.heard_is are.listens (ap (λ (n : NodeSettings). n.listen) put.said_is) ∙ of_all listen_at so_far place;
  areas = one_more_plain near near_new (map area_at so_far) put.area (area_at place) put.near_is are.areas (ap (λ (n : NodeSettings). n.area) put.said_is) ∙ of_all area_at so_far place;
  names = one_more (option_map string_bytes) named named_new (map name_at so_far) put.name (name_at place) put.named_is are.names (ap (λ (n : NodeSettings). n.name) put.said_is) ∙ of_all name_at so_far place;
}
