-- The settings of each node.
use Rattle.std.specs.Prelude.{◌≡◌, ℕ, ◌-◌, Some, Ok, slice_get}
use Rattle.oc_config.specs.Nodes.{id_in, entry_in}
use Rattle.oc_config.specs.Settings.{NodeSettings, Settings}
use Rattle.oc_config.specs.Values.{Section}

-- settings with this node at this id
pub record Say (s : Settings) (id : ℕ) (place : NodeSettings) : Type 0 where
  pub retired : slice_get s.retired (id - 1) ≡ Some place.retired
  pub address : slice_get s.addresses (id - 1) ≡ Some place.address
  pub listen : slice_get s.listens (id - 1) ≡ Some place.listen
  pub area : slice_get s.areas (id - 1) ≡ Some place.area
  pub name : slice_get s.names (id - 1) ≡ Some place.name

-- settings with the node of this table at the table's id, where the greatest id is `nodes`
pub record IsSaid (s : Settings) (nodes : ℕ) (table : Section) : Type 0 where
  pub id : ℕ
  pub place : NodeSettings
  pub id_is : id_in nodes table ≡ Ok id
  pub place_is : entry_in table ≡ Ok place
  pub say : Say s id place
