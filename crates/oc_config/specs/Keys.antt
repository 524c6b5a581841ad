-- The keys of a configuration, and the tables that have them.
use Rattle.std.specs.Prelude.{ℕ, Bool, not, ◌&&◌, ◌||◌, ◌==◌, nat_le, if◌then◌else◌, List, [], ◌∷◌, length, codes}
use Rattle.std.specs.List.{list_all, list_any}
use Rattle.std.specs.Str.{byte, bytes_eq}
use Rattle.oc_config.specs.declared.config_key.ConfigKey.{ConfigKey}
use Rattle.oc_config.specs.declared.config_key.ConfigKey.TheVariants.{Chain, Nodes, Chunk, NodeKey, Accept, Node, Id, Retired, Address, Listen, Area, Name, Measures, Rule, Allow, Prefix, Method, Token}
use Rattle.oc_config.specs.declared.key_name.TheConstants.{MAX_KEY_BYTES}
use Rattle.oc_config.specs.declared.section_name.Kind.{Kind}
use Rattle.oc_config.specs.declared.section_name.Kind.TheVariants as kinds
use Rattle.oc_config.specs.declared.section_name.SectionName.{SectionName}
use Rattle.oc_config.specs.declared.section_name.SectionName.TheVariants as places

-- a key as it appears in the text
abbrev pub key_text : ConfigKey → List ℕ
key_text Chain = codes "chain"
key_text Nodes = codes "nodes"
key_text Chunk = codes "chunk"
key_text NodeKey = codes "key"
key_text Accept = codes "accept"
key_text Node = codes "node"
key_text Id = codes "id"
key_text Retired = codes "retired"
key_text Address = codes "address"
key_text Listen = codes "listen"
key_text Area = codes "area"
key_text Name = codes "name"
key_text Measures = codes "measures"
key_text Rule = codes "rule"
key_text Allow = codes "allow"
key_text Prefix = codes "prefix"
key_text Method = codes "method"
key_text Token = codes "token"

-- the table of this number among those of a kind, counted from 1 in the order of the text
abbrev pub place_in : Kind → ℕ → SectionName
place_in kinds.Node number = places.Node number
place_in kinds.Rule number = places.Rule number

-- the keys that a table can have
abbrev pub keys_at : SectionName → List ConfigKey
keys_at places.Top = Chain ∷ Nodes ∷ Chunk ∷ NodeKey ∷ Accept ∷ Node ∷ Measures ∷ Rule ∷ []
keys_at (places.Node number) = Id ∷ Retired ∷ Address ∷ Listen ∷ Area ∷ Name ∷ []
keys_at (places.Rule number) = Allow ∷ Prefix ∷ Method ∷ Area ∷ Token ∷ []

abbrev pub is_known : SectionName → List ℕ → Bool
is_known place text = list_any (λ key. bytes_eq text (key_text key)) (keys_at place)

-- a letter, a digit, `-` or `_`
abbrev pub is_key_byte : ℕ → Bool
is_key_byte b =
    (nat_le (byte "a") b && nat_le b (byte "z")) || (nat_le (byte "A") b && nat_le b (byte "Z")) || (nat_le (byte "0") b && nat_le b (byte "9"))
    || b == byte "-" || b == byte "_"

-- 1 to 64 of these bytes
abbrev pub is_plain_key : List ℕ → Bool
is_plain_key text = not (length text == 0) && (nat_le (length text) MAX_KEY_BYTES && list_all is_key_byte text)

-- a key as a fault shows it
abbrev pub shown_key : List ℕ → List ℕ
shown_key text = if is_plain_key text then text else codes "?"
