-- The keys of a table.
use Rattle.std.proofs.Common.{◌≡◌, List, ℕ, Bool, true, false, cond, [], ◌∷◌, map, String, Global, string_bytes, Option, Some, None, Ok, Err, refl, sym, ap, ◌∙◌}
use Rattle.std.specs.Map.{keys_of as entry_keys}
use Rattle.toml.specs.View.{members_view}
use Rattle.toml.proofs.Views.{Entry}
use Rattle.oc_config.specs.Keys.{is_known}
use Rattle.oc_config.specs.Known.{keys_of, unknown_key}
use Rattle.oc_config.specs.declared.section_name.SectionName.{SectionName}

-- the keys of the entries of a map
pub keys_are : (es : List Entry) → keys_of (members_view es) ≡ map string_bytes (entry_keys es)
keys_are [] = refl
keys_are (e ∷ es) = ap (λ (ks : List (List ℕ)). string_bytes e.0 ∷ ks) (keys_are es)

-- the first unknown key after a key that is known
pub known_key : (place : SectionName) (keys rest : List (String Global)) (key : String Global) → keys ≡ key ∷ rest → is_known place (string_bytes key) ≡ true
    → unknown_key place (map string_bytes rest) ≡ unknown_key place (map string_bytes keys)
known_key place keys rest key is known =
    sym (ap (λ (ks : List (String Global)). unknown_key place (map string_bytes ks)) is
    ∙ ap (λ b. cond b (unknown_key place (map string_bytes rest)) (Some (string_bytes key))) known)

-- the first unknown key, where the next is one
pub strange_key : (place : SectionName) (keys rest : List (String Global)) (key : String Global) → keys ≡ key ∷ rest → is_known place (string_bytes key) ≡ false
    → unknown_key place (map string_bytes keys) ≡ Some (string_bytes key)
strange_key place keys rest key is strange =
    ap (λ (ks : List (String Global)). unknown_key place (map string_bytes ks)) is
    ∙ ap (λ b. cond b (unknown_key place (map string_bytes rest)) (Some (string_bytes key))) strange
