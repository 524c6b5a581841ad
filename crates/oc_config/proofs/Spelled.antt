-- The keys of an array, one after another.
use Rattle.std.proofs.Common.{◌≡◌, ℕ, zero, suc, ◌+◌, ◌<◌, ◌≤◌, Some, Result, Ok, Err, List, [], ◌∷◌, ◌++◌, length, get_or, drop, refl, sym, ap, ◌∙◌, arith}
use Rattle.std.proofs.lemmas.Bool.{cond-false, cond-true, le-leb, lt-leb}
use Rattle.toml.specs.Data.{no_items}
use Rattle.oc_policy.specs.declared.keyring.TheConstants.{MAX_ACCEPTED}
use Rattle.toml.specs.View.{view, items_view}
use Rattle.toml.specs.declared.value.Value.{Value as TomlValue}
use Rattle.oc_base.specs.Steps.{◌>>=◌}
use Rattle.oc_config.specs.Accepted.{accepted_of, keys_from, node_key_of}
use Rattle.oc_config.specs.Values.{GivesBy, Section, count_items, read_as}
use Rattle.oc_config.specs.declared.config_key.ConfigKey.TheVariants.{Accept}
use Rattle.oc_config.specs.declared.fault.ConfigFault.{ConfigFault}
use Rattle.oc_config.specs.declared.fault.ConfigFault.TheVariants.{Value}
use Rattle.oc_config.proofs.Tables.{count_view, next_value}
use Rattle.oc_config.proofs.Walks.{gives_fault}

abbrev Keys : Type 0
Keys = List (List ℕ)

-- the keys after one more
pub key_put : (s : Section) (keys : Keys) (key : List ℕ) (vs : List TomlValue) (i : ℕ) (v : TomlValue) → i < length vs → v ≡ get_or vs i v → Ok key ≡ read_as Accept s (node_key_of (view v))
    → keys_from s (keys ++ key ∷ []) (items_view (drop (i + 1) vs)) ≡ keys_from s keys (items_view (drop i vs))
key_put s keys key vs i v inside is put =
    let rest = items_view (drop (i + 1) vs) in
    sym (ap (λ (xs : List TomlValue). keys_from s keys (items_view xs)) (next_value vs i v inside is)
    ∙ ap (λ (r : Result (List ℕ) ConfigFault). r >>= (λ k. keys_from s (keys ++ k ∷ []) rest)) (sym put))

-- the keys at a value that spells none
key_refused : (s : Section) (keys : Keys) (fault : ConfigFault) (vs : List TomlValue) (i : ℕ) (v : TomlValue) → i < length vs → v ≡ get_or vs i v → Err fault ≡ read_as Accept s (node_key_of (view v))
    → keys_from s keys (items_view (drop i vs)) ≡ Err fault
key_refused s keys fault vs i v inside is refused =
    let rest = items_view (drop (i + 1) vs) in
    ap (λ (xs : List TomlValue). keys_from s keys (items_view xs)) (next_value vs i v inside is)
    ∙ ap (λ (r : Result (List ℕ) ConfigFault). r >>= (λ k. keys_from s (keys ++ k ∷ []) rest)) (sym refused)

pub key_fault : {X : Type 0} (view_of : X → Keys) (s : Section) (said : Result Keys ConfigFault) (keys : Keys) (fault : ConfigFault) (vs : List TomlValue) (i : ℕ) (v : TomlValue) → i < length vs → v ≡ get_or vs i v
    → keys_from s keys (items_view (drop i vs)) ≡ said → Err fault ≡ read_as Accept s (node_key_of (view v)) → GivesBy view_of (Err fault) said
key_fault view_of s said keys fault vs i v inside is rest refused = gives_fault view_of said fault (sym rest ∙ key_refused s keys fault vs i v inside is refused)

-- a few values have the keys that they spell
pub few_keys : (s : Section) (vs : List TomlValue) → length vs ≤ MAX_ACCEPTED → accepted_of s (Some (items_view vs)) ≡ keys_from s [] (items_view vs)
few_keys s vs few = cond-true _ (keys_from s [] (items_view vs)) (Err (Value s.place Accept)) (le-leb (count_items (items_view vs)) MAX_ACCEPTED (omega (arith, few, count_view vs)))

-- more values have a fault
pub many_keys : (s : Section) (vs : List TomlValue) → MAX_ACCEPTED < length vs → accepted_of s (Some (items_view vs)) ≡ Err (Value s.place Accept)
many_keys s vs many = cond-false _ (keys_from s [] (items_view vs)) (Err (Value s.place Accept)) (lt-leb (count_items (items_view vs)) MAX_ACCEPTED (omega (arith, many, count_view vs)))

-- after the last value there is none
values_end : (vs : List TomlValue) (i : ℕ) → length vs ≤ i → items_view (drop i vs) ≡ no_items
values_end [] zero past = refl
values_end [] (suc i) past = refl
values_end (v ∷ vs) zero past = absurd (omega (arith, past))
values_end (v ∷ vs) (suc i) past = values_end vs i (omega (arith, past))

pub keys_end : (s : Section) (keys : Keys) (vs : List TomlValue) (i : ℕ) → length vs ≤ i → Ok keys ≡ keys_from s keys (items_view (drop i vs))
keys_end s keys vs i past = sym (ap (keys_from s keys) (values_end vs i past))
