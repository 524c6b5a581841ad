-- The places of nodes, as the tables are put into them.
use Rattle.std.proofs.Common.{◌≡◌, ℕ, zero, suc, ◌-◌, ◌≤◌, inl, inr, true, false, Option, Some, None, Result, Ok, List, [], ◌∷◌, map, length, get_or, replicate, refl, sym, ap, ◌∙◌, subst, arith}
use Rattle.std.proofs.lemmas.List.{length-set, get_or-set_same, get_or-set_other}
use Rattle.std.proofs.lemmas.Bool.{and_parts, cases_Bool, cases_eq}
use Rattle.std.specs.Prelude.{Bool, IfSome, if◌then◌else◌, slice_set}
use Rattle.std.specs.List.{AllByRecursion}
use Rattle.std.specs.Option.{option_or}
use Rattle.oc_base.specs.Steps.{◌>>=◌}
use Rattle.toml.specs.Data.{Data, as_integer, as_str}
use Rattle.oc_config.specs.Addresses.{is_address, is_reachable}
use Rattle.oc_config.specs.Names.{is_name}
use Rattle.oc_config.specs.Nodes.{id_in, retired_in, address_of, reachable_of, address_in, address_unless, listen_of, listen_in, node_area_in, lawful_name, name_of, name_in, entry_with, entry_in, is_new, new_entry_in, put_place, put_new, node_in, nodes_in, address_at, listen_at, name_at}
use Rattle.oc_config.specs.Settings.{NodeSettings}
use Rattle.oc_config.specs.Values.{Section, value_in, required, read_as, read_if, whole_in}
use Rattle.oc_config.specs.declared.fault.ConfigFault.{ConfigFault}
use Rattle.oc_config.specs.declared.fault.ConfigFault.TheVariants.{Value}
use Rattle.oc_config.specs.declared.config_key.ConfigKey.{ConfigKey}
use Rattle.oc_config.specs.declared.config_key.ConfigKey.TheVariants.{Id, Address, Listen, Name}
use Rattle.oc_config.proofs.Results.{steps, there}
use Rattle.oc_config.proofs.Lists.{none_or_some}
use Rattle.oc_config.proofs.Tables.{within_range}

-- a table that was put into an empty place
pub record IsPut (places next : List (Option NodeSettings)) (t : Section) : Type 0 where
  pub id : ℕ
  pub place : NodeSettings
  pub id_is : id_in (length places) t ≡ Ok id
  pub place_is : entry_in t ≡ Ok place
  pub first : 1 ≤ id
  pub last : id ≤ length places
  pub free : get_or places (id - 1) None ≡ None
  pub next_is : next ≡ slice_set places (id - 1) (Some place)

id_range : (nodes : ℕ) (t : Section) (id : ℕ) → id_in nodes t ≡ Ok id → (1 ≤ id) × (id ≤ nodes)
id_range nodes t id e =
    let step = steps (required Id t) (λ d. read_as Id t (whole_in 1 nodes d)) id e in
    within_range 1 nodes (as_integer step.value) id (there (whole_in 1 nodes step.value) (Value t.place Id) id step.then)

-- the result of a step
abbrev some_text : List ℕ → Result (Option (List ℕ)) ConfigFault
some_text text = Ok (Some text)

abbrev listen_or : Option (List ℕ) → Option (List ℕ) → Result (Option (List ℕ)) ConfigFault
listen_or address listen = Ok (option_or listen address)

abbrev made : Bool → Option (List ℕ) → Option (List ℕ) → ℕ → Option (List ℕ) → Result NodeSettings ConfigFault
made retired address listen area name = Ok (record { retired = retired; address = address; listen = listen; area = area; name = name })

abbrev then_name : Section → Bool → Option (List ℕ) → Option (List ℕ) → ℕ → Result NodeSettings ConfigFault
then_name t retired address listen area = name_in t >>= made retired address listen area

abbrev then_area : Section → Bool → Option (List ℕ) → Option (List ℕ) → Result NodeSettings ConfigFault
then_area t retired address listen = node_area_in t >>= then_name t retired address listen

abbrev then_address : Section → Bool → Result NodeSettings ConfigFault
then_address t retired = address_unless retired t >>= entry_with t retired

abbrev then_new : List (Option NodeSettings) → Section → Bool → Option (List ℕ) → Result NodeSettings ConfigFault
then_new places t retired address = is_new places t address >>= (λ done. entry_with t retired address)

abbrev then_new_address : List (Option NodeSettings) → Section → Bool → Result NodeSettings ConfigFault
then_new_address places t retired = address_unless retired t >>= then_new places t retired

abbrev given : {A : Type 0} → A → Result A ConfigFault
given x = Ok x

same_places : (a b : List (Option NodeSettings)) → given a ≡ given b → a ≡ b
same_places a b e = cc e

-- the settings of a new node are those of its table
of_new : (places : List (Option NodeSettings)) (t : Section) (place : NodeSettings) → new_entry_in places t ≡ Ok place → entry_in t ≡ Ok place
of_new places t place e =
    let retired = steps (retired_in t) (then_new_address places t) place e in
    let address = steps (address_unless retired.value t) (then_new places t retired.value) place retired.then in
    let new = steps (is_new places t address.value) (λ done. entry_with t retired.value address.value) place address.then in
    ap (λ (r : Result Bool ConfigFault). r >>= then_address t) retired.first
    ∙ ap (λ (r : Result (Option (List ℕ)) ConfigFault). r >>= entry_with t retired.value) address.first
    ∙ new.then

-- the table of a node that is read is put
pub put : (places next : List (Option NodeSettings)) (t : Section) → node_in places t ≡ Ok next → IsPut places next t
put places next t e =
    let step = steps (id_in (length places) t) (λ id. put_new places id t) next e in
    let range = id_range (length places) t step.value step.first in
    elim (none_or_some (get_or places (step.value - 1) None)) [
      | inl free ↦
          let rest = steps (new_entry_in places t) (λ place. put_place places step.value place) next (rw free at step.then) in
          record {
            id = step.value;
            place = rest.value;
            id_is = step.first;
            place_is = of_new places t rest.value rest.first;
            first = range.0;
            last = range.1;
            free = free;
            next_is = sym (same_places _ _ rest.then);
          }
      | inr taken ↦ let bad = rw (taken.1) at step.then in cc bad
    ]

-- putting keeps the number of places
pub put_length : (places next : List (Option NodeSettings)) (t : Section) → IsPut places next t → length next ≡ length places
put_length places next t p = ap length p.next_is ∙ length-set places (p.id - 1) (Some p.place)

-- putting keeps the nodes at other places
put_keeps : (places next : List (Option NodeSettings)) (t : Section) (i : ℕ) (place : NodeSettings) → IsPut places next t → get_or places i None ≡ Some place → get_or next i None ≡ Some place
put_keeps places next t i place p there = elim (cases_eq i (p.id - 1)) [
  | inl same ↦
      let free = subst (λ (k : ℕ). get_or places k None ≡ None) (sym same) p.free in
      let e : Some place ≡ None = sym there ∙ free in cc e
  | inr other ↦ ap (λ (xs : List (Option NodeSettings)). get_or xs i None) p.next_is ∙ get_or-set_other places (p.id - 1) i (Some p.place) None other ∙ there
]

-- the node is at its own place
put_there : (places next : List (Option NodeSettings)) (t : Section) → (p : IsPut places next t) → get_or next (p.id - 1) None ≡ Some p.place
put_there places next t p =
    ap (λ (xs : List (Option NodeSettings)). get_or xs (p.id - 1) None) p.next_is ∙ get_or-set_same places (p.id - 1) (Some p.place) None (omega (arith, p.first, p.last))

-- a text that passes a test, where there is one
abbrev pub Passes : (List ℕ → Bool) → Option (List ℕ) → Type 0
Passes test o = IfSome o (λ text. test text ≡ true)

pub record IsGoodEntry (place : NodeSettings) : Type 0 where
  pub address : Passes is_reachable place.address
  pub listen : Passes is_address place.listen
  pub name : Passes is_name place.name

abbrev pub IsGood : Option NodeSettings → Type 0
IsGood None = Unit {0}
IsGood (Some place) = IsGoodEntry place

set_good : (places : List (Option NodeSettings)) (i : ℕ) (o : Option NodeSettings) → AllByRecursion IsGood places → IsGood o → AllByRecursion IsGood (slice_set places i o)
set_good [] i o all good = tt
set_good (x ∷ places) zero o all good = (good, all.1)
set_good (x ∷ places) (suc i) o all good = (all.0, set_good places i o all.1 good)

-- a text that is taken passes the test
passes : (test : List ℕ → Bool) (s text : List ℕ) → (if test s then Some s else None) ≡ Some text → test text ≡ true
passes test s text e = elim (cases_Bool (test s)) [
  | inl good ↦
      let found = rw good at e in
      let same : s ≡ text = cc found in
      ap test (sym same) ∙ good
  | inr bad ↦ let found = rw bad at e in cc found
]

reachable_good : (o : Option (List ℕ)) (text : List ℕ) → reachable_of o ≡ Some text → is_reachable text ≡ true
reachable_good None text e = cc
reachable_good (Some s) text e = passes is_reachable s text e

address_good : (o : Option (List ℕ)) (text : List ℕ) → address_of o ≡ Some text → is_address text ≡ true
address_good None text e = cc
address_good (Some s) text e = passes is_address s text e

name_good : (o : Option (List ℕ)) (text : List ℕ) → lawful_name o ≡ Some text → is_name text ≡ true
name_good None text e = cc
name_good (Some s) text e = passes is_name s text e

-- a text that is read from a key passes a test
read_good : (key : ConfigKey) (t : Section) (read : Data → Option (List ℕ)) (test : List ℕ → Bool) → ((d : Data) (text : List ℕ) → read d ≡ Some text → test text ≡ true)
    → (o : Option Data) (text : Option (List ℕ)) → read_if key t read o ≡ Ok text → Passes test text
read_good key t read test good None text e =
    let none : None ≡ text = cc e in
    subst (Passes test) none tt
read_good key t read test good (Some d) text e =
    let step = steps (read_as key t (read d)) some_text text e in
    let same : Some step.value ≡ text = cc step.then in
    subst (Passes test) same (good d step.value (there (read d) (Value t.place key) step.value step.first))

-- the address that is not left out
unless_good : (retired : Bool) (t : Section) (address : Option (List ℕ)) → address_unless retired t ≡ Ok address → Passes is_reachable address
unless_good true t address e =
    let none : None ≡ address = cc e in
    subst (Passes is_reachable) none tt
unless_good false t address e =
    let step = steps (address_in t) some_text address e in
    let value = steps (required Address t) (λ d. read_as Address t (reachable_of (as_str d))) step.value step.first in
    let same : Some step.value ≡ address = cc step.then in
    subst (Passes is_reachable) same (reachable_good (as_str value.value) step.value (there (reachable_of (as_str value.value)) (Value t.place Address) step.value value.then))

-- a node that can be reached listens somewhere
reached : (address : Option (List ℕ)) → Passes is_reachable address → Passes is_address address
reached None good = tt
reached (Some text) good = (and_parts _ _ good).0

or_good : (listen address : Option (List ℕ)) → Passes is_address listen → Passes is_address address → Passes is_address (option_or listen address)
or_good None address first second = second
or_good (Some text) address first second = first

listen_good : (t : Section) (address listen : Option (List ℕ)) → Passes is_reachable address → listen_in t address ≡ Ok listen → Passes is_address listen
listen_good t address listen good e =
    let read = steps (read_if Listen t listen_of (value_in Listen t)) (listen_or address) listen e in
    let same : option_or read.value address ≡ listen = cc read.then in
    subst (Passes is_address) same (or_good read.value address
    (read_good Listen t listen_of is_address (λ d text. address_good (as_str d) text) (value_in Listen t) read.value read.first) (reached address good))

-- an entry that is made of good parts is good
good_made : (retired : Bool) (address listen : Option (List ℕ)) (area : ℕ) (name : Option (List ℕ)) (place : NodeSettings) → made retired address listen area name ≡ given place
    → Passes is_reachable address → Passes is_address listen → Passes is_name name → IsGoodEntry place
good_made retired address listen area name place e first second third =
    let one : NodeSettings = record { retired = retired; address = address; listen = listen; area = area; name = name } in
    let same : one ≡ place = cc e in
    record {
      address = subst (λ (p : NodeSettings). Passes is_reachable p.address) same first;
      listen = subst (λ (p : NodeSettings). Passes is_address p.listen) same second;
      name = subst (λ (p : NodeSettings). Passes is_name p.name) same third;
    }

entry_good : (t : Section) (place : NodeSettings) → entry_in t ≡ Ok place → IsGood (Some place)
entry_good t place e =
    let retired = steps (retired_in t) (then_address t) place e in
    let address = steps (address_unless retired.value t) (entry_with t retired.value) place retired.then in
    let listen = steps (listen_in t address.value) (then_area t retired.value address.value) place address.then in
    let area = steps (node_area_in t) (then_name t retired.value address.value listen.value) place listen.then in
    let name = steps (name_in t) (made retired.value address.value listen.value area.value) place area.then in
    let good = unless_good retired.value t address.value address.first in
    good_made retired.value address.value listen.value area.value name.value place name.then good (listen_good t address.value listen.value good listen.first)
    (read_good Name t name_of is_name (λ d text. name_good (as_str d) text) (value_in Name t) name.value name.first)

put_good : (places next : List (Option NodeSettings)) (t : Section) → IsPut places next t → AllByRecursion IsGood places → AllByRecursion IsGood next
put_good places next t p all =
    subst (λ (xs : List (Option NodeSettings)). AllByRecursion IsGood xs) (sym p.next_is) (set_good places (p.id - 1) (Some p.place) all (entry_good t p.place p.place_is))

-- facts after all tables were put
pub record AreSaid (places after : List (Option NodeSettings)) (nodes : ℕ) (t : Section) : Type 0 where
  pub id : ℕ
  pub place : NodeSettings
  pub id_is : id_in nodes t ≡ Ok id
  pub place_is : entry_in t ≡ Ok place
  pub first : 1 ≤ id
  pub last : id ≤ nodes
  pub there : get_or after (id - 1) None ≡ Some place

pub record ArePut (places after : List (Option NodeSettings)) (ts : List Section) : Type 0 where
  pub long : length after ≡ length places
  pub kept : (i : ℕ) (place : NodeSettings) → get_or places i None ≡ Some place → get_or after i None ≡ Some place
  pub good : AllByRecursion IsGood places → AllByRecursion IsGood after
  pub said : AllByRecursion (AreSaid places after (length places)) ts

-- the same facts, of places of the same number
same_number : (a b after : List (Option NodeSettings)) (ts : List Section) → length a ≡ length b → AllByRecursion (AreSaid a after (length a)) ts → AllByRecursion (AreSaid b after (length b)) ts
same_number a b after [] e all = tt
same_number a b after (t ∷ ts) e all =
    let one = all.0 in (
      record {
        id = one.id;
        place = one.place;
        id_is = subst (λ (n : ℕ). id_in n t ≡ Ok one.id) e one.id_is;
        place_is = one.place_is;
        first = one.first;
        last = omega (arith, one.last, e);
        there = one.there;
      },
      same_number a b after ts e all.1,
    )

-- all tables are put, one after another
pub put_all : (ts : List Section) (places after : List (Option NodeSettings)) → nodes_in places ts ≡ Ok after → ArePut places after ts
put_all [] places after e =
    let same : places ≡ after = cc in
    record {
      long = ap length (sym same);
      kept = λ i place is. subst (λ (xs : List (Option NodeSettings)). get_or xs i None ≡ Some place) same is;
      good = λ all. subst (λ (xs : List (Option NodeSettings)). AllByRecursion IsGood xs) same all;
      said = tt;
    }
put_all (t ∷ ts) places after e =
    let step = steps (node_in places t) (λ next. nodes_in next ts) after e in
    let one = put places step.value t step.first in
    let rest = put_all ts step.value after step.then in
    let long = put_length places step.value t one in
    record {
      long = rest.long ∙ long;
      kept = λ i place is. rest.kept i place (put_keeps places step.value t i place one is);
      good = λ all. rest.good (put_good places step.value t one all);
      said = (
        record {
          id = one.id;
          place = one.place;
          id_is = one.id_is;
          place_is = one.place_is;
          first = one.first;
          last = one.last;
          there = rest.kept (one.id - 1) one.place (put_there places step.value t one);
        },
        same_number step.value places after ts long rest.said,
      );
    }

-- at first all places are empty
pub all_none : (n : ℕ) → AllByRecursion IsGood (replicate n None)
all_none zero = tt
all_none (suc n) = (tt, all_none n)

-- the addresses of good places are good
pub addresses_good : (places : List (Option NodeSettings)) → AllByRecursion IsGood places → AllByRecursion (Passes is_reachable) (map address_at places)
addresses_good [] all = tt
addresses_good (None ∷ places) all = (tt, addresses_good places all.1)
addresses_good (Some place ∷ places) all = (all.0.address, addresses_good places all.1)

-- the addresses at which the nodes of good places listen are good
pub listens_good : (places : List (Option NodeSettings)) → AllByRecursion IsGood places → AllByRecursion (Passes is_address) (map listen_at places)
listens_good [] all = tt
listens_good (None ∷ places) all = (tt, listens_good places all.1)
listens_good (Some place ∷ places) all = (all.0.listen, listens_good places all.1)

-- the names of good places are good
pub names_good : (places : List (Option NodeSettings)) → AllByRecursion IsGood places → AllByRecursion (Passes is_name) (map name_at places)
names_good [] all = tt
names_good (None ∷ places) all = (tt, names_good places all.1)
names_good (Some place ∷ places) all = (all.0.name, names_good places all.1)
