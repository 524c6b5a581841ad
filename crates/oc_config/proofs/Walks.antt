-- The tables of an array, one after another.
use Rattle.std.proofs.Common.{◌≡◌, ℕ, zero, suc, ◌+◌, ◌<◌, ◌≤◌, Option, Result, Ok, Err, List, [], ◌∷◌, ◌++◌, length, get_or, drop, refl, sym, ap, ◌∙◌, arith}
use Rattle.std.proofs.Math.Numerals.{add-one}
use Rattle.std.proofs.Math.Seq.{drop-cons}
use Rattle.std.specs.Prelude.{Vec}
use Rattle.std.specs.declared.alloc.Global.{Global}
use Rattle.oc_base.specs.Steps.{◌>>=◌}
use Rattle.oc_policy.specs.declared.rule.Rule.{Rule}
use Rattle.oc_config.specs.AccessRules.{rule_in, rules_from}
use Rattle.oc_config.specs.Nodes.{GivesNode, node_in, nodes_in}
use Rattle.oc_config.specs.Settings.{NodeSettings}
use Rattle.oc_config.specs.Known.{all_known, known_in}
use Rattle.oc_config.specs.Values.{GivesBy, section_of, sections_of}
use Rattle.oc_config.specs.declared.node_entry.NodeEntry.{NodeEntry}
use Rattle.oc_config.specs.declared.fault.ConfigFault.{ConfigFault}
use Rattle.oc_config.specs.declared.fault.ConfigFault.TheVariants.{Toml, Missing, Value, Repeat, Measure, Unknown, Memory}
use Rattle.oc_config.specs.declared.section.Section.{Section as CodeSection}

abbrev Tables : Type 0
Tables = List CodeSection

-- a table and those after it
next_table : (ts : Tables) (i : ℕ) (t : CodeSection) → i < length ts → t ≡ get_or ts i t → sections_of (drop i ts) ≡ section_of t ∷ sections_of (drop (i + 1) ts)
next_table ts i t inside is =
    let same : drop i ts ≡ t ∷ drop (i + 1) ts = rw (add-one, drop-cons ts i t) (ap (λ (x : CodeSection). x ∷ drop (suc i) ts) (sym is)) in
    ap sections_of same

-- no table is left after the last
nothing_left : (ts : Tables) (i : ℕ) → length ts ≤ i → sections_of (drop i ts) ≡ []
nothing_left [] zero h = refl
nothing_left [] (suc i) h = refl
nothing_left (t ∷ ts) zero h = absurd (omega (arith, h))
nothing_left (t ∷ ts) (suc i) h = nothing_left ts i (omega (arith, h))

-- Nodes

-- the nodes after one that was put
pub node_put : (places next : List (Option NodeSettings)) (ts : Tables) (i : ℕ) (t : CodeSection) → i < length ts → t ≡ get_or ts i t → node_in places (section_of t) ≡ Ok next → nodes_in next (sections_of (drop (i + 1) ts)) ≡ nodes_in places (sections_of (drop i ts))
node_put places next ts i t inside is put =
    let rest = sections_of (drop (i + 1) ts) in
    sym (ap (nodes_in places) (next_table ts i t inside is) ∙ ap (λ (r : Result (List (Option NodeSettings)) ConfigFault). r >>= (λ p. nodes_in p rest)) put)

-- the nodes at one that has a fault
node_refused : (places : List (Option NodeSettings)) (fault : ConfigFault) (ts : Tables) (i : ℕ) (t : CodeSection) → i < length ts → t ≡ get_or ts i t → node_in places (section_of t) ≡ Err fault → nodes_in places (sections_of (drop i ts)) ≡ Err fault
node_refused places fault ts i t inside is refused =
    let rest = sections_of (drop (i + 1) ts) in
    ap (nodes_in places) (next_table ts i t inside is) ∙ ap (λ (r : Result (List (Option NodeSettings)) ConfigFault). r >>= (λ p. nodes_in p rest)) refused

-- the fault of a node is that of all
pub node_fault : (said : Result (List (Option NodeSettings)) ConfigFault) (places next : List (Option NodeSettings)) (fault : ConfigFault) (ts : Tables) (i : ℕ) (t : CodeSection) → i < length ts → t ≡ get_or ts i t → nodes_in places (sections_of (drop i ts)) ≡ said → GivesNode (Err fault) places next (section_of t) → GivesBy {X = Vec (Option NodeEntry) Global} (λ v. v.items) (Err fault) said
node_fault said places next (Toml line) ts i t inside is rest gives = sym rest ∙ node_refused places (Toml line) ts i t inside is gives
node_fault said places next (Missing place key) ts i t inside is rest gives = sym rest ∙ node_refused places (Missing place key) ts i t inside is gives
node_fault said places next (Value place key) ts i t inside is rest gives = sym rest ∙ node_refused places (Value place key) ts i t inside is gives
node_fault said places next (Repeat place id) ts i t inside is rest gives = sym rest ∙ node_refused places (Repeat place id) ts i t inside is gives
node_fault said places next (Measure line why) ts i t inside is rest gives = sym rest ∙ node_refused places (Measure line why) ts i t inside is gives
node_fault said places next (Unknown place key) ts i t inside is rest gives = sym rest ∙ node_refused places (Unknown place key) ts i t inside is gives
node_fault said places next Memory ts i t inside is rest gives = tt

-- Rules

-- the rules after one more
pub rule_put : (rules : List Rule) (rule : Rule) (ts : Tables) (i : ℕ) (t : CodeSection) → i < length ts → t ≡ get_or ts i t → Ok rule ≡ rule_in (section_of t) → rules_from (rules ++ rule ∷ []) (sections_of (drop (i + 1) ts)) ≡ rules_from rules (sections_of (drop i ts))
rule_put rules rule ts i t inside is put =
    let rest = sections_of (drop (i + 1) ts) in
    sym (ap (rules_from rules) (next_table ts i t inside is) ∙ ap (λ (r : Result Rule ConfigFault). r >>= (λ x. rules_from (rules ++ x ∷ []) rest)) (sym put))

-- the rules at one that has a fault
rule_refused : (rules : List Rule) (fault : ConfigFault) (ts : Tables) (i : ℕ) (t : CodeSection) → i < length ts → t ≡ get_or ts i t → Err fault ≡ rule_in (section_of t) → rules_from rules (sections_of (drop i ts)) ≡ Err fault
rule_refused rules fault ts i t inside is refused =
    let rest = sections_of (drop (i + 1) ts) in
    ap (rules_from rules) (next_table ts i t inside is) ∙ ap (λ (r : Result Rule ConfigFault). r >>= (λ x. rules_from (rules ++ x ∷ []) rest)) (sym refused)

-- a fault that is said is given, whatever the fault
pub gives_fault : {X A : Type 0} (view : X → A) (said : Result A ConfigFault) (fault : ConfigFault) → said ≡ Err fault → GivesBy view (Err fault) said
gives_fault view said (Toml line) is = is
gives_fault view said (Missing place key) is = is
gives_fault view said (Value place key) is = is
gives_fault view said (Repeat place id) is = is
gives_fault view said (Measure line why) is = is
gives_fault view said (Unknown place key) is = is
gives_fault view said Memory is = tt

-- the fault of a rule is that of all
pub rule_fault : (said : Result (List Rule) ConfigFault) (rules : List Rule) (fault : ConfigFault) (ts : Tables) (i : ℕ) (t : CodeSection) → i < length ts → t ≡ get_or ts i t → rules_from rules (sections_of (drop i ts)) ≡ said → Err fault ≡ rule_in (section_of t) → GivesBy {X = Vec Rule Global} (λ v. v.items) (Err fault) said
rule_fault said rules fault ts i t inside is rest refused = gives_fault {X = Vec Rule Global} (λ v. v.items) said fault (sym rest ∙ rule_refused rules fault ts i t inside is refused)

-- all rules are read after the last
pub rules_end : (rules : List Rule) (ts : Tables) (i : ℕ) → length ts ≤ i → Ok rules ≡ rules_from rules (sections_of (drop i ts))
rules_end rules ts i past = sym (ap (rules_from rules) (nothing_left ts i past))

-- Keys

-- the tables after one whose keys are known
pub known_next : (ts : Tables) (i : ℕ) (t : CodeSection) → i < length ts → t ≡ get_or ts i t → Ok tt ≡ known_in (section_of t) → all_known (sections_of (drop (i + 1) ts)) ≡ all_known (sections_of (drop i ts))
known_next ts i t inside is known =
    let rest = sections_of (drop (i + 1) ts) in
    sym (ap all_known (next_table ts i t inside is) ∙ ap (λ (r : Result (Unit {0}) ConfigFault). r >>= (λ done. all_known rest)) (sym known))

-- the tables at one with a key that is none
pub known_refused : (fault : ConfigFault) (ts : Tables) (i : ℕ) (t : CodeSection) → i < length ts → t ≡ get_or ts i t → Err fault ≡ known_in (section_of t) → all_known (sections_of (drop i ts)) ≡ Err fault
known_refused fault ts i t inside is refused =
    let rest = sections_of (drop (i + 1) ts) in
    ap all_known (next_table ts i t inside is) ∙ ap (λ (r : Result (Unit {0}) ConfigFault). r >>= (λ done. all_known rest)) (sym refused)

-- all keys are known after the last table
pub known_end : (ts : Tables) (i : ℕ) → length ts ≤ i → all_known (sections_of (drop i ts)) ≡ Ok tt
known_end ts i past = ap all_known (nothing_left ts i past)
