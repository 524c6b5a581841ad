-- The test of covering decides it.
use Rattle.std.proofs.Common.{◌≡◌, ℕ, ◌<◌, Bool, true, false, ◌&&◌, nat_eq, inl, inr, Option, Some, None, List, [], ◌∷◌, length, codes, refl, sym, ap, ◌∙◌, subst, arith}
use Rattle.std.specs.Bool.{Decides}
use Rattle.std.specs.Option.{ForSome}
use Rattle.std.specs.Str.{bytes_eq}
use Rattle.std.proofs.lemmas.Bool.{and_parts}
use Rattle.std.proofs.lemmas.Bool.Decides.{Decides-eqb}
use Rattle.std.proofs.lemmas.Slice.Eq.{bytes_eq-Decides}
use Rattle.oc_base.specs.Names.{IsGroupName}
use Rattle.oc_policy.proofs.Within.{IsWithin, is_within-Decides, within_through, within_from_all, some_from_prefix, prefix_cases, no_slash_behind}
use Rattle.oc_policy.proofs.Tokens.{a_value, token_through, token_from_all}
use Rattle.oc_policy.specs.Covering.{part_covers, parts_cover}
use Rattle.oc_policy.specs.Prefixes.{IsPrefix, is_within}
use Rattle.oc_policy.specs.Rules.{same_action, is_absent_or, speaks_of, rule_covers}
use Rattle.oc_policy.specs.Tokens.{is_shown}
use Rattle.oc_policy.specs.declared.rule.Action.{Action}
use Rattle.oc_policy.specs.declared.rule.Action.TheVariants.{Get, Post}
use Rattle.oc_policy.specs.declared.rule.Rule.{Rule}

-- both tests pass
both : (a b : Bool) → a ≡ true → b ≡ true → (a && b) ≡ true
both true true h k = refl
both true false h k = cc k
both false b h k = absurd (cc h)

-- four tests pass
all_four : (a b c d : Bool) → a ≡ true → b ≡ true → c ≡ true → d ≡ true → (a && b && c && d) ≡ true
all_four a b c d h k l m = both (a && b && c) d (both (a && b) c (both a b h k) l) m

-- each of four tests that pass together
four_parts : (a b c d : Bool) → (a && b && c && d) ≡ true → (a ≡ true) × (b ≡ true) × (c ≡ true) × (d ≡ true)
four_parts a b c d h =
    let outer = and_parts (a && b && c) d h in
    let middle = and_parts (a && b) c outer.0 in
    let inner = and_parts a b middle.0 in
    (inner.0, inner.1, middle.1, outer.1)

-- Actions

same_action-Decides : (a b : Action) → Decides (same_action a b) (a ≡ b)
same_action-Decides Get Get = (λ _. refl, λ _. refl)
same_action-Decides Post Post = (λ _. refl, λ _. refl)
same_action-Decides Get Post = (λ e. absurd (cc e), λ e. absurd (cc e))
same_action-Decides Post Get = (λ e. absurd (cc e), λ e. absurd (cc e))

-- some action is spoken of
an_action : (o : Option Action) → (a : Action) × (is_absent_or same_action o a ≡ true)
an_action None = (Get, refl)
an_action (Some a) = (a, (same_action-Decides a a).1 refl)

-- a part speaks of all that a part which it covers speaks of
part_through : {A : Type 0} (same : A → A → Bool) (decides : (a b : A) → Decides (same a b) (a ≡ b)) (part other : Option A) (x : A) → part_covers same part other ≡ true → is_absent_or same other x ≡ true → is_absent_or same part x ≡ true
part_through same decides None other x h m = refl
part_through same decides (Some p) None x h m = cc h
part_through same decides (Some p) (Some q) x h m =
    (decides p x).1 ((decides p q).0 h ∙ (decides q x).0 m)

no_single_action : {P : Type 0} (own : Action) → ((a : Action) → same_action own a ≡ true) → P
no_single_action Get all = absurd (cc (all Post))
no_single_action Post all = absurd (cc (all Get))

action_from_all : (part other : Option Action) → ((a : Action) → is_absent_or same_action other a ≡ true → is_absent_or same_action part a ≡ true) → part_covers same_action part other ≡ true
action_from_all None None all = refl
action_from_all None (Some q) all = refl
action_from_all (Some p) None all = no_single_action p (λ a. all a refl)
action_from_all (Some p) (Some q) all = all q ((same_action-Decides q q).1 refl)

-- Areas

an_area : (o : Option ℕ) → ForSome o (λ n. n < 256) → (n : ℕ) × (n < 256) × (is_absent_or nat_eq o n ≡ true)
an_area None within = (0, omega arith, refl)
an_area (Some n) within = (n, within n refl, (Decides-eqb n n).1 refl)

no_single_area : {P : Type 0} (own : ℕ) → ((n : ℕ) → n < 256 → nat_eq own n ≡ true) → P
no_single_area own all =
    let nought = (Decides-eqb own 0).0 (all 0 (omega arith)) in
    let one = (Decides-eqb own 1).0 (all 1 (omega arith)) in
    absurd (omega arith)

area_from_all : (part other : Option ℕ) → ForSome other (λ n. n < 256) → ((n : ℕ) → n < 256 → is_absent_or nat_eq other n ≡ true → is_absent_or nat_eq part n ≡ true) → part_covers nat_eq part other ≡ true
area_from_all None None within all = refl
area_from_all None (Some q) within all = refl
area_from_all (Some p) None within all = no_single_area p (λ n few. all n few refl)
area_from_all (Some p) (Some q) within all = all q (within q refl) ((Decides-eqb q q).1 refl)

-- Rules

-- some group is within a prefix
a_group : (p : List ℕ) → IsPrefix p → (g : List ℕ) × IsGroupName g × IsWithin p g
a_group p good = elim (prefix_cases p good) [
  | inl root ↦ (47 ∷ 97 ∷ [], refl, inl (inl root))
  | inr named ↦ (p, named, inl (inr refl))
]

-- a prefix that holds `/` is `/`
root_within : (p : List ℕ) → 0 < length p → IsWithin p (codes "/") → p ≡ codes "/"
root_within p some (inl (inl root)) = root
root_within p some (inl (inr same)) = same
root_within p some (inr (r, e)) = no_slash_behind p r some e

-- a prefix speaks of all that a prefix within it speaks of
speaks_through : (p q : List ℕ) (group : Option (List ℕ)) → 0 < length p → IsWithin p q → speaks_of q group ≡ true → speaks_of p group ≡ true
speaks_through p q None some within h =
    (bytes_eq-Decides p (codes "/")).1 (root_within p some (subst (λ (x : List ℕ). IsWithin p x) ((bytes_eq-Decides q (codes "/")).0 h) within))
speaks_through p q (Some group) some within h =
    (is_within-Decides p group).1 (within_through p q group some within ((is_within-Decides q group).0 h))

-- the test says that the first rule covers the second
covers_from_test : (j i : Rule) → IsPrefix j.prefix → (parts_cover j i && is_within j.prefix i.prefix) ≡ true → rule_covers j i
covers_from_test j i good h action group area shown named few m =
    let c = four_parts (part_covers same_action j.action i.action) (part_covers nat_eq j.area i.area) (part_covers bytes_eq j.token i.token) (is_within j.prefix i.prefix) h in
    let w = four_parts (is_absent_or same_action i.action action) (is_absent_or nat_eq i.area area) (is_shown i.token shown) (speaks_of i.prefix group) m in
    all_four _ _ _ _
    (part_through same_action same_action-Decides j.action i.action action c.0 w.0)
    (part_through nat_eq Decides-eqb j.area i.area area c.1 w.1)
    (token_through j.token i.token shown c.2 w.2)
    (speaks_through j.prefix i.prefix group (some_from_prefix j.prefix good) ((is_within-Decides j.prefix i.prefix).0 c.3) w.3)

-- a rule that covers another passes the test
test_from_covers : (j i : Rule) → IsPrefix j.prefix → IsPrefix i.prefix → ForSome i.area (λ n. n < 256) → rule_covers j i → (parts_cover j i && is_within j.prefix i.prefix) ≡ true
test_from_covers j i good other within h =
    let a = an_action i.action in
    let n = an_area i.area within in
    let t = a_value i.token in
    let g = a_group i.prefix other in
    let m : (x : Action) (s : List ℕ) (k : ℕ) (v : Option (List ℕ)) → IsGroupName s → k < 256 → is_absent_or same_action i.action x ≡ true → is_absent_or nat_eq i.area k ≡ true → is_shown i.token v ≡ true → IsWithin i.prefix s
    → (is_absent_or same_action j.action x ≡ true) × (is_absent_or nat_eq j.area k ≡ true) × (is_shown j.token v ≡ true) × (is_within j.prefix s ≡ true)
    = λ x s k v named few x_in k_in v_in s_in. four_parts _ _ _ _ (h x (Some s) k v named few (all_four _ _ _ _ x_in k_in v_in ((is_within-Decides i.prefix s).1 s_in))) in
    all_four _ _ _ _
    (action_from_all j.action i.action (λ x x_in. (m x g.0 n.0 t.0 g.1 n.1 x_in n.2 t.1 g.2).0))
    (area_from_all j.area i.area within (λ k few k_in. (m a.0 g.0 k t.0 g.1 few a.1 k_in t.1 g.2).1))
    (token_from_all j.token i.token (λ v v_in. (m a.0 g.0 n.0 v g.1 n.1 a.1 n.2 v_in g.2).2))
    ((is_within-Decides j.prefix i.prefix).1
    (within_from_all j.prefix i.prefix good other (λ s named s_in. (is_within-Decides j.prefix s).0 (m a.0 s n.0 t.0 named n.1 a.1 n.2 t.1 s_in).3)))

-- a rule covers another exactly where its parts do and its prefix holds the other prefix
pub covers-Decides : (j i : Rule) → IsPrefix j.prefix → IsPrefix i.prefix → ForSome i.area (λ n. n < 256) → Decides (parts_cover j i && is_within j.prefix i.prefix) (rule_covers j i)
covers-Decides j i good other within = (covers_from_test j i good, test_from_covers j i good other within)

-- the test when its first part passed, and when it did not
pub covers-then : (j i : Rule) (holds : Bool) → Decides (parts_cover j i && is_within j.prefix i.prefix) (rule_covers j i) → true ≡ parts_cover j i → holds ≡ is_within j.prefix i.prefix → Decides holds (rule_covers j i)
covers-then j i holds said passed same = subst (λ (b : Bool). Decides b (rule_covers j i)) (ap (λ (b : Bool). b && is_within j.prefix i.prefix) (sym passed) ∙ sym same) said

pub covers-else : (j i : Rule) → Decides (parts_cover j i && is_within j.prefix i.prefix) (rule_covers j i) → false ≡ parts_cover j i → Decides false (rule_covers j i)
covers-else j i said failed = subst (λ (b : Bool). Decides b (rule_covers j i)) (ap (λ (b : Bool). b && is_within j.prefix i.prefix) (sym failed)) said
