-- The first rule that matches.
use Rattle.std.proofs.Common.{◌≡◌, ℕ, ◌+◌, ◌-◌, ◌<◌, ◌≤◌, Bool, true, false, ◌⊎◌, inl, inr, Option, Some, None, List, length, take, length-take, get_or-take, refl, sym, ap, ◌∙◌, subst, arith, get_or}
use Rattle.std.specs.List.{slice_get}
use Rattle.std.specs.Prelude.{IfSome}
use Rattle.std.proofs.lemmas.List.Quantifiers.{position-Some}
use Rattle.std.proofs.lemmas.Option.{get_or_from_slice_get, slice_get_read}
use Rattle.oc_base.specs.Names.{IsGroupName}
use Rattle.oc_policy.specs.Covering.{Shadows, BothCover}
use Rattle.oc_policy.specs.Rules.{rule_matches, rule_covers, first_match}
use Rattle.oc_policy.specs.declared.rule.Action.{Action}
use Rattle.oc_policy.specs.declared.rule.Rule.{Rule}

-- of two rules of which the first covers the second both are there
both_there : {P : Type 0} (j i : Option Rule) → BothCover j i → ((a b : Rule) → j ≡ Some a → i ≡ Some b → rule_covers a b → P) → P
both_there (Some a) (Some b) covers k = k a b refl refl covers
both_there None i covers k = absurd covers
both_there (Some a) None covers k = absurd covers

-- a rule that an earlier one covers is not the first that matches
pub never_first : (rules : List Rule) (j i : ℕ) → Shadows rules j i → (action : Action) (group : Option (List ℕ)) (area : ℕ) (shown : Option (List ℕ)) → IfSome group IsGroupName → area < 256 → first_match rules action group area shown ≡ Some (i - 1) → ⊥
never_first rules j i h action group area shown named few first =
    both_there (slice_get rules (j - 1)) (slice_get rules (i - 1)) h.covers λ a b a_is b_is covers.
    let p : Rule → Bool = λ rule. rule_matches rule action group area shown in
    let told = position-Some p rules (i - 1) b first in
    let matched : p b ≡ true = ap p (sym (get_or_from_slice_get rules (i - 1) b b b_is)) ∙ told.1 in
    let passed : p a ≡ false = ap p (sym (get_or_from_slice_get rules (j - 1) a b a_is)) ∙ told.2 (j - 1) (omega (arith, h.some, h.before)) in
    let also : p a ≡ true = covers action group area shown named few matched in
    let clash : true ≡ false = sym also ∙ passed in
    cc clash

-- of two rules that are there
cover_both : (j i : Option Rule) (a b : Rule) → j ≡ Some a → i ≡ Some b → rule_covers a b → BothCover j i
cover_both j i a b j_is i_is h = rw (j_is, i_is) h

cover_of_both : (j i : Option Rule) (a b : Rule) → j ≡ Some a → i ≡ Some b → BothCover j i → rule_covers a b
cover_of_both (Some x) (Some y) a b j_is i_is h =
    let first : x ≡ a = cc j_is in
    let second : y ≡ b = cc i_is in
    subst (λ (z : Rule). rule_covers a z) second (subst (λ (z : Rule). rule_covers z y) first h)
cover_of_both None i a b j_is i_is h = absurd h
cover_of_both (Some x) None a b j_is i_is h = absurd h

-- the rule at a place of those before another, by its place among all
pub earlier_at : (rules : List Rule) (place before : ℕ) (a : Rule) → before < length (take place rules) → a ≡ get_or (take place rules) before a → slice_get rules before ≡ Some a
earlier_at rules place before a within is =
    let few : before < place = omega (arith, length-take place rules) in
    let some : before < length rules = omega (arith, length-take place rules) in
    slice_get_read rules (length rules) before a refl some (is ∙ get_or-take place rules before a few)

-- an earlier rule that covers another shadows it
pub shadows_from_cover : (rules : List Rule) (before i : ℕ) (a b : Rule) → before < length (take (i - 1) rules) → slice_get rules before ≡ Some a → slice_get rules (i - 1) ≡ Some b → rule_covers a b → Shadows rules (before + 1) i
shadows_from_cover rules before i a b within a_is b_is covers =
    let same : before + 1 - 1 ≡ before = omega arith in
    let a_at : slice_get rules (before + 1 - 1) ≡ Some a = rw same a_is in
    record {
      some = omega arith;
      before = omega (arith, length-take (i - 1) rules);
      covers = cover_both _ _ a b a_at b_is covers;
    }

-- an earlier rule that shadows another covers it
pub covers_from_shadows : (rules : List Rule) (before i : ℕ) (a b : Rule) → slice_get rules before ≡ Some a → slice_get rules (i - 1) ≡ Some b → Shadows rules (before + 1) i → rule_covers a b
covers_from_shadows rules before i a b a_is b_is h =
    let same : before + 1 - 1 ≡ before = omega arith in
    let a_at : slice_get rules (before + 1 - 1) ≡ Some a = rw same a_is in
    cover_of_both _ _ a b a_at b_is h.covers

-- no rule up to the next shadows a rule, where none before does and the next does not
pub no_more_shadows : (rules : List Rule) (before i : ℕ) → ((k : ℕ) → k ≤ before → ¬ Shadows rules k i) → ¬ Shadows rules (before + 1) i → (k : ℕ) → k ≤ before + 1 → ¬ Shadows rules k i
no_more_shadows rules before i none next k few = elim (last_or_before k before few) [
  | inl earlier ↦ none k earlier
  | inr last ↦ subst (λ (n : ℕ). ¬ Shadows rules n i) (sym last) next
]
  where
    last_or_before : (k n : ℕ) → k ≤ n + 1 → (k ≤ n) ⊎ (k ≡ n + 1)
    last_or_before k n h = grind arith
