-- Texts put one after the other, and lines.
use Rattle.std.proofs.Common.{◌≡◌, ◌∙◌, ℕ, ◌+◌, ◌<◌, List, ◌++◌, ap, append_assoc, add-one, refl, subst, sym, Option, Some, None}
use Rattle.std.specs.Prelude.{IfSome, IfNone, OnOk, Result, Ok, Err}
use Rattle.std.specs.List.{slice_get}
use Rattle.oc_policy.specs.Covering.{Shadows}
use Rattle.oc_policy.specs.declared.rule.Rule.{Rule}
use Rattle.oc_policy.specs.Listing.{AreLines, IsLineOf, IsShadowedBy, rule_line}

-- a last part, where it was put
pub last_part : {T E : Type 0} (r : Result T E) (a b c x y : List ℕ) → b ≡ a ++ x → OnOk r (c ≡ b ++ y) → OnOk r (c ≡ a ++ (x ++ y))
last_part (Ok v) a b c x y front last = last ∙ ap (λ l. l ++ y) front ∙ append_assoc a x y
last_part (Err e) a b c x y front last = tt

-- one part more
pub one_more : (a b c x y : List ℕ) → b ≡ a ++ x → c ≡ b ++ y → c ≡ a ++ (x ++ y)
one_more a b c x y front last = last ∙ ap (λ l. l ++ y) front ∙ append_assoc a x y

-- the result of a search for a rule that shadows
pub shadowed : (rules : List Rule) (number : ℕ) (by : Option ℕ) → IfSome by (λ j. Shadows rules j number)
    → IfSome by (λ j. (k : ℕ) → k < j → ¬ Shadows rules k number) → IfNone by ((k : ℕ) → ¬ Shadows rules k number) → IsShadowedBy rules number by
shadowed rules number None some least none = none
shadowed rules number (Some j) some least none = (some, least)

-- the line of the rule at a place
line_of : (rules : List Rule) (number : ℕ) (at : Option Rule) (rule : Rule) (by : Option ℕ) → at ≡ Some rule → IsShadowedBy rules number by
    → IsLineOf rules number at (rule_line number rule by)
line_of rules number at rule by is shadows = rw is (by, shadows, refl)

-- one line more
pub lines_more : (rules : List Rule) (place : ℕ) (text longer : List ℕ) (rule : Rule) (by : Option ℕ) → slice_get rules place ≡ Some rule
    → IsShadowedBy rules (place + 1) by → AreLines rules place text → longer ≡ text ++ rule_line (place + 1) rule by → AreLines rules (place + 1) longer
lines_more rules place text longer rule by is shadows lines longer_is =
    subst (λ n. AreLines rules n longer) (sym (add-one place))
    (text, rule_line (place + 1) rule by, lines, subst (λ n. IsLineOf rules n (slice_get rules place) (rule_line (place + 1) rule by)) (add-one place) (line_of rules (place + 1) (slice_get rules place) rule by is shadows), longer_is)
