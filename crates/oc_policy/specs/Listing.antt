-- The lines that list access rules.
use Rattle.std.specs.Prelude.{◌≡◌, ℕ, zero, suc, ◌<◌, Bool, true, false, Option, Some, None, List, [], ◌++◌, length, codes, decimal, slice_get}
use Rattle.oc_policy.specs.Covering.{Shadows}
use Rattle.oc_policy.specs.declared.rule.Action.TheVariants.{Get, Post}
use Rattle.oc_policy.specs.declared.rule.Action.{Action}
use Rattle.oc_policy.specs.declared.rule.Rule.{Rule}

-- the word of a rule that allows or denies
abbrev pub allow_text : Bool → List ℕ
allow_text true = codes "allow"
allow_text false = codes "deny"

-- the method that a rule speaks of
abbrev pub method_text : Option Action → List ℕ
method_text None = codes "any"
method_text (Some Get) = codes "get"
method_text (Some Post) = codes "post"

-- the area that a rule speaks of
abbrev pub area_text : Option ℕ → List ℕ
area_text None = codes "any"
area_text (Some area) = decimal area

-- the mark of a rule that another one shadows
abbrev pub shadow_text : Option ℕ → List ℕ
shadow_text None = []
shadow_text (Some number) = codes " shadowed by " ++ decimal number

-- the mark of a rule with a token, which tells nothing of the token
abbrev pub token_text : Option (List ℕ) → List ℕ
token_text None = []
token_text (Some token) = codes " token"

-- `allow|deny METHOD PREFIX AREA`, and ` token` where the rule has one
abbrev pub rule_text : Rule → List ℕ
rule_text rule =
    allow_text rule.allow ++ codes " " ++ method_text rule.action ++ codes " " ++ rule.prefix ++ codes " " ++ area_text rule.area ++ token_text rule.token

-- the line of a rule: its number, its text, and the mark of a shadowed rule
abbrev pub rule_line : ℕ → Rule → Option ℕ → List ℕ
rule_line number rule by = decimal number ++ codes " " ++ rule_text rule ++ shadow_text by ++ codes "\n"

-- the first rule that shadows the one of this number, or none
abbrev pub IsShadowedBy : List Rule → ℕ → Option ℕ → Type 0
IsShadowedBy rules number None = (j : ℕ) → ¬ Shadows rules j number
IsShadowedBy rules number (Some j) = Shadows rules j number × ((k : ℕ) → k < j → ¬ Shadows rules k number)

-- the line of the rule at a place, if there is one
abbrev pub IsLineOf : List Rule → ℕ → Option Rule → List ℕ → Type 0
IsLineOf rules number None line = ⊥
IsLineOf rules number (Some rule) line = (by : Option ℕ) × IsShadowedBy rules number by × (line ≡ rule_line number rule by)

-- the lines of the first n rules, in their order
abbrev pub AreLines : List Rule → ℕ → List ℕ → Type 0
AreLines rules zero text = text ≡ []
AreLines rules (suc n) text =
    (front line : List ℕ) × AreLines rules n front × IsLineOf rules (suc n) (slice_get rules n) line × (text ≡ front ++ line)

-- the lines of all rules, and nothing else
abbrev pub IsListing : List Rule → List ℕ → Type 0
IsListing rules text = AreLines rules (length rules) text
