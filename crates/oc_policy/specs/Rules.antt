-- The rules that match a request, and the decision of the first of them.
use Rattle.std.specs.Prelude.{ℕ, ◌+◌, ◌<◌, Bool, true, false, ◌&&◌, nat_eq, if◌then◌else◌, IsTrue, Option, Some, None, IfSome, List, codes, position, slice_get}
use Rattle.std.specs.Str.{bytes_eq}
use Rattle.oc_base.specs.Names.{IsGroupName}
use Rattle.oc_policy.specs.Prefixes.{is_within}
use Rattle.oc_policy.specs.Tokens.{is_shown}
use Rattle.oc_policy.specs.declared.rule.Action.{Action}
use Rattle.oc_policy.specs.declared.rule.Action.TheVariants.{Get, Post}
use Rattle.oc_policy.specs.declared.rule.Rule.{Rule}
use Rattle.oc_policy.specs.declared.deciding.Decision.{Decision}
use Rattle.oc_policy.specs.declared.deciding.Decision.TheVariants.{Allowed, Denied}

-- whether two actions are the same
abbrev pub same_action : Action → Action → Bool
same_action Get Get = true
same_action Post Post = true
same_action a b = false

-- whether a part of a rule is absent or equal
abbrev pub is_absent_or : {A : Type 0} → (A → A → Bool) → Option A → A → Bool
is_absent_or same None x = true
is_absent_or same (Some part) x = same part x

-- whether a prefix speaks of a group, or of a page of a node by its name; only `/` speaks of a request without a name
abbrev pub speaks_of : List ℕ → Option (List ℕ) → Bool
speaks_of prefix None = bytes_eq prefix (codes "/")
speaks_of prefix (Some group) = is_within prefix group

-- whether a rule speaks of a request to do this action, with this group, from this area, which shows this
abbrev pub rule_matches : Rule → Action → Option (List ℕ) → ℕ → Option (List ℕ) → Bool
rule_matches rule action group area shown =
    is_absent_or same_action rule.action action && is_absent_or nat_eq rule.area area && is_shown rule.token shown && speaks_of rule.prefix group

-- a rule `j` that leaves nothing to rule `i`: rule `j` matches each request that rule `i` matches
abbrev pub rule_covers : Rule → Rule → Type 0
rule_covers j i = (action : Action) (group : Option (List ℕ)) (area : ℕ) (shown : Option (List ℕ)) → IfSome group IsGroupName → area < 256
    → IsTrue (rule_matches i action group area shown) → IsTrue (rule_matches j action group area shown)

-- the place of the first rule that matches
abbrev pub first_match : List Rule → Action → Option (List ℕ) → ℕ → Option (List ℕ) → Option ℕ
first_match rules action group area shown = position (λ rule. rule_matches rule action group area shown) rules

-- the decision of a rule that matches first: allow, or deny by its number
abbrev pub verdict_of : Option Rule → ℕ → Decision
verdict_of None number = Allowed
verdict_of (Some rule) number = if rule.allow then Allowed else Denied number

-- the decision of the rule at this place; a request that none matches is allowed
abbrev pub verdict_at : List Rule → Option ℕ → Decision
verdict_at rules None = Allowed
verdict_at rules (Some place) = verdict_of (slice_get rules place) (place + 1)

-- the decision of the rules on a request: that of the first rule that matches
abbrev pub verdict : List Rule → Action → Option (List ℕ) → ℕ → Option (List ℕ) → Decision
verdict rules action group area shown = verdict_at rules (first_match rules action group area shown)
