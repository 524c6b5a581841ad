-- Rules of a list that leave nothing to a later one, and the test of it.
use Rattle.std.specs.Prelude.{ℕ, ◌-◌, ◌<◌, ◌≤◌, Bool, ◌&&◌, nat_eq, Option, Some, None, is_none, List, slice_get}
use Rattle.std.specs.Str.{bytes_eq}
use Rattle.oc_policy.specs.Rules.{same_action, is_absent_or, rule_covers}
use Rattle.oc_policy.specs.declared.rule.Rule.{Rule}

-- two rules that are there, of which the first covers the second
abbrev pub BothCover : Option Rule → Option Rule → Type 0
BothCover (Some j) (Some i) = rule_covers j i
BothCover j i = ⊥

-- rule `j` before rule `i`, which it covers; rules are counted from 1
pub record Shadows (rules : List Rule) (j i : ℕ) : Type 0 where
  pub some : 1 ≤ j
  pub before : j < i
  pub covers : BothCover (slice_get rules (j - 1)) (slice_get rules (i - 1))

-- the test of one part: an absent one covers each, and one that is there covers only the same
abbrev pub part_covers : {A : Type 0} → (A → A → Bool) → Option A → Option A → Bool
part_covers same part None = is_none part
part_covers same part (Some other) = is_absent_or same part other

-- the test of the parts of a rule except the prefix
abbrev pub parts_cover : Rule → Rule → Bool
parts_cover j i = part_covers same_action j.action i.action && part_covers nat_eq j.area i.area && part_covers bytes_eq j.token i.token
