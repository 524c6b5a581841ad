use Rattle.std.specs.Prelude.{◌≡◌, ℕ, ◌≤◌, List, [], ◌∷◌, ◌++◌, ◌⊎◌, length}
use Rattle.std.specs.List.{AllByRecursion}
use Rattle.oc_base.specs.declared.group.Group.{Group}
use Rattle.oc_model.specs.declared.message.Message.{Message}
use Rattle.oc_base.specs.declared.limits.TheConstants.{MAX_GROUPS, MAX_GROUP_BYTES}
use Rattle.oc_base.specs.Groups.{IsAscending}
use Rattle.oc_model.specs.World.{World, node}

-- Bounds that every world keeps, whatever the events.

-- x is in this list
abbrev pub IsOneOf : ℕ → List ℕ → Type 0
IsOneOf x [] = ⊥
IsOneOf x (y ∷ ys) = (x ≡ y) ⊎ IsOneOf x ys

-- no id occurs twice
abbrev pub IsDistinct : List ℕ → Type 0
IsDistinct [] = Unit {0}
IsDistinct (x ∷ xs) = (IsOneOf x xs → ⊥) × IsDistinct xs

-- all messages of the earlier world are in the later one, in their places
abbrev pub IsLater : World → World → Type 0
IsLater old new = (more : List Message) × (new.net ≡ old.net ++ more)

-- a group of at most as many bytes as the limit allows
abbrev pub IsShort : Group → Type 0
IsShort k = length k.bytes ≤ MAX_GROUP_BYTES

abbrev pub AreWithinLimits : List Group → Type 0
AreWithinLimits ks = IsAscending ks × (length ks ≤ MAX_GROUPS) × AllByRecursion IsShort ks

-- the groups of each node are within the limits
abbrev pub IsWithinLimits : World → Type 0
IsWithinLimits w = AllByRecursion (λ p. AreWithinLimits p.node.groups) w.processes

abbrev pub clock_of : World → ℕ → ℕ
clock_of w x = (node w x).control.soft.clock

-- no node's clock is past this second
abbrev pub AreBefore : ℕ → World → Type 0
AreBefore t w = (x : ℕ) → clock_of w x ≤ t
