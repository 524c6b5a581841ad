use Rattle.std.specs.Prelude.{◌≡◌, ℕ, ◌<◌, ◌≤◌, ◌⊎◌, false, Option, Some, None}
use Rattle.oc_base.specs.declared.limits.TheConstants.{MAX_DEPTH}
use Rattle.oc_base.specs.declared.rank.Rank.{Rank}
use Rattle.oc_base.specs.declared.refusal.Refusal.{Refusal}
use Rattle.oc_base.specs.declared.refusal.Refusal.TheVariants as refusals
use Rattle.oc_base.specs.Rank.{Precedes}
use Rattle.oc_model.specs.Adoption.{Host}
use Rattle.oc_model.specs.Numbers.{IsAmong}

-- The cause of each refusal, by the host and the asker, whether or not another refusal has a cause too.

-- k is a chain member below the host, which is a chain member too, and x is no chain member or belongs below k
abbrev pub BelongsBeneath : Host → ℕ → ℕ → Type 0
BelongsBeneath h x k = (h.chain_child ≡ Some k) × (h.me ≤ h.chain) × ((h.chain < x) ⊎ (k < x))

-- the asker has a rank that the host's rank does not precede
abbrev pub IsNotBefore : Rank → Option Rank → Type 0
IsNotBefore own None = ⊥
IsNotBefore own (Some r) = ¬ Precedes own r

-- the refusal of x, which has this rank, has a cause
abbrev pub HasCause : Host → ℕ → Option Rank → Refusal → Type 0
HasCause h x r refusals.Own = x ≡ h.me
HasCause h x r refusals.NotJoined = h.in_tree ≡ false
HasCause h x r refusals.Ancestor = IsAmong x h.ancestors
HasCause h x r refusals.Depth = MAX_DEPTH ≤ h.rank.depth
HasCause h x r (refusals.Chain k) = BelongsBeneath h x k
HasCause h x r refusals.Rank = IsNotBefore h.rank r

-- the position of a refusal in the order of the tests
abbrev pub place_of : Refusal → ℕ
place_of refusals.Own = 0
place_of refusals.NotJoined = 1
place_of refusals.Ancestor = 2
place_of refusals.Depth = 3
place_of (refusals.Chain k) = 4
place_of refusals.Rank = 5

-- this refusal has a cause, and every other one with a cause comes after it
abbrev pub IsFirst : Host → ℕ → Option Rank → Refusal → Type 0
IsFirst h x r why = HasCause h x r why × ((other : Refusal) → HasCause h x r other → place_of why ≤ place_of other)
