use Rattle.std.specs.Prelude.{◌≡◌, ℕ, ◌⊎◌, true, Option, Some}
use Rattle.std.specs.List.{AllByRecursion}
use Rattle.oc_base.specs.declared.rank.Rank.{Rank}
use Rattle.oc_base.specs.Rank.{Precedes}
use Rattle.oc_model.specs.declared.event.Event.{Event}
use Rattle.oc_model.specs.declared.message.Body.{Body}
use Rattle.oc_model.specs.declared.message.Body.TheVariants.{Yes, CheckAck}
use Rattle.oc_model.specs.Adopting.{in_tree}
use Rattle.oc_model.specs.Adoption.{rank_or_last}
use Rattle.oc_model.specs.Chains.{IsJoined}
use Rattle.oc_model.specs.NextWorld.{next_world}
use Rattle.oc_model.specs.World.{World, node, mode_of}
use Rattle.oc_laws_step.specs.Order.{IsNoWorse}

-- Properties of the ranks of all nodes.

-- the rank of a node, if it has one
abbrev pub own_rank : World → ℕ → Option Rank
own_rank w x = (node w x).control.kept.rank

-- the rank of a node, or for a node without one the last of all ranks
abbrev pub rank_of : World → ℕ → Rank
rank_of w x = rank_or_last (own_rank w x)

-- there is a rank
abbrev pub IsRanked : Option Rank → Type 0
IsRanked own = (r : Rank) × (own ≡ Some r)

-- rank a is rank b, or precedes it
abbrev pub IsAtLeast : Rank → Rank → Type 0
IsAtLeast a b = (a ≡ b) ⊎ Precedes a b

-- an event leaves each node's rank unchanged, or makes it better
abbrev pub NoRankWorsens : World → Event → Type 0
NoRankWorsens w e = (x : ℕ) → IsNoWorse (own_rank w x) (own_rank (next_world w e) x)

-- each node that is joined or acting has a rank
abbrev pub InTreeAreRanked : World → Type 0
InTreeAreRanked w = (x : ℕ) → in_tree (mode_of w x) ≡ true → IsRanked (own_rank w x)

-- a rank in a message is its sender's rank or a worse one; the sender of a yes has a rank
abbrev pub IsBacked : World → ℕ → Body → Type 0
IsBacked w y (Yes seq rank ancestors) = IsRanked (own_rank w y) × IsAtLeast (rank_of w y) rank
IsBacked w y (CheckAck seq upto rank ancestors) = IsAtLeast (rank_of w y) rank
IsBacked w y body = Unit {0}

-- each message that was ever sent keeps to this
abbrev pub ToldRanksHold : World → Type 0
ToldRanksHold w = AllByRecursion (λ m. IsBacked w m.from m.body) w.net

-- a parent has a rank, which precedes its child's
abbrev pub ParentsPrecede : World → Type 0
ParentsPrecede w = (x y : ℕ) → IsJoined w x y → IsRanked (own_rank w y) × Precedes (rank_of w y) (rank_of w x)
