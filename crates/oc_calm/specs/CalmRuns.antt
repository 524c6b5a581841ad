-- The runs of which settle and heal consist, and the nodes that take part, under names that proofs don't unfold.
use Rattle.std.specs.Prelude.{ℕ, zero, suc, Bool, nat_lt, Option, List, ◌++◌, filter, length, if◌then◌else◌}
use Rattle.oc_model.specs.Heal.{leader, has_room, up_members, up_others, rises, rises_in, comes_to_act, member_before, places, all_join, heals}
use Rattle.oc_model.specs.Runs.{Run}
use Rattle.oc_model.specs.Settle.{tells_while, tells_all, deepest_first, all_tell, settles}
use Rattle.oc_model.specs.World.{World, node, is_up, mode_of}

-- one node tells all that waits, by n check-ins at most; one node tells all; all nodes tell all, those with longer true chains first
unfoldable pub telling_left : ℕ → ℕ → World → Run
telling_left n x w = tells_while n x (node w x).control.kept.log.waiting w

unfoldable pub telling_run : ℕ → World → Run
telling_run x w = tells_all x w

unfoldable pub deepest_nodes : World → List ℕ
deepest_nodes w = deepest_first (length w.processes) w

unfoldable pub tellings_run : World → Run
tellings_run w = all_tell w

-- the run of settle
unfoldable pub settle_run : World → Run
settle_run w = settles w

-- the leader, and whether a node's ask number and epoch are far enough from their ends
unfoldable pub leader_of : World → Option ℕ
leader_of w = leader w

unfoldable pub room_of : World → ℕ → Bool
room_of w x = has_room w x

-- the leader becomes acting: one act towards it, n such acts at most, and as many as it may need
unfoldable pub rise_once_run : ℕ → World → Run
rise_once_run m w = rises (mode_of w m) m w

unfoldable pub rise_left : ℕ → ℕ → World → Run
rise_left n m w = rises_in n m w

unfoldable pub rise_run : ℕ → World → Run
rise_run m w = comes_to_act m w

-- the chain member that x joins, unless x is in place; and the run in which each node that is not in place joins
unfoldable pub member_below : World → ℕ → ℕ → ℕ
member_below w m x = member_before w m x

unfoldable pub place_run : ℕ → ℕ → World → Run
place_run m x w = places m x w

unfoldable pub joiners : ℕ → World → List ℕ
joiners m w = filter (nat_lt m) (up_members w) ++ up_others w

unfoldable pub places_run : ℕ → World → Run
places_run m w = all_join m w

-- the run of heal
unfoldable pub heal_run : ℕ → World → Run
heal_run m w = heals m w

-- the greatest id up to this one of a node that is up, or m
unfoldable pub greatest_up : World → ℕ → ℕ → ℕ
greatest_up w m zero = m
greatest_up w m (suc k) = if is_up w (suc k) then suc k else greatest_up w m k
