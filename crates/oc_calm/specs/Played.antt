-- The runs of the model that are played, under names that proofs don't unfold, so that each proof uses only the facts it needs.
use Rattle.std.specs.Prelude.{ℕ, Bool, List}
use Rattle.oc_model.specs.declared.event.Act.{Act}
use Rattle.oc_model.specs.Heal.{is_placed, asks, joins, below, tells_rank, joins_by}
use Rattle.oc_model.specs.Runs.{Run, does, delivers_last}
use Rattle.oc_model.specs.Settle.{ticks, all_tick, takes_any_ack, checks_in, checks_in_if_joined, all_check_in, first_five_steps}
use Rattle.oc_model.specs.World.{World}

-- one act
unfoldable pub act_run : Act → World → Run
act_run a w = does a w

-- the delivery of the last message, and that of the last message if it is an acknowledgement
unfoldable pub delivery_run : World → Run
delivery_run w = delivers_last w

unfoldable pub ack_run : World → Run
ack_run w = takes_any_ack w

-- a tick of one node, and one of each node that is up
unfoldable pub tick_run : ℕ → ℕ → World → Run
tick_run more x w = ticks more x w

unfoldable pub ticks_run : ℕ → World → Run
ticks_run more w = all_tick more w

-- a check-in of a node, one of a node if it is joined, and one of each node that is up and joined
unfoldable pub check_in_run : ℕ → World → Run
check_in_run x w = checks_in x w

unfoldable pub joined_run : ℕ → World → Run
joined_run x w = checks_in_if_joined x w

unfoldable pub check_ins_run : World → Run
check_ins_run w = all_check_in w

-- the first five steps of settle
unfoldable pub five_run : World → Run
five_run w = first_five_steps w

-- x asks p, and x joins p
unfoldable pub ask_run : ℕ → ℕ → World → Run
ask_run p x w = asks p x w

unfoldable pub join_run : ℕ → ℕ → World → Run
join_run p x w = joins p x w

-- the nodes on the way from m down to p, and the run in which m tells its rank down to p
unfoldable pub nodes_below : ℕ → ℕ → World → List ℕ
nodes_below m p w = below m p w

unfoldable pub rank_run : ℕ → ℕ → World → Run
rank_run m p w = tells_rank m p w

-- x joins p by way of m
unfoldable pub join_by_run : ℕ → ℕ → ℕ → World → Run
join_by_run m p x w = joins_by m p x w

-- whether x is in place under m
unfoldable pub is_placed_under : World → ℕ → ℕ → Bool
is_placed_under w m x = is_placed w m x
