-- The parts of the runs by which a node joins another.
use Rattle.std.proofs.Common.{◌≡◌, ℕ, List, refl, ap}
use Rattle.oc_model.specs.declared.event.Act.TheVariants as acts
use Rattle.oc_model.specs.declared.input.Input.TheVariants as inputs
use Rattle.oc_model.specs.Runs.{Run, and_then, for_each}
use Rattle.oc_model.specs.World.{World}
use Rattle.oc_calm.specs.Played.{act_run, ask_run, check_in_run, delivery_run, join_by_run, join_run, nodes_below, rank_run}

-- an ask
pub ask_is : (p x : ℕ) (w : World) → and_then (act_run (acts.At x (inputs.Relocate p)) w) delivery_run ≡ ask_run p x w
unfolding act_run delivery_run ask_run
ask_is p x w = refl

-- an ask and its answer
pub join_is : (p x : ℕ) (w : World) → and_then (ask_run p x w) delivery_run ≡ join_run p x w
unfolding ask_run delivery_run join_run
join_is p x w = refl

-- the check-ins of the nodes below the leader
pub down_run : ℕ → ℕ → World → Run
down_run m p v = for_each (nodes_below m p v) check_in_run v

-- the nodes that check in are those that were found below the leader
pub down_is : (m p : ℕ) (v : World) (xs : List ℕ) → xs ≡ nodes_below m p v → for_each xs check_in_run v ≡ down_run m p v
unfolding down_run
down_is m p v xs e = ap (λ (ys : List ℕ). for_each ys check_in_run v) e

-- the leader checks first, and then those nodes check in
pub rank_is : (m p : ℕ) (w : World) → and_then (act_run (acts.At m inputs.CheckNow) w) (down_run m p) ≡ rank_run m p w
unfolding act_run down_run nodes_below check_in_run rank_run
rank_is m p w = refl

-- a join by way of the leader
pub join_by_is : (m p x : ℕ) (w : World) → and_then (and_then (ask_run m x w) (rank_run m p)) (join_run p x) ≡ join_by_run m p x w
unfolding ask_run rank_run join_run join_by_run
join_by_is m p x w = refl
