use Rattle.std.specs.Prelude.{ℕ, zero, suc, ◌+◌, ◌==◌, Bool, false, Option, Some, None, List, [], ◌∷◌, ◌++◌, filter, length}
use Rattle.oc_base.specs.declared.cert.Cert.{Cert}
use Rattle.oc_model.specs.declared.event.Act.TheVariants as acts
use Rattle.oc_model.specs.declared.input.Input.TheVariants as inputs
use Rattle.oc_model.specs.declared.message.Body.{Body}
use Rattle.oc_model.specs.declared.message.Body.TheVariants.{CheckAck}
use Rattle.oc_model.specs.declared.mode.Mode.{Mode}
use Rattle.oc_model.specs.declared.mode.Mode.TheVariants.{Joined}
use Rattle.oc_model.specs.Chains.{chain_from}
use Rattle.oc_model.specs.Runs.{Run, rests, does, and_then, for_each, last_body, delivers_last}
use Rattle.oc_model.specs.World.{World, node, mode_of, up_ids}

-- The acts of settle. Nodes come in ascending order of their ids.

-- Steps 1, 3 and 5: each node that is up ticks, by this many seconds

abbrev pub ticks : ℕ → ℕ → World → Run
ticks more x w = does (acts.At x (inputs.Tick ((node w x).control.soft.clock + more))) w

abbrev pub all_tick : ℕ → World → Run
all_tick more w = for_each (up_ids w) (ticks more) w

-- Steps 2 and 4: each node that is up and joined checks in

-- delivers the message that was sent last, if it acknowledges a check-in
abbrev pub takes_ack : Option Body → World → Run
takes_ack (Some (CheckAck seq upto rank ancestors)) w = delivers_last w
takes_ack b w = rests w

abbrev pub takes_any_ack : World → Run
takes_any_ack w = takes_ack (last_body w) w

-- a check-in, its delivery, and the delivery of its acknowledgement
abbrev pub checks_in : ℕ → World → Run
checks_in x w = and_then (and_then (does (acts.At x inputs.CheckNow) w) delivers_last) takes_any_ack

abbrev pub checks_in_if : Mode → ℕ → World → Run
checks_in_if (Joined p) x w = checks_in x w
checks_in_if mode x w = rests w

abbrev pub checks_in_if_joined : ℕ → World → Run
checks_in_if_joined x w = checks_in_if (mode_of w x) x w

abbrev pub all_check_in : World → Run
all_check_in w = for_each (up_ids w) checks_in_if_joined w

abbrev pub first_five_steps : World → Run
first_five_steps w = and_then (and_then (and_then (and_then (all_tick 0 w) all_check_in) (all_tick 15)) all_check_in) (all_tick 15)

-- Step 6: the nodes tell all that waits, the deepest below the root first

-- checks in while something waits, at most n times
abbrev pub tells_while : ℕ → ℕ → List Cert → World → Run
tells_while zero x waiting w = rests w
tells_while (suc n) x [] w = rests w
tells_while (suc n) x (f ∷ fs) w = and_then (checks_in x w) (λ v. tells_while n x (node v x).control.kept.log.waiting v)

-- checks in until nothing waits: each check-in tells at least one certificate, so the number that waits now is enough
abbrev pub tells_all : ℕ → World → Run
tells_all x w = tells_while (length (node w x).control.kept.log.waiting) x (node w x).control.kept.log.waiting w

abbrev pub has_length : ℕ → Option (List ℕ) → Bool
has_length n None = false
has_length n (Some c) = length c == n

-- the nodes that are up and whose true chain has n nodes
abbrev pub with_chain_of : ℕ → World → List ℕ
with_chain_of n w = filter (λ x. has_length n (chain_from w x)) (up_ids w)

-- the nodes that are up and whose true chain has at most n nodes, the longest chains first
abbrev pub deepest_first : ℕ → World → List ℕ
deepest_first zero w = []
deepest_first (suc n) w = with_chain_of (suc n) w ++ deepest_first n w

abbrev pub all_tell : World → Run
all_tell w = for_each (deepest_first (length w.processes) w) tells_all w

-- all steps of settle
abbrev pub settles : World → Run
settles w = and_then (first_five_steps w) all_tell
