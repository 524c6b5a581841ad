use Rattle.std.specs.Prelude.{◌≡◌, true, false, Some, None, List, [], ◌∷◌, ◌++◌}
use Rattle.oc_base.specs.declared.refusal.Refusal.TheVariants as refusals
use Rattle.oc_model.specs.declared.event.Act.TheVariants.{At, Deliver}
use Rattle.oc_model.specs.declared.event.Event.{Event}
use Rattle.oc_model.specs.declared.event.Event.TheVariants.{Up, Do, Settle}
use Rattle.oc_model.specs.declared.input.Input.TheVariants.{Tick, CheckNow, Relocate}
use Rattle.oc_model.specs.declared.message.Body.TheVariants.{Ask, Yes, No}
use Rattle.oc_model.specs.declared.word.Word.TheVariants.{Settled}
use Rattle.oc_model.specs.Chains.{true_line}
use Rattle.oc_model.specs.ClaimsTree.{table_of}
use Rattle.oc_model.specs.NextWorld.{next_world, world_after}
use Rattle.oc_model.specs.Ready.{is_settled}
use Rattle.oc_model.specs.Table.{table_line}
use Rattle.oc_model.specs.World.{World, new_world}
use Rattle.oc_model.specs.ExampleRuns.{told, header, join, from_to, alive, line, rank, root_shown, ok}

-- Two siblings move beneath each other at the same time: neither is in the tree when the other's ask arrives.

abbrev crossing : List Event
crossing =
    (Up 1 ∷ Up 2 ∷ Up 3 ∷ Do (At 1 (Tick 0)) ∷ []) ++ join 2 1 1 ++ join 3 1 3
    ++ (Do (At 2 (Relocate 3)) ∷ Do (At 3 (Relocate 2)) ∷ Do (Deliver 5) ∷ Do (Deliver 6) ∷ [])

abbrev pub CrossingMoves : Type 0
CrossingMoves = told (header 3 1 (0 ∷ 0 ∷ 0 ∷ [])) crossing 10 4 [] ≡ record {
  words = ok ∷ ok ∷ ok ∷ ok ∷ [];
  sent =
      from_to 2 3 (Ask 2 (Some (rank 1 1)))
      ∷ from_to 3 2 (Ask 2 (Some (rank 1 1)))
      ∷ from_to 3 2 (No 2 refusals.NotJoined)
      ∷ from_to 2 3 (No 2 refusals.NotJoined)
      ∷ [];
  messages = 8;
  shown = [];
}

-- An ancestor list out of date: node 4 does not know that 2 is above it, and its rank refuses the ask.

abbrev four_in_line : List Event
four_in_line =
    (Up 1 ∷ Up 2 ∷ Up 3 ∷ Up 4 ∷ Do (At 1 (Tick 0)) ∷ []) ++ join 2 1 1 ++ join 3 1 3 ++ join 4 3 5
    ++ (Do (At 1 CheckNow) ∷ Do (At 2 CheckNow) ∷ Do (Deliver 7) ∷ Do (Deliver 8) ∷ [])

abbrev stale : List Event
stale =
    four_in_line ++ join 3 2 9
    ++ (Do (At 2 (Relocate 4)) ∷ Do (Deliver 11) ∷ Do (Deliver 12) ∷ Do (Deliver 13) ∷ Do (Deliver 14) ∷ [])

abbrev stale_world : World
stale_world = world_after (new_world (header 4 1 (0 ∷ 0 ∷ 0 ∷ 0 ∷ []))) stale

-- before the network settles: the root's line of 3 is wrong, and its line of 4 is missing
abbrev pub StaleAncestors : Type 0
StaleAncestors = told (header 4 1 (0 ∷ 0 ∷ 0 ∷ 0 ∷ [])) stale 21 10 (1 ∷ []) ≡ record {
  words = ok ∷ ok ∷ ok ∷ ok ∷ ok ∷ [];
  sent =
      from_to 2 4 (Ask 2 (Some (rank 2 1)))
      ∷ from_to 4 2 (No 2 refusals.Rank)
      ∷ from_to 2 1 (Ask 3 (Some (rank 2 1)))
      ∷ from_to 1 2 (Yes 3 (rank 2 0) [])
      ∷ [];
  messages = 14;
  shown = root_shown (rank 2 0) (alive 2 3 1 ∷ alive 3 1 1 ∷ []) (line 2 1 ∷ line 3 1 ∷ []) ∷ [];
}

-- after the network settled: the root's table is the tree
abbrev pub StaleAncestorsSettled : Type 0
StaleAncestorsSettled = told (header 4 1 (0 ∷ 0 ∷ 0 ∷ 0 ∷ [])) (stale ++ Settle ∷ []) 26 41 (1 ∷ []) ≡ record {
  words = Settled 30 ∷ [];
  sent = [];
  messages = 41;
  shown = root_shown (rank 3 0) (alive 2 3 1 ∷ alive 3 2 2 ∷ alive 4 1 3 ∷ []) (line 2 1 ∷ line 3 2 ∷ line 4 3 ∷ []) ∷ [];
}

-- the root's lines of 3 and 4 before: 3 has the parent that it left, and 4 has none
abbrev pub StaleLines : Type 0
StaleLines =
    (table_line (table_of stale_world 1) 1 3 ≡ Some 1) × (true_line stale_world 1 3 ≡ Some 2)
    × (table_line (table_of stale_world 1) 1 4 ≡ None) × (true_line stale_world 1 4 ≡ Some 3)

-- the network is not settled before, and is settled after
abbrev pub StaleSettles : Type 0
StaleSettles = (is_settled stale_world ≡ false) × (is_settled (next_world stale_world Settle) ≡ true)

-- The reverse: 2 asks 3, which is in the tree, but whose rank does not precede that of 2.

abbrev reverse_moves : List Event
reverse_moves = four_in_line ++ (Do (At 2 (Relocate 3)) ∷ Do (Deliver 9) ∷ [])

abbrev pub ReverseMove : Type 0
ReverseMove = told (header 4 1 (0 ∷ 0 ∷ 0 ∷ 0 ∷ [])) reverse_moves 18 8 [] ≡ record {
  words = ok ∷ ok ∷ [];
  sent = from_to 2 3 (Ask 2 (Some (rank 2 1))) ∷ from_to 3 2 (No 2 refusals.Rank) ∷ [];
  messages = 10;
  shown = [];
}
