use Rattle.std.specs.Prelude.{◌≡◌, true, Some, None, List, [], ◌∷◌}
use Rattle.oc_model.specs.declared.event.Act.TheVariants.{At, Deliver}
use Rattle.oc_model.specs.declared.event.Event.{Event}
use Rattle.oc_model.specs.declared.event.Event.TheVariants.{Up, Crash, Do, Show, Heal}
use Rattle.oc_model.specs.declared.input.Input.TheVariants.{Tick, Unreachable}
use Rattle.oc_model.specs.declared.message.Body.TheVariants.{Look, LookIs, Ask, Yes}
use Rattle.oc_model.specs.declared.mode.Mode.TheVariants.{Joined}
use Rattle.oc_model.specs.declared.word.Word.TheVariants.{Healed, Unready}
use Rattle.oc_model.specs.ExampleRuns.{told, header, from_to, alive, line, rank, root_shown, ok}

-- The second chain member takes over when the first fails, and gives way when it is back.

abbrev taking_over : List Event
taking_over =
    Up 1 ∷ Up 2 ∷ Do (At 1 (Tick 0)) ∷ Do (At 2 (Tick 0)) ∷ Do (Deliver 1) ∷ Do (Deliver 2) ∷ Crash 1 ∷ Do (At 2 (Unreachable 1)) ∷ Up 1
    ∷ Do (At 2 (Tick 40)) ∷ Do (Deliver 3) ∷ Do (Deliver 4) ∷ Do (Deliver 5) ∷ Do (Deliver 6) ∷ Show 1 ∷ Show 2 ∷ []

abbrev pub TakeoverAndReturn : Type 0
TakeoverAndReturn = told (header 2 2 (0 ∷ 0 ∷ [])) taking_over 7 2 (1 ∷ 2 ∷ []) ≡ record {
  words = ok ∷ ok ∷ ok ∷ ok ∷ ok ∷ ok ∷ ok ∷ ok ∷ ok ∷ [];
  sent =
      from_to 2 1 Look
      ∷ from_to 1 2 (LookIs true None 0 (record { id = 2; rate = 0 } ∷ []))
      ∷ from_to 2 1 (Ask 2 (Some (rank 3 0)))
      ∷ from_to 1 2 (Yes 2 (rank 4 0) [])
      ∷ [];
  messages = 6;
  shown =
      root_shown (rank 4 0) (alive 2 2 1 ∷ []) (line 2 1 ∷ [])
      ∷ record {
        up = true;
        mode = Joined 1;
        seq = 2;
        rank = Some (rank 4 1);
        acked = 0;
        length = 0;
        ancestors = 1 ∷ [];
        table = [];
        listed = [];
      }
      ∷ [];
}

-- Heal in a network of new nodes that are up.

abbrev three_up : List Event
three_up = Up 1 ∷ Up 2 ∷ Up 3 ∷ Heal ∷ Show 1 ∷ []

abbrev pub Healing : Type 0
Healing = told (header 3 1 (0 ∷ 0 ∷ 0 ∷ [])) three_up 0 26 (1 ∷ []) ≡ record {
  words = ok ∷ ok ∷ ok ∷ Healed 37 ∷ ok ∷ [];
  sent = [];
  messages = 26;
  shown = root_shown (rank 3 0) (alive 2 1 1 ∷ alive 3 1 1 ∷ []) (line 2 1 ∷ line 3 1 ∷ []) ∷ [];
}

-- Without a chain member that is up there is no tree to join.

abbrev pub HealWithoutAChainMember : Type 0
HealWithoutAChainMember = told (header 2 1 (0 ∷ 0 ∷ [])) (Up 2 ∷ Heal ∷ []) 0 0 [] ≡ record { words = ok ∷ Unready ∷ []; sent = []; messages = 0; shown = [] }
