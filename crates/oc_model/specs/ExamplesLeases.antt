use Rattle.std.specs.Prelude.{◌≡◌, true, Some, List, [], ◌∷◌, ◌++◌}
use Rattle.oc_model.specs.declared.event.Act.TheVariants.{At, Deliver}
use Rattle.oc_model.specs.declared.event.Event.{Event}
use Rattle.oc_model.specs.declared.event.Event.TheVariants.{Up, Crash, Do, Show, Settle}
use Rattle.oc_model.specs.declared.input.Input.TheVariants.{Tick, CheckNow, Unreachable}
use Rattle.oc_model.specs.declared.message.Body.TheVariants.{Ask, Yes, CheckIn, CheckAck, Rejoin, Fetch}
use Rattle.oc_model.specs.declared.mode.Mode.TheVariants.{Joined}
use Rattle.oc_model.specs.declared.word.Word.TheVariants.{Settled}
use Rattle.oc_model.specs.ExampleRuns.{told, header, join, from_to, alive, dead, line, rank, root_shown, ok}

-- A lease ends while the child is up: the parent answers its check-in by `Rejoin`, and the child asks anew.

abbrev ending : List Event
ending =
    (Up 1 ∷ Up 2 ∷ Do (At 1 (Tick 0)) ∷ []) ++ join 2 1 1
    ++ (Do (At 1 (Tick 30)) ∷ Do (At 2 CheckNow) ∷ Do (Deliver 3) ∷ Do (Deliver 4) ∷ Do (Deliver 5) ∷ Do (Deliver 6) ∷ Show 1 ∷ [])

abbrev pub FalseDeath : Type 0
FalseDeath = told (header 2 1 (0 ∷ 0 ∷ [])) ending 6 2 (1 ∷ []) ≡ record {
  words = ok ∷ ok ∷ ok ∷ ok ∷ ok ∷ ok ∷ ok ∷ [];
  sent =
      from_to 2 1 (CheckIn 1 0 0 0 0 [])
      ∷ from_to 1 2 (Rejoin 1)
      ∷ from_to 2 1 (Ask 2 (Some (rank 1 1)))
      ∷ from_to 1 2 (Yes 2 (rank 2 0) [])
      ∷ [];
  messages = 6;
  shown = root_shown (rank 2 0) (alive 2 2 1 ∷ []) (line 2 1 ∷ []) ∷ [];
}

-- A check-in arrives twice: the second time its certificate changes nothing, and the log does not grow.

abbrev twice : List Event
twice =
    (Up 1 ∷ Up 2 ∷ Up 3 ∷ Up 4 ∷ Do (At 1 (Tick 0)) ∷ []) ++ join 2 1 1 ++ join 3 2 3 ++ join 4 3 5
    ++ (Do (At 3 CheckNow) ∷ Do (Deliver 7) ∷ Do (Deliver 7) ∷ Show 2 ∷ [])

abbrev pub Quash : Type 0
Quash = told (header 4 1 (0 ∷ 0 ∷ 0 ∷ 0 ∷ [])) twice 14 6 (2 ∷ []) ≡ record {
  words = ok ∷ ok ∷ ok ∷ ok ∷ [];
  sent =
      from_to 3 2 (CheckIn 1 1 0 0 0 (alive 4 1 3 ∷ []))
      ∷ from_to 2 3 (CheckAck 1 1 (rank 1 1) (1 ∷ []))
      ∷ from_to 2 3 (CheckAck 1 1 (rank 1 1) (1 ∷ []))
      ∷ [];
  messages = 9;
  shown = record {
    up = true;
    mode = Joined 1;
    seq = 1;
    rank = Some (rank 1 1);
    acked = 0;
    length = 2;
    ancestors = 1 ∷ [];
    table = alive 3 1 2 ∷ alive 4 1 3 ∷ [];
    listed = line 3 2 ∷ line 4 3 ∷ [];
  } ∷ [];
}

-- A parent with three children fails: the children join their grandparent.

abbrev failing : List Event
failing =
    (Up 1 ∷ Up 2 ∷ Up 3 ∷ Up 4 ∷ Up 5 ∷ Do (At 1 (Tick 0)) ∷ []) ++ join 2 1 1 ++ join 3 2 3 ++ join 4 2 5 ++ join 5 2 7
    ++ (Crash 2 ∷ Do (At 3 (Unreachable 2)) ∷ Do (At 4 (Unreachable 2)) ∷ Do (At 5 (Unreachable 2)) ∷ Do (Deliver 9) ∷ Do (Deliver 10) ∷ Do (Deliver 11)
    ∷ Do (Deliver 12) ∷ Do (Deliver 13) ∷ Do (Deliver 14) ∷ Settle ∷ Show 1 ∷ [])

abbrev pub FailedParent : Type 0
FailedParent = told (header 5 1 (0 ∷ 0 ∷ 0 ∷ 0 ∷ 0 ∷ [])) failing 28 41 (1 ∷ []) ≡ record {
  words = Settled 30 ∷ ok ∷ [];
  sent = [];
  messages = 41;
  shown = root_shown (rank 2 0) (dead 2 1 1 ∷ alive 3 2 1 ∷ alive 4 2 1 ∷ alive 5 2 1 ∷ []) (line 3 1 ∷ line 4 1 ∷ line 5 1 ∷ []) ∷ [];
}

-- A certificate that waits goes up two seconds after the last check-in, and not before.

abbrev telling : List Event
telling =
    (Up 1 ∷ Up 2 ∷ Up 3 ∷ Do (At 1 (Tick 0)) ∷ []) ++ join 2 1 1
    ++ (Do (At 2 (Tick 0)) ∷ Do (Deliver 3) ∷ Do (Deliver 6) ∷ []) ++ join 3 2 7
    ++ (Do (At 2 (Tick 1)) ∷ Do (At 2 (Tick 2)) ∷ Do (Deliver 10) ∷ Do (Deliver 12) ∷ Do (At 2 (Tick 4)) ∷ [])

abbrev pub EarlyCheckIn : Type 0
EarlyCheckIn = told (header 3 1 (0 ∷ 0 ∷ 0 ∷ [])) telling 13 8 [] ≡ record {
  words = ok ∷ ok ∷ ok ∷ ok ∷ ok ∷ [];
  sent =
      from_to 2 1 (Fetch [])
      ∷ from_to 2 1 (CheckIn 1 1 0 0 0 (alive 3 1 2 ∷ []))
      ∷ from_to 2 1 (Fetch [])
      ∷ from_to 1 2 (CheckAck 1 1 (rank 1 0) [])
      ∷ from_to 2 1 (Fetch [])
      ∷ [];
  messages = 13;
  shown = [];
}
