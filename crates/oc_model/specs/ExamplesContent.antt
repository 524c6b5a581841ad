use Rattle.std.specs.Prelude.{◌≡◌, true, false, List, [], ◌∷◌, ◌++◌, codes}
use Rattle.oc_model.specs.declared.answer.Answer.TheVariants as answers
use Rattle.oc_model.specs.declared.event.Act.TheVariants.{At, Deliver}
use Rattle.oc_model.specs.declared.event.Event.{Event}
use Rattle.oc_model.specs.declared.event.Event.TheVariants.{Up, Stop, Do, Show, Held}
use Rattle.oc_model.specs.declared.input.Input.TheVariants.{Tick, CheckNow, Pull, Publish, Seal, Client}
use Rattle.oc_model.specs.declared.message.Body.TheVariants.{Fetch, Chunk, CheckIn, CheckAck}
use Rattle.oc_model.specs.declared.word.Word.TheVariants.{Node, Down, NoMessage, StoppedOld, StoppedNew}
use Rattle.oc_model.specs.declared.word.Word.TheVariants as words
use Rattle.oc_model.specs.ExampleRuns.{told, held, header, join, from_to, alive, line, rank, root_shown, ok}

-- Two nodes, one publish, one fetch, one chunk.

abbrev first_path : List Event
first_path =
    Up 1 ∷ Up 2 ∷ Do (At 1 (Publish (codes "/a") (codes "hello"))) ∷ Do (At 2 (Pull 1)) ∷ Do (Deliver 1) ∷ Do (Deliver 2) ∷ Held 2 ∷ []

abbrev pub FirstPath : Type 0
FirstPath = told (header 2 1 (0 ∷ 0 ∷ [])) first_path 0 0 [] ≡ record {
  words = ok ∷ ok ∷ ok ∷ ok ∷ ok ∷ ok ∷ ok ∷ [];
  sent = from_to 2 1 (Fetch []) ∷ from_to 1 2 (Chunk (codes "/a") 0 (codes "hello") false) ∷ [];
  messages = 2;
  shown = [];
}

abbrev pub FirstPathHeld : Type 0
FirstPathHeld = held (header 2 1 (0 ∷ 0 ∷ [])) first_path 2 ≡ record { group = codes "/a"; held = 5; sealed = false } ∷ []

-- A group is sealed, fetched in full, and acknowledged with its seal.

abbrev sealing : List Event
sealing =
    Up 1 ∷ Up 2 ∷ Do (At 1 (Publish (codes "/a") (codes "hi"))) ∷ Do (At 1 (Seal (codes "/a"))) ∷ Do (At 1 (Publish (codes "/a") (codes "!")))
    ∷ Do (At 2 (Pull 1)) ∷ Do (Deliver 1) ∷ Do (Deliver 2) ∷ Held 2 ∷ Do (At 2 (Pull 1)) ∷ Do (Deliver 3) ∷ []

abbrev pub SealedGroup : Type 0
SealedGroup = told (header 2 1 (0 ∷ 0 ∷ [])) sealing 0 0 [] ≡ record {
  words = ok ∷ ok ∷ ok ∷ ok ∷ Node answers.Sealed ∷ ok ∷ ok ∷ ok ∷ ok ∷ ok ∷ ok ∷ [];
  sent =
      from_to 2 1 (Fetch [])
      ∷ from_to 1 2 (Chunk (codes "/a") 0 (codes "hi") true)
      ∷ from_to 2 1 (Fetch (record { group = codes "/a"; held = 2; sealed = true } ∷ []))
      ∷ [];
  messages = 3;
  shown = [];
}

abbrev pub SealedGroupHeld : Type 0
SealedGroupHeld = held (header 2 1 (0 ∷ 0 ∷ [])) sealing 2 ≡ record { group = codes "/a"; held = 2; sealed = true } ∷ []

-- A node serves a client, and counts that client in its next check-in.

abbrev serving : List Event
serving =
    (Up 1 ∷ Up 2 ∷ Do (At 1 (Tick 0)) ∷ []) ++ join 2 1 1
    ++ (Do (At 1 (Publish (codes "/a") [])) ∷ Do (At 2 (Pull 1)) ∷ Do (Deliver 3) ∷ Do (Deliver 4) ∷ Do (At 2 (Client 0 0 (codes "/a")))
    ∷ Do (At 2 CheckNow) ∷ Do (Deliver 6) ∷ Show 1 ∷ [])

abbrev pub ServedCounts : Type 0
ServedCounts = told (header 2 1 (0 ∷ 0 ∷ [])) serving 9 4 (1 ∷ []) ≡ record {
  words = ok ∷ Node (answers.Serve 0) ∷ ok ∷ ok ∷ ok ∷ [];
  sent =
      from_to 2 1 (Fetch (record { group = codes "/a"; held = 0; sealed = false } ∷ []))
      ∷ from_to 2 1 (CheckIn 1 0 0 1 1 [])
      ∷ from_to 1 2 (CheckAck 1 0 (rank 1 0) [])
      ∷ [];
  messages = 7;
  shown = root_shown (rank 1 0) (record (alive 2 1 1) { number = 1; clients = 1 } ∷ []) (line 2 1 ∷ []) ∷ [];
}

-- Stops within a write: a gate byte of 1 opens the frame, and any other byte leaves the frame closed.

abbrev tearing : List Event
tearing =
    Up 1 ∷ Stop 3 1 (At 1 (Publish (codes "/a") (codes "a"))) ∷ Up 1 ∷ Held 1 ∷ Stop 3 0 (At 1 (Publish (codes "/a") (codes "b"))) ∷ Up 1
    ∷ Held 1 ∷ Stop 3 7 (At 1 (Publish (codes "/a") (codes "b"))) ∷ Up 1 ∷ Held 1 ∷ []

abbrev pub TornGate : Type 0
TornGate = told (header 1 1 (0 ∷ [])) tearing 0 0 [] ≡ record {
  words = ok ∷ StoppedNew ∷ ok ∷ ok ∷ StoppedOld ∷ ok ∷ ok ∷ StoppedOld ∷ ok ∷ ok ∷ [];
  sent = [];
  messages = 0;
  shown = [];
}

abbrev pub TornGateHeld : Type 0
TornGateHeld = held (header 1 1 (0 ∷ [])) tearing 1 ≡ record { group = codes "/a"; held = 1; sealed = false } ∷ []

-- A node that is up does not start again, a node that is down takes no input, and a message that was never sent does not arrive.

abbrev pub DownAndUnknown : Type 0
DownAndUnknown = told (header 2 1 (0 ∷ 0 ∷ [])) (Up 1 ∷ Up 1 ∷ Do (At 2 (Tick 0)) ∷ Do (Deliver 9) ∷ []) 0 0 [] ≡ record {
  words = ok ∷ words.Up ∷ Down ∷ NoMessage ∷ [];
  sent = [];
  messages = 0;
  shown = [];
}

-- Only node 1 publishes; a publish of no bytes makes an empty group.

abbrev elsewhere : List Event
elsewhere = Up 1 ∷ Up 2 ∷ Do (At 1 (Publish (codes "/a") [])) ∷ Do (At 2 (Publish (codes "/a") (codes "a"))) ∷ Held 1 ∷ []

abbrev pub PublishElsewhere : Type 0
PublishElsewhere = told (header 2 1 (0 ∷ 0 ∷ [])) elsewhere 0 0 [] ≡ record {
  words = ok ∷ ok ∷ ok ∷ Node answers.NotSource ∷ ok ∷ [];
  sent = [];
  messages = 0;
  shown = [];
}

abbrev pub PublishElsewhereHeld : Type 0
PublishElsewhereHeld = held (header 2 1 (0 ∷ 0 ∷ [])) elsewhere 1 ≡ record { group = codes "/a"; held = 0; sealed = false } ∷ []
