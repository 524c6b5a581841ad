use Rattle.std.specs.Prelude.{◌≡◌, ℕ, Bool, true, false, Some, None, List, [], ◌∷◌, ◌++◌}
use Rattle.oc_base.specs.declared.cert.Cert.{Cert}
use Rattle.oc_base.specs.declared.refusal.Refusal.TheVariants as refusals
use Rattle.oc_model.specs.declared.event.Act.TheVariants.{At, Deliver}
use Rattle.oc_model.specs.declared.event.Event.{Event}
use Rattle.oc_model.specs.declared.event.Event.TheVariants.{Up, Do}
use Rattle.oc_model.specs.declared.answer.Answer.TheVariants.{Waiting}
use Rattle.oc_model.specs.declared.input.Input.TheVariants.{Tick, CheckNow, Unreachable, Measured}
use Rattle.oc_model.specs.declared.message.Body.TheVariants.{Look, LookIs, Ask, Yes, No, CheckIn, Fetch}
use Rattle.oc_model.specs.declared.place.Candidate.{Candidate}
use Rattle.oc_model.specs.declared.word.Word.TheVariants.{Node}
use Rattle.oc_model.specs.Choice.{chosen}
use Rattle.oc_model.specs.ExampleRuns.{told, header, join, from_to, alive, dead, rank, ok}
use Rattle.oc_model.specs.Table.{is_news, merge, merge_all}

-- A joining node descends to a child that is about as good as the direct way.

abbrev descending : List Event
descending =
    (Up 1 ∷ Up 2 ∷ Up 3 ∷ Do (At 1 (Tick 0)) ∷ []) ++ join 2 1 1
    ++ (Do (At 2 (Measured 1 100 3)) ∷ Do (At 2 CheckNow) ∷ Do (Deliver 3) ∷ Do (At 3 (Measured 1 100 4)) ∷ Do (At 3 (Measured 2 90 1)) ∷ Do (At 3 (Tick 0))
    ∷ Do (Deliver 5) ∷ Do (Deliver 6) ∷ Do (Deliver 7) ∷ Do (Deliver 8) ∷ Do (Deliver 9) ∷ Do (Deliver 10) ∷ [])

abbrev pub Descent : Type 0
Descent = told (header 3 1 (0 ∷ 0 ∷ 0 ∷ [])) descending 12 4 [] ≡ record {
  words = ok ∷ ok ∷ ok ∷ ok ∷ ok ∷ ok ∷ ok ∷ [];
  sent =
      from_to 3 1 Look
      ∷ from_to 1 3 (LookIs true None 0 (record { id = 2; rate = 100 } ∷ []))
      ∷ from_to 3 2 Look
      ∷ from_to 2 3 (LookIs true (Some 1) 100 [])
      ∷ from_to 3 2 (Ask 1 None)
      ∷ from_to 2 3 (Yes 1 (rank 1 1) (1 ∷ []))
      ∷ [];
  messages = 10;
  shown = [];
}

-- An idle node on a descent asks again at its check; with nobody left to be asked it begins anew four seconds later.

abbrev searching : List Event
searching =
    Up 1 ∷ Up 2 ∷ Do (At 2 (Tick 0)) ∷ Do (At 2 (Tick 17)) ∷ Do (At 2 (Tick 18)) ∷ Do (At 2 (Unreachable 1)) ∷ Do (At 2 (Tick 21)) ∷ Do (At 2 (Tick 22)) ∷ []

abbrev pub DescentGoesOn : Type 0
DescentGoesOn = told (header 2 1 (0 ∷ 0 ∷ [])) searching 2 0 [] ≡ record {
  words = ok ∷ ok ∷ ok ∷ Node Waiting ∷ ok ∷ ok ∷ [];
  sent = from_to 2 1 Look ∷ from_to 2 1 Look ∷ from_to 2 1 Look ∷ [];
  messages = 3;
  shown = [];
}

-- Two children of node 1: 3 is about as near to 2 as to 1, and reviews its place for the first time.

abbrev siblings : List Event
siblings =
    (Up 1 ∷ Up 2 ∷ Up 3 ∷ Do (At 1 (Tick 0)) ∷ []) ++ join 2 1 1 ++ join 3 1 3
    ++ (Do (At 2 (Measured 1 100 1)) ∷ Do (At 3 (Measured 1 100 1)) ∷ Do (At 3 (Measured 2 100 1)) ∷ Do (At 2 CheckNow) ∷ Do (Deliver 5) ∷ Do (At 3 (Tick 3))
    ∷ Do (Deliver 8) ∷ Do (Deliver 10) ∷ [])

-- The third review for the same place makes a node ask for it. Meanwhile the node keeps its rank, and the sibling takes a newer one,
-- which precedes the node's rank.

abbrev descending_later : List Event
descending_later =
    siblings
    ++ (Do (At 1 CheckNow) ∷ Do (At 2 CheckNow) ∷ Do (Deliver 11) ∷ Do (Deliver 12) ∷ Do (At 3 (Tick 23)) ∷ Do (Deliver 13) ∷ Do (Deliver 16) ∷ Do (Deliver 14)
    ∷ Do (Deliver 17) ∷ Do (At 3 (Tick 43)) ∷ Do (Deliver 19) ∷ Do (Deliver 21) ∷ Do (Deliver 22) ∷ Do (Deliver 23) ∷ [])

abbrev pub SiblingReview : Type 0
SiblingReview = told (header 3 1 (0 ∷ 0 ∷ 0 ∷ [])) descending_later 27 17 [] ≡ record {
  words = ok ∷ ok ∷ ok ∷ ok ∷ ok ∷ [];
  sent =
      from_to 3 1 (CheckIn 1 0 100 0 0 [])
      ∷ from_to 3 1 Look
      ∷ from_to 3 1 (Fetch [])
      ∷ from_to 1 3 (LookIs true None 0 (record { id = 2; rate = 100 } ∷ record { id = 3; rate = 100 } ∷ []))
      ∷ from_to 3 2 (Ask 2 (Some (rank 1 1)))
      ∷ from_to 2 3 (Yes 2 (rank 2 1) (1 ∷ []))
      ∷ [];
  messages = 23;
  shown = [];
}

-- A sibling whose rank is no newer refuses. The node reviews its place again at its next check in time, and not at the first
-- check after its return; and it has more patience there: the third review in a row does not make it leave.

abbrev refusing : List Event
refusing =
    siblings
    ++ (Do (At 3 (Tick 23)) ∷ Do (Deliver 12) ∷ Do (Deliver 14) ∷ Do (At 3 (Tick 43)) ∷ Do (Deliver 16) ∷ Do (Deliver 18) ∷ Do (Deliver 19) ∷ Do (Deliver 20)
    ∷ Do (Deliver 21) ∷ Do (Deliver 22) ∷ Do (At 3 (Tick 44)) ∷ Do (At 3 (Tick 64)) ∷ Do (Deliver 26) ∷ Do (Deliver 28) ∷ Do (At 3 (Tick 84)) ∷ Do (Deliver 30)
    ∷ Do (Deliver 32) ∷ Do (At 3 (Tick 104)) ∷ Do (Deliver 34) ∷ Do (Deliver 36) ∷ [])

abbrev pub RefusedReview : Type 0
RefusedReview = told (header 3 1 (0 ∷ 0 ∷ 0 ∷ [])) refusing 23 18 [] ≡ record {
  words = ok ∷ ok ∷ ok ∷ ok ∷ ok ∷ ok ∷ ok ∷ ok ∷ ok ∷ ok ∷ ok ∷ ok ∷ ok ∷ ok ∷ ok ∷ [];
  sent =
      from_to 3 2 (Ask 2 (Some (rank 1 1)))
      ∷ from_to 2 3 (No 2 refusals.Rank)
      ∷ from_to 3 1 (Ask 3 (Some (rank 1 1)))
      ∷ from_to 1 3 (Yes 3 (rank 1 0) [])
      ∷ from_to 3 1 (CheckIn 3 0 100 0 0 [])
      ∷ from_to 3 1 (Fetch [])
      ∷ from_to 3 1 (CheckIn 3 0 100 0 0 [])
      ∷ from_to 3 1 Look
      ∷ from_to 3 1 (Fetch [])
      ∷ from_to 1 3 (LookIs true None 0 (record { id = 2; rate = 100 } ∷ record { id = 3; rate = 0 } ∷ []))
      ∷ from_to 3 1 (CheckIn 3 0 100 0 0 [])
      ∷ from_to 3 1 Look
      ∷ from_to 3 1 (Fetch [])
      ∷ from_to 1 3 (LookIs true None 0 (record { id = 2; rate = 100 } ∷ record { id = 3; rate = 0 } ∷ []))
      ∷ from_to 3 1 (CheckIn 3 0 100 0 0 [])
      ∷ from_to 3 1 Look
      ∷ from_to 3 1 (Fetch [])
      ∷ from_to 1 3 (LookIs true None 0 (record { id = 2; rate = 100 } ∷ record { id = 3; rate = 0 } ∷ []))
      ∷ [];
  messages = 36;
  shown = [];
}

-- A node below a chain member stays there, however good its own way to that member's parent in the chain is.

abbrev beneath_the_chain : List Event
beneath_the_chain =
    (Up 1 ∷ Up 2 ∷ Up 3 ∷ Do (At 1 (Tick 0)) ∷ []) ++ join 2 1 1 ++ join 3 2 3
    ++ (Do (At 2 (Measured 1 10 1)) ∷ Do (At 3 (Measured 1 100 1)) ∷ Do (At 3 (Measured 2 100 1)) ∷ Do (At 3 (Tick 5)) ∷ Do (Deliver 6) ∷ Do (Deliver 8) ∷ [])

abbrev pub ChainReview : Type 0
ChainReview = told (header 3 2 (0 ∷ 0 ∷ 0 ∷ [])) beneath_the_chain 13 7 [] ≡ record {
  words = ok ∷ ok ∷ ok ∷ [];
  sent = from_to 2 3 (LookIs true (Some 1) 10 (record { id = 3; rate = 0 } ∷ [])) ∷ [];
  messages = 8;
  shown = [];
}

-- Of the suitable candidates, the one with the fewest hops is chosen, and of several the one with the least id.

abbrev candidate : ℕ → ℕ → ℕ → ℕ → Candidate
candidate id mine up hops = record { id = id; mine = mine; up = up; hops = hops }

abbrev pub ChooseAmong : Type 0
ChooseAmong = (chosen 100 (candidate 7 100 200 3 ∷ candidate 6 89 200 1 ∷ candidate 5 90 200 3 ∷ []) ≡ Some 5) × (chosen 100 [] ≡ None)

-- Certificates in any order: the one with the greater ask number stays.

-- whether each certificate, in this order, changes the table
abbrev news_of : List Cert → List Cert → List Bool
news_of t [] = []
news_of t (c ∷ cs) = is_news t c ∷ news_of (merge t c) cs

-- these certificates in this order: whether each changes the table, and the entry at the end
abbrev Race : List Cert → List Bool → Type 0
Race cs news = (news_of [] cs ≡ news) × (merge_all [] cs ≡ alive 4 2 3 ∷ [])

pub record CertificateRace : Type 0 where
  pub told : Race (alive 4 1 2 ∷ alive 4 2 3 ∷ dead 4 1 2 ∷ []) (true ∷ true ∷ false ∷ [])
  pub death_second : Race (alive 4 1 2 ∷ dead 4 1 2 ∷ alive 4 2 3 ∷ []) (true ∷ true ∷ true ∷ [])
  pub birth_second : Race (alive 4 2 3 ∷ alive 4 1 2 ∷ dead 4 1 2 ∷ []) (true ∷ false ∷ false ∷ [])
  pub birth_last : Race (alive 4 2 3 ∷ dead 4 1 2 ∷ alive 4 1 2 ∷ []) (true ∷ false ∷ false ∷ [])
  pub death_first : Race (dead 4 1 2 ∷ alive 4 1 2 ∷ alive 4 2 3 ∷ []) (true ∷ false ∷ true ∷ [])
  pub death_before : Race (dead 4 1 2 ∷ alive 4 2 3 ∷ alive 4 1 2 ∷ []) (true ∷ true ∷ false ∷ [])

-- Counts of clients: at one ask number and state the greater own number decides, and a death stays.

abbrev counted : Cert → ℕ → ℕ → Cert
counted c number clients = record c { number = number; clients = clients }

abbrev pub MergedCounts : Type 0
MergedCounts = news_of [] (alive 2 1 1 ∷ counted (alive 2 1 1) 1 4 ∷ dead 2 1 1 ∷ counted (alive 2 1 1) 2 5 ∷ []) ≡ true ∷ true ∷ true ∷ false ∷ []
