-- The steps of a publishing over a link and an input.
use Rattle.std.specs.Prelude.{◌≡◌, ◌⊎◌, ℕ, Bool, true, Option, Result, Ok, Err, List, [], ◌∷◌, ◌++◌, map}
use Rattle.std.specs.List.{AllByRecursion}
use Rattle.oc_link.specs.Calls.{Told}
use Rattle.oc_link.specs.Story.{Story}
use Rattle.oc_client.specs.Publishing.{joined, IsPart, AreCut, Sends, Begins, Seals, DoesNotBegin, IsMissing, Refuses, Came}
use Rattle.oc_client.specs.PutRequests.{Goal, bytes, seal}
use Rattle.oc_client.specs.PutTurns.{PutTurn, Makes}
use Rattle.oc_client.specs.declared.effort.Progress.{Progress}
use Rattle.oc_client.specs.declared.put_end.PutEnd.{PutEnd}
use Rattle.oc_client.specs.declared.load.Load.{Load}
use Rattle.oc_client.specs.declared.publication.Publication.{Publication}
use Rattle.oc_client.specs.declared.publication.WriteMode.{WriteMode}

-- the load was sent and taken
pub record IsSent (goal : Goal) (load : Load) (progress : Progress) (old new : Option Story) (reached : Progress) : Type 0 where
  pub turns : List PutTurn
  pub sends : Sends progress (load ∷ []) turns reached
  pub made : Told (Makes goal turns) old new

-- the load was sent and refused
pub record IsRefused (goal : Goal) (load : Load) (progress : Progress) (old new : Option Story) (end : PutEnd) : Type 0 where
  pub turns : List PutTurn
  pub refuses : Refuses load progress turns end
  pub made : Told (Makes goal turns) old new

-- the place is reached
pub record IsAtPlace {S : Type 0} (gives : S → List ℕ → S → Type 0) (place : WriteMode) (length : ℕ) (old new : S) : Type 0 where
  pub before : List ℕ
  pub came : gives old before new
  pub begins : Begins place length before

-- the place is not reached, and the publishing ends
pub record IsOffPlace {S : Type 0} (gives fails : S → List ℕ → S → Type 0) (ended : S → Type 0) (place : WriteMode) (length : ℕ) (old new : S) (end : PutEnd) : Type 0 where
  pub input : List ℕ
  pub over : Bool
  pub came : Came gives fails old input new end
  pub is_over : over ≡ true → ended new
  pub why : DoesNotBegin place length input over end

abbrev pub IsPlaced : {S : Type 0} → (S → List ℕ → S → Type 0) → (S → List ℕ → S → Type 0) → (S → Type 0) → WriteMode → ℕ → S → S → Result (Unit {0}) PutEnd → Type 0
IsPlaced gives fails ended place length old new (Ok done) = IsAtPlace gives place length old new
IsPlaced gives fails ended place length old new (Err end) = IsOffPlace gives fails ended place length old new end

-- an input of which these pieces were read and taken, each of which others may follow
pub record HasCarried {S : Type 0} (gives : S → List ℕ → S → Type 0) (plan : Publication) (goal : Goal) (found : Progress) (old new : Option Story) (before after : S) (reached : Progress) (pieces : List (List ℕ)) : Type 0 where
  pub turns : List PutTurn
  pub sends : Sends found (map bytes pieces) turns reached
  pub parts : AllByRecursion (IsPart plan.live) pieces
  pub made : Told (Makes goal turns) old new
  pub came : gives before (joined pieces) after

-- an input that was read to its end and taken whole
pub record IsCarried {S : Type 0} (gives : S → List ℕ → S → Type 0) (ended : S → Type 0) (plan : Publication) (goal : Goal) (found : Progress) (old new : Option Story) (before after : S) (reached : Progress) : Type 0 where
  pub pieces : List (List ℕ)
  pub turns : List PutTurn
  pub sends : Sends found (map bytes pieces) turns reached
  pub cut : AreCut plan pieces
  pub made : Told (Makes goal turns) old new
  pub came : gives before (joined pieces) after
  pub over : ended after

-- the input broke off after these pieces
pub record IsCutBetween {S : Type 0} (gives fails : S → List ℕ → S → Type 0) (plan : Publication) (goal : Goal) (found : Progress) (old new : Option Story) (before after : S) (end : PutEnd) : Type 0 where
  pub pieces : List (List ℕ)
  pub reached : Progress
  pub turns : List PutTurn
  pub part : List ℕ
  pub sends : Sends found (map bytes pieces) turns reached
  pub parts : AllByRecursion (IsPart plan.live) pieces
  pub made : Told (Makes goal turns) old new
  pub came : Came gives fails before (joined pieces ++ part) after end
  pub missing : IsMissing part end

-- the next piece after these was read, and refused
pub record IsRefusedAt {S : Type 0} (gives : S → List ℕ → S → Type 0) (plan : Publication) (goal : Goal) (found : Progress) (old new : Option Story) (before after : S) (end : PutEnd) : Type 0 where
  pub pieces : List (List ℕ)
  pub reached : Progress
  pub piece : List ℕ
  pub turns : List PutTurn
  pub last : List PutTurn
  pub sends : Sends found (map bytes pieces) turns reached
  pub cut : AreCut plan (pieces ++ piece ∷ [])
  pub refuses : Refuses (bytes piece) reached last end
  pub made : Told (Makes goal (turns ++ last)) old new
  pub came : gives before (joined pieces ++ piece) after

abbrev pub IsCarryStopped : {S : Type 0} → (S → List ℕ → S → Type 0) → (S → List ℕ → S → Type 0) → Publication → Goal → Progress → Option Story → Option Story → S → S → PutEnd → Type 0
IsCarryStopped gives fails plan goal found old new before after end =
    IsCutBetween gives fails plan goal found old new before after end
    ⊎ IsRefusedAt gives plan goal found old new before after end

-- the group is closed, where that is wanted
pub record IsSealed (goal : Goal) (wanted : Bool) (reached : Progress) (old new : Option Story) : Type 0 where
  pub turns : List PutTurn
  pub seals : Seals wanted reached turns
  pub made : Told (Makes goal turns) old new

-- the group is to be closed, and the closing fails
pub record IsSealStopped (goal : Goal) (seals : Bool) (reached : Progress) (old new : Option Story) (end : PutEnd) : Type 0 where
  pub wanted : seals ≡ true
  pub refused : IsRefused goal seal reached old new end
