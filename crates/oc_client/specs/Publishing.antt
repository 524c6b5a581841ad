-- The effect of a publishing: the pieces it sends, their order, and its end.
use Rattle.std.specs.Prelude.{◌≡◌, ◌≢◌, ◌⊎◌, ℕ, ◌<◌, ◌≤◌, Bool, true, false, Option, List, [], ◌∷◌, ◌++◌, length, map, ⊤}
use Rattle.std.specs.List.{AllByRecursion}
use Rattle.oc_base.specs.declared.limits.TheConstants.{MAX_GROUP_BYTES}
use Rattle.oc_client.specs.Addresses.{IsAddressOf, IsBadAddress}
use Rattle.oc_client.specs.Efforts.{LeadsTo, finding, begun}
use Rattle.oc_client.specs.Places.{least_piece, sends_empty}
use Rattle.oc_client.specs.PutRequests.{Goal, bytes, nothing, seal}
use Rattle.oc_client.specs.PutTurns.{PutTurn, Makes}
use Rattle.oc_client.specs.declared.effort.Effort.{Effort}
use Rattle.oc_client.specs.declared.effort.Next.TheVariants.{Again, Settled, Ended}
use Rattle.oc_client.specs.declared.effort.Progress.{Progress}
use Rattle.oc_client.specs.declared.input.TheConstants.{PUT_PIECE_BYTES}
use Rattle.oc_client.specs.declared.load.Load.{Load}
use Rattle.oc_client.specs.declared.publication.Publication.{Publication}
use Rattle.oc_client.specs.declared.publication.WriteMode.{WriteMode}
use Rattle.oc_client.specs.declared.publication.WriteMode.TheVariants.{New, Append, Resume}
use Rattle.oc_client.specs.declared.put_end.PutEnd.{PutEnd}
use Rattle.oc_client.specs.declared.put_end.PutEnd.TheVariants as ends
use Rattle.oc_link.specs.Calls.{Told}
use Rattle.oc_link.specs.Story.{Story}
use Rattle.url.specs.Parts.{Parts}

-- Pieces

-- pieces, one after the other
abbrev pub joined : List (List ℕ) → List ℕ
joined [] = []
joined (piece ∷ pieces) = piece ++ joined pieces

-- a piece that others may follow: a full one, or in live mode the bytes of one read
abbrev pub IsPart : Bool → List ℕ → Type 0
IsPart live piece = (least_piece live ≤ length piece) × (length piece ≤ PUT_PIECE_BYTES)

-- pieces of which the last may be shorter; none is empty
abbrev pub AreSome : Bool → List (List ℕ) → Type 0
AreSome live [] = ⊤
AreSome live (piece ∷ []) = (0 < length piece) × (length piece ≤ PUT_PIECE_BYTES)
AreSome live (piece ∷ next ∷ pieces) = IsPart live piece × AreSome live (next ∷ pieces)

-- the pieces of an input: for an empty input one empty piece if it makes the group, otherwise none
abbrev pub AreCut : Publication → List (List ℕ) → Type 0
AreCut plan pieces =
    (AreSome plan.live pieces × ((sends_empty plan.place ≡ false) ⊎ (pieces ≢ []))) ⊎ ((pieces ≡ [] ∷ []) × (sends_empty plan.place ≡ true))

-- One after another

-- the loads are sent one after another, and each is taken
abbrev pub Sends : Progress → List Load → List PutTurn → Progress → Type 0
Sends progress [] turns reached = (turns ≡ []) × (reached ≡ progress)
Sends progress (load ∷ loads) turns reached =
    (progress.length ≤ MAX_GROUP_BYTES)
    × ((first : List PutTurn) × (rest : List PutTurn) × (next : Progress) × (turns ≡ first ++ rest)
    × LeadsTo load (begun progress load) first (Settled next) × Sends next loads rest reached)

-- the length that was found, and the part of the input that is skipped
abbrev pub Begins : WriteMode → ℕ → List ℕ → Type 0
Begins New length_found before = (length_found ≡ 0) × (before ≡ [])
Begins Append length_found before = before ≡ []
Begins Resume length_found before = length before ≡ length_found

-- the length was found, and these pieces were sent and taken
pub record HasSent (place : WriteMode) (pieces : List (List ℕ)) (turns : List PutTurn) (input : List ℕ) (reached : Progress) : Type 0 where
  pub found : Progress
  pub before : List ℕ
  pub asked : List PutTurn
  pub sent : List PutTurn
  pub finds : LeadsTo nothing finding asked (Settled found)
  pub begins : Begins place found.length before
  pub sends : Sends found (map bytes pieces) sent reached
  pub turns_are : turns ≡ asked ++ sent
  pub input_is : input ≡ before ++ joined pieces

-- the group is closed, where that is wanted
abbrev pub Seals : Bool → Progress → List PutTurn → Type 0
Seals false progress turns = turns ≡ []
Seals true progress turns = (reached : Progress) × Sends progress (seal ∷ []) turns reached

-- the whole input was sent and taken, each piece once
pub record IsDone (plan : Publication) (turns : List PutTurn) (input : List ℕ) : Type 0 where
  pub pieces : List (List ℕ)
  pub reached : Progress
  pub through : List PutTurn
  pub last : List PutTurn
  pub sent : HasSent plan.place pieces through input reached
  pub cut : AreCut plan pieces
  pub seals : Seals plan.seal reached last
  pub turns_are : turns ≡ through ++ last

-- The other ends

-- the end to which these turns led, or lack of memory after them
abbrev pub Ends : Load → Effort → List PutTurn → PutEnd → Type 0
Ends load effort turns end =
    LeadsTo load effort turns (Ended end)
    ⊎ ((end ≡ ends.Memory) × ((further : Effort) × LeadsTo load effort turns (Again further)))

-- nothing is sent, given a group of this length
abbrev pub DoesNotBegin : WriteMode → ℕ → List ℕ → Bool → PutEnd → Type 0
DoesNotBegin New length_found input over (ends.Length told) = (input ≡ []) × (0 < length_found) × (told ≡ length_found)
DoesNotBegin Resume length_found input over ends.Short = (length input < length_found) × (over ≡ true)
DoesNotBegin Resume length_found input over ends.Input = length input < length_found
DoesNotBegin place length_found input over end = ⊥

-- the length was found, and nothing is sent
pub record StopsBefore (place : WriteMode) (turns : List PutTurn) (input : List ℕ) (over : Bool) (end : PutEnd) : Type 0 where
  pub found : Progress
  pub finds : LeadsTo nothing finding turns (Settled found)
  pub why : DoesNotBegin place found.length input over end

-- the next piece does not come: a call on the input failed after some bytes, or memory ran out
abbrev pub IsMissing : List ℕ → PutEnd → Type 0
IsMissing part ends.Input = ⊤
IsMissing part ends.Memory = part ≡ []
IsMissing part end = ⊥

-- pieces were sent, and the next one does not come
pub record StopsBetween (plan : Publication) (turns : List PutTurn) (input : List ℕ) (end : PutEnd) : Type 0 where
  pub pieces : List (List ℕ)
  pub reached : Progress
  pub came : List ℕ
  pub part : List ℕ
  pub sent : HasSent plan.place pieces turns came reached
  pub parts : AllByRecursion (IsPart plan.live) pieces
  pub input_is : input ≡ came ++ part
  pub missing : IsMissing part end

-- the load after these pieces
abbrev pub IsNext : Publication → List (List ℕ) → Load → Type 0
IsNext plan pieces load =
    ((piece : List ℕ) × (load ≡ bytes piece) × AreCut plan (pieces ++ piece ∷ []))
    ⊎ ((load ≡ seal) × (plan.seal ≡ true) × AreCut plan pieces)

-- the group has no room for the load, or sending it led to an end
abbrev pub Refuses : Load → Progress → List PutTurn → PutEnd → Type 0
Refuses load progress turns end =
    ((MAX_GROUP_BYTES < progress.length) × (end ≡ ends.Length progress.length) × (turns ≡ []))
    ⊎ ((progress.length ≤ MAX_GROUP_BYTES) × Ends load (begun progress load) turns end)

-- pieces were sent, and the next one, or the seal, is not taken
pub record StopsAt (plan : Publication) (turns : List PutTurn) (input : List ℕ) (end : PutEnd) : Type 0 where
  pub pieces : List (List ℕ)
  pub reached : Progress
  pub came : List ℕ
  pub load : Load
  pub through : List PutTurn
  pub last : List PutTurn
  pub sent : HasSent plan.place pieces through came reached
  pub next : IsNext plan pieces load
  pub refuses : Refuses load reached last end
  pub turns_are : turns ≡ through ++ last
  pub input_is : input ≡ came ++ load.piece

-- a publishing that is not done
abbrev pub Stops : Publication → List PutTurn → List ℕ → Bool → PutEnd → Type 0
Stops plan turns input over end =
    (Ends nothing finding turns end × (input ≡ []))
    ⊎ StopsBefore plan.place turns input over end
    ⊎ StopsBetween plan turns input end
    ⊎ StopsAt plan turns input end

-- a publishing: its turns, the bytes read of the input, whether the input ended, and the end
abbrev pub Publishes : Publication → List PutTurn → List ℕ → Bool → PutEnd → Type 0
Publishes plan turns input over ends.Done = IsDone plan turns input × (over ≡ true)
Publishes plan turns input over end = Stops plan turns input over end

-- Publishings over a link and a source

-- the bytes that came from the input; with the end `Input` a call failed after them
abbrev pub Came : {S : Type 0} → (S → List ℕ → S → Type 0) → (S → List ℕ → S → Type 0) → S → List ℕ → S → PutEnd → Type 0
Came gives fails old bytes_came new ends.Input = fails old bytes_came new
Came gives fails old bytes_came new end = gives old bytes_came new

-- a publishing at a URL
pub record IsPublishedAt {S : Type 0} (gives fails : S → List ℕ → S → Type 0) (ended : S → Type 0) (plan : Publication) (goal : Goal) (old new : Option Story) (before after : S) (end : PutEnd) : Type 0 where
  pub turns : List PutTurn
  pub input : List ℕ
  pub over : Bool
  pub publishes : Publishes plan turns input over end
  pub made : Told (Makes goal turns) old new
  pub came : Came gives fails before input after end
  pub is_over : over ≡ true → ended after

-- the end of a publishing that makes no request
abbrev pub IsUnasked : List ℕ → PutEnd → Type 0
IsUnasked address ends.BadUrl = IsBadAddress address
IsUnasked address ends.Memory = ⊤
IsUnasked address end = ⊥

-- a publishing at an address, with this token, or nothing
abbrev pub IsPublished : {S : Type 0} → (S → List ℕ → S → Type 0) → (S → List ℕ → S → Type 0) → (S → Type 0) → Publication → List ℕ → Option (List ℕ) → Option Story → Option Story → S → S → PutEnd → Type 0
IsPublished gives fails ended plan address token old new before after end =
    (IsUnasked address end × (new ≡ old) × (after ≡ before))
    ⊎ ((url : Parts) × IsAddressOf address url × IsPublishedAt gives fails ended plan (record { url = url; token = token }) old new before after end)
