-- The exchange between a client and a source: requests, each on a dial of its own, and the answers
-- made from the replies.
use Rattle.std.specs.Prelude.{◌≡◌, ◌⊎◌, ℕ, Bool, true, Result, Err, Option, None, List, [], ◌∷◌, ◌++◌, ⊤}
use Rattle.oc_client.specs.Addresses.{dial_address}
use Rattle.oc_client.specs.PutReplies.{Answers}
use Rattle.oc_client.specs.PutRequests.{Goal, PutRequest, request_text}
use Rattle.oc_client.specs.declared.answer.Failure.{Failure}
use Rattle.oc_client.specs.declared.answer.Failure.TheVariants.{Link}
use Rattle.oc_client.specs.declared.answer.PutAnswer.{PutAnswer}
use Rattle.oc_link.specs.Calls.{IsFront, Told}
use Rattle.oc_link.specs.Story.{Dial, Story, dials, hung_up}

pub record PutTurn : Type 0 where
  pub request : PutRequest
  -- the bytes read
  pub reply : List ℕ
  -- whether the connection was seen to end after it
  pub over : Bool
  pub answer : Result PutAnswer Failure

-- a dial on which all of a request was written, and this was read
pub record IsWhole (address text reply : List ℕ) (over : Bool) (dial : Dial) : Type 0 where
  pub address_is : dial.address ≡ address
  pub written_is : dial.connection.written ≡ text
  pub read_is : dial.connection.read ≡ reply
  pub ends : over ≡ true → dial.connection.left ≡ []

-- a dial on which a call failed, so that perhaps only a part of the request was written
pub record IsCut (address text : List ℕ) (dial : Dial) : Type 0 where
  pub address_front : IsFront dial.address address
  pub written_front : IsFront dial.connection.written text

-- the request, the reply and the answer of a dial
abbrev pub Tells : List ℕ → List ℕ → List ℕ → Bool → Result PutAnswer Failure → Dial → Type 0
Tells address text reply over (Err Link) dial = IsCut address text dial
Tells address text reply over answer dial = IsWhole address text reply over dial

-- one dial was made and ended, and nothing else happened
pub record DialsOnce (address text reply : List ℕ) (over : Bool) (answer : Result PutAnswer Failure) (old new : Story) : Type 0 where
  pub dial : Dial
  pub tells : Tells address text reply over answer dial
  pub new_is : new ≡ record (hung_up old) { ended = dials old ++ dial ∷ [] }

-- one dial was made, and this answer was made from the bytes that came
pub record IsDialled (address text : List ℕ) (asks : Bool) (old new : Option Story) (answer : Result PutAnswer Failure) : Type 0 where
  pub reply : List ℕ
  pub over : Bool
  pub answers : Answers asks reply over answer
  pub told : Told (DialsOnce address text reply over answer) old new

-- dials tell of turns, one by one
abbrev pub AreTold : Goal → List PutTurn → List Dial → Type 0
AreTold goal [] [] = ⊤
AreTold goal [] (dial ∷ dials) = ⊥
AreTold goal (turn ∷ turns) [] = ⊥
AreTold goal (turn ∷ turns) (dial ∷ dials) =
    Tells (dial_address goal.url) (request_text goal turn.request) turn.reply turn.over turn.answer dial × AreTold goal turns dials

-- a link made the dials of these turns, and no others, and left no connection open
pub record Makes (goal : Goal) (turns : List PutTurn) (old new : Story) : Type 0 where
  pub made : List Dial
  pub told : AreTold goal turns made
  pub dials_are : dials new ≡ dials old ++ made
  pub hung : (new ≡ old) ⊎ (new.outgoing ≡ None)
