-- The message that the bytes of a request bring.
use Rattle.std.specs.Prelude.{◌≡◌, ℕ, ◌<◌, ◌⊎◌, Bool, true, false, ◌&&◌, ◌==◌, Option, Some, None, Result, Ok, Err, List, ◌++◌, length, ⊤}
use Rattle.std.specs.Global.{Vec}
use Rattle.std.specs.Str.{bytes_eq}
use Rattle.oc_http.specs.Answers.{IsDecided}
use Rattle.oc_http.specs.Answers as heads
use Rattle.oc_http.specs.declared.fault.HttpFault.{HttpFault}
use Rattle.oc_http.specs.declared.fault.HttpFault.TheVariants as http
use Rattle.oc_http.specs.declared.head.Head.{Head}
use Rattle.oc_http.specs.Paths.{message_path}
use Rattle.oc_http.specs.Requests.{is_post}
use Rattle.oc_model.specs.declared.message.Message.{Message}
use Rattle.oc_wire.specs.declared.fault.WireFault.{WireFault}
use Rattle.oc_wire.specs.declared.http_fault.HttpWireFault.{HttpWireFault}
use Rattle.oc_wire.specs.declared.http_fault.HttpWireFault.TheVariants as faults
use Rattle.oc_wire.specs.MessageReading.{decoded}

-- the path that decodes to these bytes
abbrev pub is_path : Option (List ℕ) → List ℕ → Bool
is_path None path = false
is_path (Some bytes) path = bytes_eq bytes path

-- a POST to `/!overcast` without a query
abbrev pub is_route : Head → Bool
is_route head = is_post head.method && is_path head.path message_path && length head.query == 0

-- bytes that begin with this head of a request and this body, which is as long as the head says
pub record IsRequest (bytes : List ℕ) (head : Head) (body : List ℕ) : Type 0 where
  pub behind : List ℕ
  pub reads : heads.AnswersRequest bytes behind (Ok head)
  pub rest : List ℕ
  pub whole : behind ≡ body ++ rest
  pub long : length body ≡ head.length

-- bytes that begin with no head of a request
pub record HasNoHead (bytes : List ℕ) : Type 0 where
  pub fault : HttpFault
  pub behind : List ℕ
  pub reads : heads.AnswersRequest bytes behind (Err fault)
  pub decided : IsDecided {A = Head} (Err fault)

-- bytes that begin with a head of a request and have fewer bytes after it than its body has
pub record IsCutOff (bytes : List ℕ) : Type 0 where
  pub head : Head
  pub behind : List ℕ
  pub reads : heads.AnswersRequest bytes behind (Ok head)
  pub short : length behind < head.length

-- the request that the bytes begin with, or the cause that they begin with none
abbrev pub IsRequestOrFault : List ℕ → Result (Head × Vec ℕ) HttpFault → Type 0
IsRequestOrFault bytes (Ok request) = IsRequest bytes request.0 request.1.items
IsRequestOrFault bytes (Err http.Memory) = ⊤
IsRequestOrFault bytes (Err fault) = HasNoHead bytes ⊎ IsCutOff bytes

-- bytes that begin with a request on the route of messages, whose body is read with this result
pub record Brings (nodes : ℕ) (bytes : List ℕ) (read : Result Message WireFault) : Type 0 where
  pub head : Head
  pub body : List ℕ
  pub request : IsRequest bytes head body
  pub route : is_route head ≡ true
  pub reads : decoded nodes body ≡ read

-- bytes that begin with a request on another route
pub record IsElsewhere (bytes : List ℕ) : Type 0 where
  pub head : Head
  pub body : List ℕ
  pub request : IsRequest bytes head body
  pub route : is_route head ≡ false

-- the answer to the bytes of a request
abbrev pub AnswersRequest : ℕ → List ℕ → Result Message HttpWireFault → Type 0
AnswersRequest nodes bytes (Ok message) = Brings nodes bytes (Ok message)
AnswersRequest nodes bytes (Err faults.NotHttp) = HasNoHead bytes ⊎ IsCutOff bytes
AnswersRequest nodes bytes (Err faults.Route) = IsElsewhere bytes
AnswersRequest nodes bytes (Err (faults.Wire fault)) = Brings nodes bytes (Err fault)
AnswersRequest nodes bytes (Err faults.Memory) = ⊤

-- an answer other than that memory ran out
abbrev pub HasMemory : Result Message HttpWireFault → Type 0
HasMemory (Err faults.Memory) = ⊥
HasMemory answer = ⊤

-- an answer that is this message, unless memory ran out
abbrev pub IsGiven : Result Message HttpWireFault → Message → Type 0
IsGiven (Err faults.Memory) message = ⊤
IsGiven answer message = answer ≡ Ok message
