-- The bytes that are taken from a source for a message, and the answer to them.
use Rattle.std.specs.Prelude.{◌≡◌, ℕ, ◌<◌, ◌≤◌, ◌⊎◌, Option, Some, None, Result, Ok, Err, List, [], ◌++◌, length, ⊤}
use Rattle.httparse.specs.Grammar.{ReadsRequest, ReadsResponse}
use Rattle.oc_base.specs.declared.limits.TheConstants.{MAX_HEAD_BYTES, MAX_BODY_BYTES}
use Rattle.oc_http.specs.Requests.{read_request}
use Rattle.oc_http.specs.Responses.{read_reply_head, read_reply_start, body_length, IsLong, reply_of}
use Rattle.oc_http.specs.Unfinished.{IsUnfinished, IsHopeless}
use Rattle.oc_http.specs.declared.fault.HttpFault.{HttpFault}
use Rattle.oc_http.specs.declared.fault.HttpFault.TheVariants.{Source, Ended, Head as NoHead, HeadLong, BodyLong, Memory}
use Rattle.oc_http.specs.declared.head.Head.{Head}
use Rattle.oc_http.specs.declared.reply.Reply.{Reply}
use Rattle.oc_http.specs.declared.reply.ReplyHead.{ReplyHead}

-- the bytes that came from the old source to the new one; with the fault `Source` a call failed after them
abbrev pub Took : {S : Type 0} → (S → List ℕ → S → Type 0) → (S → List ℕ → S → Type 0) → S → List ℕ → S → HttpFault → Type 0
Took gives fails old bytes new Source = fails old bytes new
Took gives fails old bytes new fault = gives old bytes new

-- bytes that are a whole head with nothing after it, and the answer to it
pub record IsAnswered {H A : Type 0} (Reads : List ℕ → H → List ℕ → Type 0) (read : H → Result A HttpFault) (bytes : List ℕ) (answer : Result A HttpFault) : Type 0 where
  pub head : H
  pub whole : Reads bytes head []
  pub fits : length bytes ≤ MAX_HEAD_BYTES
  pub answer_is : read head ≡ answer

-- the fault that stopped reading before a whole head; `done` says that the source ended
abbrev pub StopsInHead : {H : Type 0} → (List ℕ → H → List ℕ → Type 0) → List ℕ → Type 0 → HttpFault → Type 0
StopsInHead Reads bytes done Source = IsUnfinished Reads bytes × (length bytes < MAX_HEAD_BYTES)
StopsInHead Reads bytes done Ended = IsUnfinished Reads bytes × (length bytes < MAX_HEAD_BYTES) × done
StopsInHead Reads bytes done NoHead = IsHopeless Reads bytes × (length bytes ≤ MAX_HEAD_BYTES)
StopsInHead Reads bytes done HeadLong = IsUnfinished Reads bytes × (length bytes ≡ MAX_HEAD_BYTES)
StopsInHead Reads bytes done Memory = ⊤
StopsInHead Reads bytes done fault = ⊥

-- the fault that stopped reading, or that a whole head has
abbrev pub RefusesHead : {H A : Type 0} → (List ℕ → H → List ℕ → Type 0) → (H → Result A HttpFault) → List ℕ → Type 0 → HttpFault → Type 0
RefusesHead Reads read bytes done Source = StopsInHead Reads bytes done Source
RefusesHead Reads read bytes done Ended = StopsInHead Reads bytes done Ended
RefusesHead Reads read bytes done NoHead = StopsInHead Reads bytes done NoHead
RefusesHead Reads read bytes done HeadLong = StopsInHead Reads bytes done HeadLong
RefusesHead Reads read bytes done Memory = ⊤
RefusesHead Reads read bytes done fault = IsAnswered Reads read bytes (Err fault)

-- bytes that are the head of a request, and its contents
abbrev pub SaysRequest : List ℕ → Head → Type 0
SaysRequest bytes head = IsAnswered ReadsRequest read_request bytes (Ok head)

-- bytes with which the reading of a request's head ended with a fault
abbrev pub RefusesRequest : List ℕ → Type 0 → HttpFault → Type 0
RefusesRequest = RefusesHead ReadsRequest read_request

-- bytes that are the head of a response, and its contents
abbrev pub SaysReplyHead : List ℕ → ReplyHead → Type 0
SaysReplyHead bytes head = IsAnswered ReadsResponse read_reply_head bytes (Ok head)

-- bytes with which the reading of a response's head ended with a fault
abbrev pub RefusesReplyHead : List ℕ → Type 0 → HttpFault → Type 0
RefusesReplyHead = RefusesHead ReadsResponse read_reply_head

-- bytes that are the head of a response, and its contents for a reader of whole messages
abbrev pub SaysReplyStart : List ℕ → ReplyHead → Type 0
SaysReplyStart bytes head = IsAnswered ReadsResponse read_reply_start bytes (Ok head)

-- bytes with which a reader of whole messages ended with a fault in the head of a response
abbrev pub RefusesReplyStart : List ℕ → Type 0 → HttpFault → Type 0
RefusesReplyStart = RefusesHead ReadsResponse read_reply_start

-- bytes with which the reading of a body of `count` bytes ended with a fault
abbrev pub RefusesBody : ℕ → List ℕ → Type 0 → HttpFault → Type 0
RefusesBody count bytes done Source = length bytes < count
RefusesBody count bytes done Ended = (length bytes < count) × done
RefusesBody count bytes done Memory = bytes ≡ []
RefusesBody count bytes done fault = ⊥

-- bytes with which the reading of a body ended with a fault, where a body without a length goes to the end of the source
abbrev pub RefusesContent : Option ℕ → List ℕ → Type 0 → HttpFault → Type 0
RefusesContent (Some count) bytes done fault = RefusesBody count bytes done fault
RefusesContent None bytes done Source = length bytes ≤ MAX_BODY_BYTES
RefusesContent None bytes done BodyLong = MAX_BODY_BYTES < length bytes
RefusesContent None bytes done Memory = length bytes ≤ MAX_BODY_BYTES
RefusesContent None bytes done fault = ⊥

-- bytes that are the head of a response, and the body after it, which together give this reply
pub record SaysReply (bytes body : List ℕ) (done : Type 0) (reply : Reply) : Type 0 where
  pub head : ReplyHead
  pub says : SaysReplyStart bytes head
  pub long : IsLong (body_length head) body
  pub whole : body_length head ≡ None → done
  pub reply_is : reply ≡ reply_of head body

-- bytes that are the head of a response, and the bytes after it with which the reading of the body ended with a fault
pub record StopsInBody (bytes body : List ℕ) (done : Type 0) (fault : HttpFault) : Type 0 where
  pub head : ReplyHead
  pub says : SaysReplyStart bytes head
  pub stops : RefusesContent (body_length head) body done fault

-- bytes with which the reading of a response ended with a fault, in its head or in its body
abbrev pub RefusesReply : List ℕ → Type 0 → HttpFault → Type 0
RefusesReply bytes done fault =
    RefusesReplyStart bytes done fault
    ⊎ ((head body : List ℕ) × (bytes ≡ head ++ body) × StopsInBody head body done fault)
