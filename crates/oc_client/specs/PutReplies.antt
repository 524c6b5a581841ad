-- The answer in a reply to a client that publishes.
use Rattle.std.specs.Prelude.{◌≡◌, ◌⊎◌, ℕ, Bool, true, false, ◌==◌, if◌then◌else◌, Option, Some, None, Result, Ok, Err, List, ◌++◌, ⊤}
use Rattle.oc_client.specs.Replies.{IsOfBytes}
use Rattle.oc_client.specs.declared.answer.Failure.{Failure}
use Rattle.oc_client.specs.declared.answer.Failure.TheVariants as failures
use Rattle.oc_client.specs.declared.answer.PutAnswer.{PutAnswer}
use Rattle.oc_client.specs.declared.answer.PutAnswer.TheVariants.{Taken, Length, Refused}
use Rattle.oc_http.specs.Taking.{SaysReplyHead, RefusesReplyHead, SaysReply, RefusesReply}
use Rattle.oc_http.specs.declared.fault.HttpFault.{HttpFault}
use Rattle.oc_http.specs.declared.fault.HttpFault.TheVariants as faults
use Rattle.oc_http.specs.declared.reply.Reply.{Reply}
use Rattle.oc_http.specs.declared.reply.ReplyHead.{ReplyHead}

-- the answer of a reply that must give a length
abbrev pub as_length : Option ℕ → Result PutAnswer Failure
as_length None = Err failures.Reply
as_length (Some length) = Ok (Length length)

-- the answer in a reply of another status: 503 says that the request can be tried again, and any
-- other status refuses
abbrev pub as_status : ℕ → Result PutAnswer Failure
as_status status = if status == 503 then Err failures.Unavailable else Ok (Refused status)

-- the answer in the head of a reply to a query, by the parts of the head
abbrev pub answer_in : Bool → ℕ → Option ℕ → Result PutAnswer Failure
answer_in chunked status length =
    if chunked then Err failures.Reply
    else if status == 200 then as_length length
    else if status == 404 then Ok (Length 0)
    else as_status status

-- the answer in the head of a reply to a query
abbrev pub answer_to_ask : ReplyHead → Result PutAnswer Failure
answer_to_ask head = answer_in head.chunked head.status head.length

-- the answer in the reply to a load
abbrev pub answer_to_publish : Reply → Result PutAnswer Failure
answer_to_publish reply =
    if reply.status == 200 then Ok Taken
    else if reply.status == 409 then as_length reply.group_length
    else as_status reply.status

-- the failure if there is no reply
abbrev pub failure_of : HttpFault → Failure
failure_of faults.Source = failures.Link
failure_of faults.Memory = failures.Memory
failure_of fault = failures.Reply

-- the bytes are the head of a reply to a query, which gives this answer
pub record IsAnswered (reply : List ℕ) (answer : Result PutAnswer Failure) : Type 0 where
  pub head : ReplyHead
  pub says : SaysReplyHead reply head
  pub answer_is : answer ≡ answer_to_ask head

-- the bytes are a whole reply to a load, which gives this answer; over says that the connection
-- ended after them
pub record IsWholeAnswer (reply : List ℕ) (over : Bool) (answer : Result PutAnswer Failure) : Type 0 where
  pub head : List ℕ
  pub body : List ℕ
  pub said : Reply
  pub says : SaysReply head body (over ≡ true) said
  pub split : reply ≡ head ++ body
  pub answer_is : answer ≡ answer_to_publish said

-- the bytes are a reply that gives this answer
abbrev pub Replies : Bool → List ℕ → Bool → Result PutAnswer Failure → Type 0
Replies true reply over answer = IsAnswered reply answer
Replies false reply over answer = IsWholeAnswer reply over answer

-- the bytes are no reply, and none that follow make them one
abbrev pub IsNone : Bool → List ℕ → Bool → HttpFault → Type 0
IsNone true reply over fault = RefusesReplyHead reply (over ≡ true) fault
IsNone false reply over fault = RefusesReply reply (over ≡ true) fault

pub record IsNoReply (asks : Bool) (reply : List ℕ) (over : Bool) : Type 0 where
  pub fault : HttpFault
  pub of_bytes : IsOfBytes fault
  pub refused : IsNone asks reply over fault

-- the answer made from the bytes that came
abbrev pub Answers : Bool → List ℕ → Bool → Result PutAnswer Failure → Type 0
Answers asks reply over (Ok answer) = Replies asks reply over (Ok answer)
Answers asks reply over (Err failures.Reply) = IsNoReply asks reply over ⊎ Replies asks reply over (Err failures.Reply)
Answers asks reply over (Err failures.Unavailable) = Replies asks reply over (Err failures.Unavailable)
Answers asks reply over (Err failures.Link) = ⊤
Answers asks reply over (Err failures.Memory) = ⊤
