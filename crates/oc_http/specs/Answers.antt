-- Answers to the bytes that are left of a source, where these bytes are known.
use Rattle.std.specs.Prelude.{◌≡◌, ℕ, false, Option, Some, None, Result, Ok, Err, List, [], ◌++◌, ⊤}
use Rattle.httparse.specs.Grammar.{ReadsRequest, ReadsResponse}
use Rattle.oc_select.specs.Values.{no_selectors}
use Rattle.oc_http.specs.Paths.{message_path}
use Rattle.oc_http.specs.Requests.{read_request}
use Rattle.oc_http.specs.Responses.{read_reply_head}
use Rattle.oc_http.specs.Taking.{IsAnswered, RefusesHead, SaysReply, RefusesReply}
use Rattle.oc_http.specs.declared.fault.HttpFault.{HttpFault}
use Rattle.oc_http.specs.declared.fault.HttpFault.TheVariants.{Source, Memory}
use Rattle.oc_http.specs.declared.head.Head.{Head}
use Rattle.oc_http.specs.declared.head.Method.TheVariants.{Post}
use Rattle.oc_http.specs.declared.reply.Reply.{Reply}
use Rattle.oc_http.specs.declared.reply.ReplyHead.{ReplyHead}

-- an answer other than a failed call or a want of memory
abbrev pub IsDecided : {A : Type 0} → Result A HttpFault → Type 0
IsDecided (Ok value) = ⊤
IsDecided (Err Source) = ⊥
IsDecided (Err Memory) = ⊥
IsDecided (Err fault) = ⊤

-- the answer where a head was taken from the bytes `left`, and `rest` is left after them
abbrev pub AnswersHead : {H A : Type 0} → (List ℕ → H → List ℕ → Type 0) → (H → Result A HttpFault) → List ℕ → List ℕ → Result A HttpFault → Type 0
AnswersHead Reads read left rest (Ok value) = (bytes : List ℕ) × (left ≡ bytes ++ rest) × IsAnswered Reads read bytes (Ok value)
AnswersHead Reads read left rest (Err fault) = (bytes : List ℕ) × (left ≡ bytes ++ rest) × RefusesHead Reads read bytes (rest ≡ []) fault

-- the answer to the head of a request
abbrev pub AnswersRequest : List ℕ → List ℕ → Result Head HttpFault → Type 0
AnswersRequest = AnswersHead ReadsRequest read_request

-- the answer to the head of a response
abbrev pub AnswersReplyHead : List ℕ → List ℕ → Result ReplyHead HttpFault → Type 0
AnswersReplyHead = AnswersHead ReadsResponse read_reply_head

-- the answer to a response
abbrev pub AnswersReply : List ℕ → List ℕ → Result Reply HttpFault → Type 0
AnswersReply left rest (Ok reply) = (head body : List ℕ) × (left ≡ (head ++ body) ++ rest) × SaysReply head body (rest ≡ []) reply
AnswersReply left rest (Err fault) = (bytes : List ℕ) × (left ≡ bytes ++ rest) × RefusesReply bytes (rest ≡ []) fault

-- the head of a node's request, with this MAC where there is one, and with a body of `count` bytes
abbrev pub written_head : Option (List ℕ) → ℕ → Head
written_head mac count = record {
  method = Post;
  path = Some message_path;
  query = [];
  length = count;
  expects = false;
  minor = 1;
  closes = false;
  has_authorization = false;
  authorization = None;
  mac = mac;
  selectors = no_selectors;
}
