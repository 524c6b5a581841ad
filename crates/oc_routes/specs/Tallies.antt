-- The counts of a node's run since its start, and the seconds at which it heard of others.
use Rattle.std.specs.Prelude.{ℕ, ◌+◌, ◌==◌, Bool, true, false, nat_lt, if◌then◌else◌, Option, Some, None, Result, Ok, Err, List, [], ◌∷◌, length, map, take, drop, replicate}
use Rattle.oc_base.specs.Words.{number_in}
use Rattle.oc_base.specs.declared.cert.Cert.{Cert}
use Rattle.oc_base.specs.declared.why.Why.{Why}
use Rattle.oc_model.specs.Numbers.{capped, put_at}
use Rattle.oc_model.specs.Table.{is_news, newest}
use Rattle.oc_model.specs.declared.answer.Answer.{Answer}
use Rattle.oc_model.specs.declared.answer.Answer.TheVariants as answers
use Rattle.oc_model.specs.declared.input.Input.{Input}
use Rattle.oc_model.specs.declared.input.Input.TheVariants as inputs
use Rattle.oc_model.specs.declared.message.Body.{Body}
use Rattle.oc_model.specs.declared.message.Body.TheVariants as bodies
use Rattle.oc_routes.specs.declared.tally.MessageFault.{MessageFault}
use Rattle.oc_routes.specs.declared.tally.MessageFault.TheVariants.{Mac, Message}
use Rattle.oc_routes.specs.declared.tally.StatusCount.{StatusCount}
use Rattle.oc_routes.specs.declared.tally.TheConstants.{STATUSES}

pub record TallyView : Type 0 where
  -- the number of bytes of replies to clients, heads and bodies, as they were given
  pub sent : ℕ
  -- the numbers of replies to clients, by status
  pub replied : List StatusCount
  -- the numbers of messages of nodes that were refused: of those without a good MAC, and of others that were no message to this node
  pub macs : ℕ
  pub messages : ℕ
  -- the number of inputs that were answered `Serve`
  pub served : ℕ
  -- the second at which each node, by its id, was heard of last, by the clock of this node
  pub heard : List (Option ℕ)

abbrev pub none_replied : List StatusCount
none_replied = map (λ status. record { status = status; count = 0 }) STATUSES

-- the counts at the start, in a network of this many nodes
abbrev pub first_tally : ℕ → TallyView
first_tally nodes = record { sent = 0; replied = none_replied; macs = 0; messages = 0; served = 0; heard = replicate nodes None }

-- the sum of a count and more, up to 2^64 - 1
abbrev pub sum_of : ℕ → ℕ → ℕ
sum_of count more = capped (count + more)

-- the counts after this many more bytes of replies to clients
abbrev pub with_sent : ℕ → TallyView → TallyView
with_sent count t = record t { sent = sum_of t.sent count }

-- Replies

abbrev pub number_or_none : Result ℕ Why → Option ℕ
number_or_none (Ok number) = Some number
number_or_none (Err why) = None

-- the status of a reply: the three digits after `HTTP/1.1 `
abbrev pub status_in : List ℕ → Option ℕ
status_in text = if nat_lt (length text) 12 then None else number_or_none (number_in 100 999 (take 3 (drop 9 text)))

-- the count of a status after a reply of this status
abbrev pub counted_in : Option ℕ → StatusCount → StatusCount
counted_in None row = row
counted_in (Some status) row = if status == row.status then record row { count = sum_of row.count 1 } else row

-- the counts after a reply to a client, of which this text was given
abbrev pub with_reply : List ℕ → TallyView → TallyView
with_reply text t = record (with_sent (length text) t) { replied = map (counted_in (status_in text)) t.replied }

-- the counts after a message of another node that was refused
abbrev pub with_refused : MessageFault → TallyView → TallyView
with_refused Mac t = record t { macs = sum_of t.macs 1 }
with_refused Message t = record t { messages = sum_of t.messages 1 }

-- the counts after an input with this answer
abbrev pub with_answer : Answer → TallyView → TallyView
with_answer (answers.Serve count) t = record t { served = sum_of t.served 1 }
with_answer answer t = t

-- The nodes that were heard of

-- the counts after a message of this node, if one came, at this second
abbrev pub with_sender : Option ℕ → ℕ → TallyView → TallyView
with_sender None second t = t
with_sender (Some x) second t = record t { heard = put_at t.heard x (Some second) }

abbrev pub tells_of_rows : Body → Bool
tells_of_rows (bodies.Ask seq rank) = true
tells_of_rows (bodies.CheckIn seq upto rate number clients certs) = true
tells_of_rows body = false

-- whether an input may change rows of the table: a tick, an ask and a check-in, and no other
abbrev pub may_change_rows : Input → Bool
may_change_rows (inputs.Tick t) = true
may_change_rows (inputs.Delivered m) = tells_of_rows m.body
may_change_rows i = false

-- the table before an input that may change its rows
abbrev pub known_before : Input → List Cert → Option (List Cert)
known_before i t = if may_change_rows i then Some t else None

-- whether a row is news to the table before; a row changes only to one that outranks it
abbrev pub is_news_of : List Cert → Option Cert → Bool
is_news_of before None = false
is_news_of before (Some row) = is_news before row

abbrev pub is_news_in : List Cert → List Cert → ℕ → Bool
is_news_in before after x = is_news_of before (newest after x)

-- the seconds of the nodes from x on, with this one where the node is heard of
abbrev pub noted_from : (ℕ → Bool) → ℕ → ℕ → List (Option ℕ) → List (Option ℕ)
noted_from holds second x [] = []
noted_from holds second x (heard ∷ rest) = (if holds x then Some second else heard) ∷ noted_from holds second (x + 1) rest

-- the counts after a change of the table at this second, where the table before is known
abbrev pub with_news : Option (List Cert) → List Cert → ℕ → TallyView → TallyView
with_news None after second t = t
with_news (Some before) after second t = record t { heard = noted_from (is_news_in before after) second 1 t.heard }
