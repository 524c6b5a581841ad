-- The conversation of a client with servers: the state after each reply, and the end.
use Rattle.std.specs.Prelude.{◌≡◌, ◌≢◌, ◌⊎◌, ℕ, ◌+◌, ◌-◌, ◌^◌, ◌<◌, min, Bool, Option, Some, None, option_to_list, List, [], ◌∷◌, ◌++◌, length}
use Rattle.oc_client.specs.Redirecting.{IsLost, Points, Follows}
use Rattle.oc_client.specs.Replies.{Says, IsHeadless, framing_of, IsWhole, Begins, IsBodiless}
use Rattle.oc_client.specs.Turns.{Turn, IsCut}
use Rattle.oc_client.specs.Wishes.{Wish, Asks, Takes, keeps, dialled_at, request_of}
use Rattle.oc_client.specs.declared.end.GetEnd.{GetEnd}
use Rattle.oc_client.specs.declared.end.GetEnd.TheVariants.{Done, Refused, Reply, Link, Sink, Memory}
use Rattle.oc_client.specs.declared.end.GetEnd.TheVariants as ends
use Rattle.oc_client.specs.declared.client_state.ClientState.{ClientState}
use Rattle.oc_http.specs.declared.reply.ReplyHead.{ReplyHead}
use Rattle.oc_link.specs.Calls.{IsFront}
use Rattle.url.specs.Parts.{Parts}

-- a reply that consists of a head and bytes after it, for which P holds
pub record Replied (reply : List ℕ) (P : ReplyHead → List ℕ → Type 0) : Type 0 where
  pub head : ReplyHead
  pub behind : List ℕ
  pub says : Says reply head behind
  pub so : P head behind

-- the reply sends the client to this URL
pub record SendsTo (state : ClientState) (head : ReplyHead) (url : Parts) : Type 0 where
  pub status : head.status ≡ 302
  pub points : Points state head.location url

-- the reply sends the client to no good URL
pub record SendsNowhere (state : ClientState) (head : ReplyHead) : Type 0 where
  pub status : head.status ≡ 302
  pub lost : IsLost state.target head.location

-- the reply sends the client on to this state
pub record Redirects (state : ClientState) (head : ReplyHead) (next : ClientState) : Type 0 where
  pub status : head.status ≡ 302
  pub follows : Follows state head.location next

-- the reply brings a content that the client takes
pub record Serves (wish : Wish) (head : ReplyHead) : Type 0 where
  pub status : head.status ≡ 200
  pub taken : Takes wish head

-- the number of replies wanted after one: none if it gives its length
abbrev pub wanted_after : Option ℕ → ℕ → ℕ
wanted_after (Some count) replies = 0
wanted_after None replies = replies - 1

-- the state after a content
abbrev pub after_content : ReplyHead → List ℕ → ClientState → ClientState
after_content head content state = record state {
  start = min (state.start + length content) (2 ^ 64 - 1);
  kept = keeps head;
  replies = wanted_after head.length state.replies;
}

-- the reply is a whole content, after which the client is at this state
pub record Brings (wish : Wish) (state : ClientState) (head : ReplyHead) (body : List ℕ) (over : Bool) (content : List ℕ) (next : ClientState) : Type 0 where
  pub serves : Serves wish head
  pub whole : IsWhole (framing_of head) body content over
  pub next_is : next ≡ after_content head content state

-- a whole reply from which the client goes on at this state, and its content
abbrev pub LeadsOn : Wish → ClientState → List ℕ → Bool → List ℕ → ClientState → Type 0
LeadsOn wish state reply over content next =
    Replied reply (λ head behind. (Redirects state head next × (content ≡ [])) ⊎ Brings wish state head behind over content next)

-- a content of which `body` came and these bytes were written
pub record Passes (wish : Wish) (head : ReplyHead) (body written : List ℕ) : Type 0 where
  pub content : List ℕ
  pub serves : Serves wish head
  pub begins : Begins (framing_of head) body content
  pub front : IsFront written content

-- the content is not whole and never will be
pub record CutsOff (wish : Wish) (head : ReplyHead) (body : List ℕ) (over : Bool) (written : List ℕ) : Type 0 where
  pub passes : Passes wish head body written
  pub bodiless : IsBodiless (framing_of head) body over

-- the reply brings a content that the client does not take
pub record IsUntaken (wish : Wish) (head : ReplyHead) : Type 0 where
  pub status : head.status ≡ 200
  pub untaken : ¬ (Takes wish head)

-- the end of a conversation after the head of a 200, with the bytes that came and those that were written
abbrev pub StopsContent : Wish → ReplyHead → List ℕ → Bool → List ℕ → GetEnd → Type 0
StopsContent wish head body over written Reply = (IsUntaken wish head × (written ≡ [])) ⊎ CutsOff wish head body over written
StopsContent wish head body over written Link = Passes wish head body written
StopsContent wish head body over written Sink = Passes wish head body written
StopsContent wish head body over written Memory = Passes wish head body written
StopsContent wish head body over written end = ⊥

-- some of a reply came, and nothing was written but content
abbrev pub IsPartial : Wish → List ℕ → List ℕ → Type 0
IsPartial wish reply written = (written ≡ []) ⊎ Replied reply (λ head body. Passes wish head body written)

-- the reply is not valid, leads nowhere, or has a content that ends with `Reply`
abbrev pub IsBad : Wish → ClientState → List ℕ → Bool → List ℕ → Type 0
IsBad wish state reply over written =
    (IsHeadless reply over × (written ≡ []))
    ⊎ Replied reply (λ head behind. (SendsNowhere state head × (written ≡ [])) ⊎ StopsContent wish head behind over written Reply)

-- the reply, of which these bytes were written, ends the conversation
abbrev pub EndsWith : Wish → ClientState → List ℕ → Bool → List ℕ → GetEnd → Type 0
EndsWith wish state reply over written (Refused status) =
    (written ≡ []) × Replied reply (λ head behind. (head.status ≡ status) × (status ≢ 200) × (status ≢ 302))
EndsWith wish state reply over written ends.Redirects =
    (written ≡ []) × (state.redirections ≡ 0) × Replied reply (λ head behind. (url : Parts) × SendsTo state head url)
EndsWith wish state reply over written Reply = IsBad wish state reply over written
EndsWith wish state reply over written Link = IsPartial wish reply written
EndsWith wish state reply over written Sink = Replied reply (λ head body. Passes wish head body written)
EndsWith wish state reply over written Memory = IsPartial wish reply written
EndsWith wish state reply over written end = ⊥

-- a turn from which the client goes on at this state, and the content that came
pub record GoesOn (wish : Wish) (state : ClientState) (turn : Turn) (content : List ℕ) (next : ClientState) : Type 0 where
  pub asks : Asks wish state turn
  pub leads : LeadsOn wish state turn.reply turn.over content next

-- the turn, of whose reply these bytes were written, ends the conversation
abbrev pub EndsIn : Wish → ClientState → Turn → List ℕ → GetEnd → Type 0
EndsIn wish state turn written end =
    (Asks wish state turn × EndsWith wish state turn.reply turn.over written end)
    ⊎ (IsCut (dialled_at state.kept state) (request_of wish state) turn × (written ≡ []) × (end ≡ Link))

-- turns that lead from a state to a state, and the content that came
abbrev pub Leads : Wish → ClientState → List Turn → List ℕ → ClientState → Type 0
Leads wish state [] content reached = (content ≡ []) × (reached ≡ state)
Leads wish state (turn ∷ turns) content reached =
    (0 < state.replies) × ((next : ClientState) × (first : List ℕ) × (rest : List ℕ) × GoesOn wish state turn first next × (content ≡ first ++ rest) × Leads wish next turns rest reached)

-- the conversation ends in this state, with or without a last turn
abbrev pub EndsAt : Wish → ClientState → Option Turn → List ℕ → GetEnd → Type 0
EndsAt wish state None written Done = (state.replies ≡ 0) × (written ≡ [])
EndsAt wish state None written Memory = written ≡ []
EndsAt wish state None written end = ⊥
EndsAt wish state (Some turn) written end = (0 < state.replies) × EndsIn wish state turn written end

-- a conversation that begins in a state: its turns, the bytes written, and its end
pub record Converses (wish : Wish) (state : ClientState) (turns : List Turn) (written : List ℕ) (end : GetEnd) : Type 0 where
  pub through : List Turn
  pub content : List ℕ
  pub reached : ClientState
  pub last : Option Turn
  pub rest : List ℕ
  pub leads : Leads wish state through content reached
  pub ends : EndsAt wish reached last rest end
  pub turns_are : turns ≡ through ++ option_to_list last
  pub written_is : written ≡ content ++ rest
