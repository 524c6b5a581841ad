-- The content that a client wants from servers, and the requests for it.
use Rattle.std.specs.Prelude.{◌≡◌, ℕ, Bool, true, false, not, ◌&&◌, Option, Some, None, option_map, string_bytes, List}
use Rattle.oc_client.specs.Addresses.{host_of, dial_address}
use Rattle.oc_client.specs.FetchOptions.{FetchOptions}
use Rattle.oc_client.specs.Requests.{get_lines, query_from, news_query, from_at, knowledge_at}
use Rattle.oc_client.specs.Turns.{Turn}
use Rattle.oc_client.specs.declared.client_state.ClientState.{ClientState}
use Rattle.oc_client.specs.declared.wish.Wish as asked
use Rattle.oc_client.specs.declared.wish.Wish.TheVariants as variants
use Rattle.oc_http.specs.declared.reply.ReplyHead.{ReplyHead}

pub data Wish : Type 0 where
  -- the content of a URL, once
  whole : FetchOptions → Wish
  -- the news of a group, for the area in the URL
  news : FetchOptions → Option (List ℕ) → Wish

-- the wish that a value of the code means
abbrev pub wish_of : asked.Wish → Wish
wish_of (variants.Whole manner) = whole manner.now
wish_of (variants.News manner area) = news manner.now (option_map (λ a. string_bytes a) area)

-- the first byte to ask for at first, if one is given
abbrev pub from_of : Wish → Option ℕ
from_of (whole manner) = manner.from
from_of (news manner area) = manner.from

-- the request for the content of a URL
abbrev pub whole_request : FetchOptions → ClientState → List ℕ
whole_request manner state =
    get_lines state.target.path (query_from (from_at state.led manner.from) state.target.query) (host_of state.target) manner.token

-- the request for the news of a group
abbrev pub news_request : FetchOptions → Option (List ℕ) → ClientState → List ℕ
news_request manner area state =
    get_lines state.target.path (news_query state.start area (knowledge_at state.led state.target.query)) (host_of state.target) manner.token

-- the request of a client at a state
abbrev pub request_of : Wish → ClientState → List ℕ
request_of (whole manner) state = whole_request manner state
request_of (news manner area) state = news_request manner area state

-- the address to which the client makes a connection, unless the one before is kept
abbrev pub dialled_at : Bool → ClientState → Option (List ℕ)
dialled_at true state = None
dialled_at false state = Some (dial_address state.target)

-- a turn with the request of a client at this state, on the connection where it belongs
pub record Asks (wish : Wish) (state : ClientState) (turn : Turn) : Type 0 where
  pub dialled : turn.dialled ≡ dialled_at state.kept state
  pub request : turn.request ≡ request_of wish state

-- the client accepts the content of a reply with this head
abbrev pub Takes : Wish → ReplyHead → Type 0
Takes (whole manner) head = head.chunked ≡ false
Takes (news manner area) head = Unit {0}

-- the connection is kept after this reply: the server does not close it, and the content does not
-- end with it
abbrev pub keeps : ReplyHead → Bool
keeps head = not head.closes && head.chunked
