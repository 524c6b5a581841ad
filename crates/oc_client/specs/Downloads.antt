-- The effect of a download of an address.
use Rattle.std.specs.Prelude.{◌≡◌, ◌⊎◌, ℕ, false, Option, unwrap_or, List, [], ⊤}
use Rattle.oc_client.specs.Addresses.{IsAddressOf, IsBadAddress}
use Rattle.oc_client.specs.Conversations.{Converses}
use Rattle.oc_client.specs.Queries.{start_of, area_of}
use Rattle.oc_client.specs.Turns.{Turn}
use Rattle.oc_client.specs.FetchOptions.{FetchOptions}
use Rattle.oc_client.specs.Wishes.{Wish, whole, news}
use Rattle.oc_client.specs.declared.end.GetEnd.{GetEnd}
use Rattle.oc_client.specs.declared.end.GetEnd.TheVariants.{BadUrl, Memory}
use Rattle.oc_client.specs.declared.client_state.ClientState.{ClientState}
use Rattle.url.specs.Parts.{Parts}

-- the first state of a client that wants `times` replies; its start is the given one, or else that
-- of the URL
abbrev pub first_state : Option ℕ → Parts → ℕ → ClientState
first_state said url times = record {
  target = url;
  led = false;
  start = unwrap_or said (start_of url.query);
  kept = false;
  redirections = 2;
  replies = times;
}

-- the end of a download that makes no request
abbrev pub IsUnasked : List ℕ → GetEnd → Type 0
IsUnasked address BadUrl = IsBadAddress address
IsUnasked address Memory = ⊤
IsUnasked address end = ⊥

-- a download of an address: a conversation from its URL on, or nothing
abbrev pub Downloads : (Parts → Wish) → Option ℕ → List ℕ → ℕ → List Turn → List ℕ → GetEnd → Type 0
Downloads wish_for said address times turns written end =
    (IsUnasked address end × (turns ≡ []) × (written ≡ []))
    ⊎ ((url : Parts) × IsAddressOf address url × Converses (wish_for url) (first_state said url times) turns written end)

-- the content of a URL
abbrev pub content_of : FetchOptions → Parts → Wish
content_of manner url = whole manner

-- the news of a group, for the area in the URL
abbrev pub news_of : FetchOptions → Parts → Wish
news_of manner url = news manner (area_of url.query)
