-- The effect of a Location on a client.
use Rattle.std.specs.Prelude.{◌≡◌, ℕ, ◌-◌, ◌<◌, true, false, Option, Some, None, List, ⊤}
use Rattle.oc_client.specs.Addresses.{LeadsTo, LeadsNowhere}
use Rattle.oc_client.specs.declared.end.GetEnd.{GetEnd}
use Rattle.oc_client.specs.declared.end.GetEnd.TheVariants.{Redirects, Reply, Memory}
use Rattle.oc_client.specs.declared.client_state.ClientState.{ClientState}
use Rattle.url.specs.Parts.{Parts}

-- a Location that is missing, or no URL that can be asked
abbrev pub IsLost : Parts → Option (List ℕ) → Type 0
IsLost asked None = ⊤
IsLost asked (Some location) = LeadsNowhere asked location

-- a state from which the URL of a Location is asked for, on a new connection
abbrev pub sent_to : Parts → ClientState → ClientState
sent_to url state = record state { target = url; led = true; kept = false; redirections = state.redirections - 1 }

-- a Location that is this URL
pub record Points (state : ClientState) (location : Option (List ℕ)) (url : Parts) : Type 0 where
  pub text : List ℕ
  pub is : location ≡ Some text
  pub leads : LeadsTo state.target text url

-- the client follows the Location to this state
pub record Follows (state : ClientState) (location : Option (List ℕ)) (next : ClientState) : Type 0 where
  pub url : Parts
  pub points : Points state location url
  pub may : 0 < state.redirections
  pub next_is : next ≡ sent_to url state

-- the client does not follow the Location
abbrev pub StaysAt : ClientState → Option (List ℕ) → GetEnd → Type 0
StaysAt state location Redirects = (state.redirections ≡ 0) × ((url : Parts) × Points state location url)
StaysAt state location Reply = IsLost state.target location
StaysAt state location Memory = ⊤
StaysAt state location end = ⊥
