-- The cases in which a download ends at a redirection.
use Rattle.std.specs.Prelude.{◌≡◌, ◌⊎◌, ℕ, ◌-◌, ◌<◌, Some, List, [], ◌∷◌, ⊤}
use Rattle.oc_client.specs.Addresses.{IsAddressOf, LeadsTo}
use Rattle.oc_client.specs.Replies.{Says}
use Rattle.oc_client.specs.Turns.{Turn}
use Rattle.oc_client.specs.declared.end.GetEnd.{GetEnd}
use Rattle.oc_client.specs.declared.end.GetEnd.TheVariants.{Redirects, Link, Memory}
use Rattle.oc_http.specs.declared.reply.ReplyHead.{ReplyHead}
use Rattle.url.specs.Parts.{Parts}

-- the reply to a request for one URL is a 302 with a Location that leads to another
pub record IsRedirection (asked : Parts) (reply : List ℕ) (url : Parts) : Type 0 where
  pub head : ReplyHead
  pub behind : List ℕ
  pub location : List ℕ
  pub says : Says reply head behind
  pub status : head.status ≡ 302
  pub location_is : head.location ≡ Some location
  pub leads : LeadsTo asked location url

-- the reply is a 200
pub record IsServed (reply : List ℕ) : Type 0 where
  pub head : ReplyHead
  pub behind : List ℕ
  pub says : Says reply head behind
  pub status : head.status ≡ 200

-- the replies to a client that asks for this URL are `many` redirections, a last one after them, and any contents between
abbrev pub EndInRedirection : ℕ → Parts → List Turn → Type 0
EndInRedirection many asked [] = ⊥
EndInRedirection many asked (turn ∷ turns) =
    (IsServed turn.reply × EndInRedirection many asked turns)
    ⊎ ((many ≡ 0) × (turns ≡ []) × ((url : Parts) × IsRedirection asked turn.reply url))
    ⊎ ((0 < many) × ((url : Parts) × IsRedirection asked turn.reply url × EndInRedirection (many - 1) url turns))

-- the last reply to a client of this address is its third redirection
abbrev pub EndInThird : List ℕ → List Turn → Type 0
EndInThird address turns = (url : Parts) × IsAddressOf address url × EndInRedirection 2 url turns

-- the end of a client at a third redirection, unless a call or memory failed
abbrev pub IsRedirected : GetEnd → Type 0
IsRedirected Redirects = ⊤
IsRedirected Link = ⊤
IsRedirected Memory = ⊤
IsRedirected end = ⊥

-- a download ends with `Redirects` exactly at a third redirection
pub record StopsAtThird (address : List ℕ) (turns : List Turn) (end : GetEnd) : Type 0 where
  pub only : end ≡ Redirects → EndInThird address turns
  pub always : EndInThird address turns → IsRedirected end
