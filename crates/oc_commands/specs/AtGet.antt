-- The effect of `get` at each of its ends, with a token or without.
use Rattle.std.specs.Prelude.{ℕ, Bool, true, false, Option, Some, None, List, length, ⊤}
use Rattle.oc_client.specs.Addresses.{IsAddressOf, IsBadAddress}
use Rattle.oc_client.specs.Downloads.{Downloads, IsUnasked, content_of, news_of}
use Rattle.oc_client.specs.FetchOptions.{FetchOptions}
use Rattle.oc_client.specs.Turns.{Turn}
use Rattle.oc_client.specs.Wishes.{Wish}
use Rattle.oc_client.specs.declared.end.GetEnd.{GetEnd}
use Rattle.oc_client.specs.declared.end.GetEnd.TheVariants as ends
use Rattle.oc_words.specs.declared.request.Download.{Download}
use Rattle.oc_commands.specs.Outside.{OnError, OnLink, Output}
use Rattle.url.specs.Parts.{Parts}

-- the options of the client: this first byte, this token
abbrev pub manner_of : Download → Option (List ℕ) → FetchOptions
manner_of d token = record { from = d.start; token = token }

-- the wish of the client: the content of the URL, or the news of a group
abbrev pub wish_for : Option ℕ → FetchOptions → Parts → Wish
wish_for None = content_of
wish_for (Some times) = news_of

-- the number of replies wanted
abbrev pub replies_for : Option ℕ → ℕ
replies_for None = 1
replies_for (Some times) = times

-- these bytes were written, and if the end blames the output a call on it failed then
abbrev pub Wrote : Output → List ℕ → GetEnd → Type 0
Wrote output bytes ends.Sink = output.cut_off bytes
Wrote output bytes end = output.written bytes

-- the end blames the link only where a dial failed
abbrev pub Blames : OnLink → GetEnd → Type 0
Blames link ends.Link = link.has_failed
Blames link end = ⊤

-- replies that lead to the whole content of a URL which is asked for once are not refused
abbrev pub CompletesOnce : OnLink → Option ℕ → FetchOptions → List ℕ → GetEnd → Type 0
CompletesOnce link None manner address end = (url : Parts) → IsAddressOf address url → link.completes manner url end
CompletesOnce link (Some times) manner address end = ⊤

abbrev pub is_done : GetEnd → Bool
is_done ends.Done = true
is_done end = false

-- lines gave this number of bytes where they are wanted, with a last one where all is done
abbrev pub Tells : OnError → Bool → GetEnd → ℕ → Type 0
Tells error false end count = error.silent
Tells error true end count = error.told (is_done end) count

-- the turns with the servers, and the bytes written of their replies
pub record Downloaded (link : OnLink) (output : Output) (d : Download) (token : Option (List ℕ)) (end : GetEnd) : Type 0 where
  pub turns : List Turn
  pub written : List ℕ
  pub makes : link.makes turns
  pub wrote : Wrote output written end
  pub downloads : Downloads (wish_for d.times (manner_of d token)) d.start d.address (replies_for d.times) turns written end
  pub bad : IsBadAddress d.address → IsUnasked d.address end
  pub blames : Blames link end
  pub complete : CompletesOnce link d.times (manner_of d token) d.address end

-- the download, and its progress lines
pub record HappenedAtGet (link : OnLink) (output : Output) (error : OnError) (d : Download) (token : Option (List ℕ)) (end : GetEnd) : Type 0 where
  pub did : Downloaded link output d token end
  pub tells : Tells error d.progress end (length did.written)
