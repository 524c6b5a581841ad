-- The cases in which a download can end only with its content, or with a failed call or lack of
-- memory.
use Rattle.std.specs.Prelude.{◌≡◌, ◌⊎◌, ℕ, ◌≤◌, List, [], ◌∷◌, ◌++◌, length, map, ⊤}
use Rattle.oc_client.specs.Conversations.{Replied, Serves, Redirects}
use Rattle.oc_client.specs.Downloads.{first_state}
use Rattle.oc_client.specs.Replies.{framing_of}
use Rattle.oc_client.specs.FetchOptions.{FetchOptions}
use Rattle.oc_client.specs.Wishes.{whole}
use Rattle.oc_client.specs.declared.end.GetEnd.{GetEnd}
use Rattle.oc_client.specs.declared.end.GetEnd.TheVariants.{Done, Link, Sink, Memory}
use Rattle.oc_client.specs.declared.reply_framing.ReplyFraming.{ReplyFraming}
use Rattle.oc_client.specs.declared.reply_framing.ReplyFraming.TheVariants.{Counted, Chunked, ToTheEnd}
use Rattle.oc_client.specs.declared.reply_framing.TheConstants.{MAX_OPEN_BYTES}
use Rattle.oc_client.specs.declared.client_state.ClientState.{ClientState}
use Rattle.oc_link.specs.Story.{Dial, Story, dials}
use Rattle.url.specs.Parts.{Parts}

-- all bytes that a dial gave or would have given
abbrev pub text_of : Dial → List ℕ
text_of dial = dial.connection.read ++ dial.connection.left

-- the bytes after a head hold a whole content, which has no chunks
abbrev pub HoldsWhole : ReplyFraming → List ℕ → Type 0
HoldsWhole (Counted count) behind = count ≤ length behind
HoldsWhole Chunked behind = ⊥
HoldsWhole ToTheEnd behind = length behind ≤ MAX_OPEN_BYTES

-- replies each of which leads to the next, up to a 200 with a whole content
abbrev pub LeadToContent : FetchOptions → ClientState → List (List ℕ) → Type 0
LeadToContent manner state [] = ⊤
LeadToContent manner state (text ∷ texts) =
    Replied text (λ head behind. Serves (whole manner) head × HoldsWhole (framing_of head) behind)
    ⊎ ((next : ClientState) × Replied text (λ head behind. Redirects state head next) × LeadToContent manner next texts)

-- no reply was refused
abbrev pub IsUnrefused : GetEnd → Type 0
IsUnrefused Done = ⊤
IsUnrefused Link = ⊤
IsUnrefused Sink = ⊤
IsUnrefused Memory = ⊤
IsUnrefused end = ⊥

-- no reply of the dials was refused where they lead to a content
abbrev pub Completes : FetchOptions → Parts → GetEnd → Story → Story → Type 0
Completes manner url end old new =
    (made : List Dial) → dials new ≡ dials old ++ made → LeadToContent manner (first_state manner.from url 1) (map text_of made) → IsUnrefused end
