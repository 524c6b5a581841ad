-- The reply to a request, and its content.
use Rattle.std.specs.Prelude.{◌≡◌, ℕ, ◌<◌, ◌≤◌, ◌⊎◌, Bool, true, false, Option, Some, None, List, [], ◌++◌, length}
use Rattle.oc_client.specs.declared.reply_framing.ReplyFraming.{ReplyFraming}
use Rattle.oc_client.specs.declared.reply_framing.ReplyFraming.TheVariants.{Counted, Chunked, ToTheEnd}
use Rattle.oc_client.specs.declared.reply_framing.TheConstants.{MAX_OPEN_BYTES}
use Rattle.oc_http.specs.Taking.{SaysReplyHead, RefusesReplyHead}
use Rattle.oc_http.specs.declared.fault.HttpFault.{HttpFault}
use Rattle.oc_http.specs.declared.fault.HttpFault.TheVariants.{Source, Memory}
use Rattle.oc_http.specs.declared.reply.ReplyHead.{ReplyHead}
use Rattle.oc_chunked.specs.Stages.{DecoderState, ended, refused, is_final}
use Rattle.oc_chunked.specs.Taken.{IsTaken}
use Rattle.oc_chunked.specs.declared.fault.ChunkFault.{ChunkFault}

-- a reply is a head that says this, and these bytes after it
pub record Says (reply : List ℕ) (head : ReplyHead) (behind : List ℕ) : Type 0 where
  pub bytes : List ℕ
  pub says : SaysReplyHead bytes head
  pub split : reply ≡ bytes ++ behind

-- the fault is one of the bytes
abbrev pub IsOfBytes : HttpFault → Type 0
IsOfBytes Source = ⊥
IsOfBytes Memory = ⊥
IsOfBytes fault = Unit {0}

-- the bytes that were read are no head of a reply, and none that follow make them one
pub record IsHeadless (reply : List ℕ) (over : Bool) : Type 0 where
  pub fault : HttpFault
  pub of_bytes : IsOfBytes fault
  pub refused : RefusesReplyHead reply (over ≡ true) fault

-- the end of the content, given whether it is chunked, and its length
abbrev pub framing_by : Bool → Option ℕ → ReplyFraming
framing_by true length = Chunked
framing_by false (Some count) = Counted count
framing_by false None = ToTheEnd

-- the end of the content of a reply
abbrev pub framing_of : ReplyHead → ReplyFraming
framing_of head = framing_by head.chunked head.length

-- bytes after a head are a whole body with this content; over says that the connection ended after them
abbrev pub IsWhole : ReplyFraming → List ℕ → List ℕ → Bool → Type 0
IsWhole (Counted count) body content over = (body ≡ content) × (length content ≡ count)
IsWhole Chunked body content over = IsTaken body content ended × (length content ≤ MAX_OPEN_BYTES)
IsWhole ToTheEnd body content over = (body ≡ content) × (length content ≤ MAX_OPEN_BYTES) × (over ≡ true)

-- bytes after a head begin a body, and bring this content
abbrev pub Begins : ReplyFraming → List ℕ → List ℕ → Type 0
Begins (Counted count) body content = (body ≡ content) × (length content ≤ count)
Begins Chunked body content =
    (content ≡ []) ⊎ ((front : List ℕ) × (rest : List ℕ) × (stage : DecoderState) × (body ≡ front ++ rest) × IsTaken front content stage)
Begins ToTheEnd body content = body ≡ content

-- a chunked text breaks off at this stage, with this content: it ends early, or is refused, or has too much content
abbrev pub BreaksOff : DecoderState → List ℕ → List ℕ → Bool → Type 0
BreaksOff stage content rest over =
    ((rest ≡ []) × (is_final stage ≡ false) × (over ≡ true))
    ⊎ ((fault : ChunkFault) × (stage ≡ refused fault))
    ⊎ (MAX_OPEN_BYTES < length content)

-- bytes after a head are no whole body, and none that follow make them one
abbrev pub IsBodiless : ReplyFraming → List ℕ → Bool → Type 0
IsBodiless (Counted count) body over = (length body < count) × (over ≡ true)
IsBodiless Chunked body over =
    (front : List ℕ) × (rest : List ℕ) × (content : List ℕ) × (stage : DecoderState) × (body ≡ front ++ rest) × IsTaken front content stage × BreaksOff stage content rest over
IsBodiless ToTheEnd body over = MAX_OPEN_BYTES < length body
