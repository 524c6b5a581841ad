-- The end of the message that begins with some bytes.
use Rattle.std.specs.Prelude.{◌≡◌, ◌⊎◌, ◌==◌, ◌&&◌, ◌||◌, not, ℕ, ◌≤◌, if◌then◌else◌, Option, Some, None, List, [], ◌∷◌, ◌++◌, drop, length}
use Rattle.std.specs.Str.Parse.{digits_value}
use Rattle.httparse.specs.Ascii.{line_feed}
use Rattle.httparse.specs.Grammar.{RequestHead, ReadsRequest, HasNoRequest, NeverHasRequest, MayBecomeRequest, ResponseHead, ReadsResponse, HasNoResponse, NeverHasResponse, status_code}
use Rattle.httparse.specs.Spans.{RequestExceeds, ResponseExceeds}
use Rattle.oc_http.specs.Fields.{named, closes, codings, is_length, is_present, lengths}
use Rattle.oc_http.specs.Lines.{HasNoLineEnd}
use Rattle.oc_http.specs.Requests.{expects}
use Rattle.oc_http.specs.Unfinished.{IsUnfinished}
use Rattle.oc_system.specs.declared.extent.BodyEnd.{BodyEnd}
use Rattle.oc_system.specs.declared.extent.BodyEnd.TheVariants as ends
use Rattle.oc_system.specs.declared.extent.HeadProgress.{HeadProgress}
use Rattle.oc_system.specs.declared.extent.HeadProgress.TheVariants as progress
use Rattle.oc_system.specs.declared.extent.Outline.{Outline}
use Rattle.oc_system.specs.declared.extent.ReplyOutline.{ReplyOutline}

-- the number in the first Content-Length, if there is one; 0 if it is no number
abbrev pub body_length : List (List ℕ) → Option ℕ
body_length [] = None
body_length (value ∷ more) = Some (if is_length value then digits_value 10 value else 0)

-- the finished lines of the bytes
pub record AreWholeLines (bytes lines : List ℕ) : Type 0 where
  pub rest : List ℕ
  pub split : bytes ≡ lines ++ rest
  pub begun : HasNoLineEnd rest
  pub ended : (lines ≡ []) ⊎ ((line : List ℕ) × (lines ≡ line ++ line_feed ∷ []))

-- the outline of the request whose head begins the bytes
pub record OutlinesRequest (bytes : List ℕ) (outline : Outline) : Type 0 where
  pub head : RequestHead
  pub fits : outline.head ≤ length bytes
  pub reads : ReadsRequest bytes head (drop outline.head bytes)
  pub body : outline.body ≡ body_length (lengths (named head.fields))
  pub expects : outline.expects ≡ expects head.minor (named head.fields)
  pub coded : outline.coded ≡ is_present (codings (named head.fields))

-- the progress of a request with these lines; room is the greatest number of fields
abbrev pub IsLinesExtent : ℕ → List ℕ → HeadProgress → Type 0
IsLinesExtent room lines progress.Open = HasNoRequest lines × MayBecomeRequest lines
IsLinesExtent room lines progress.Never = NeverHasRequest lines ⊎ RequestExceeds room lines
IsLinesExtent room lines (progress.Begun outline) = OutlinesRequest lines outline

-- no head can begin with the bytes, and this is known at the end of one of their lines
abbrev pub IsNoRequest : List ℕ → Type 0
IsNoRequest bytes = NeverHasRequest bytes × ¬ (IsUnfinished ReadsRequest bytes)

-- the progress of a request with these bytes, for a reader who looks at the end of each line; room
-- is the greatest number of fields
abbrev pub IsRequestExtent : ℕ → List ℕ → HeadProgress → Type 0
IsRequestExtent room bytes progress.Open = IsUnfinished ReadsRequest bytes
IsRequestExtent room bytes progress.Never = IsNoRequest bytes ⊎ RequestExceeds room bytes
IsRequestExtent room bytes (progress.Begun outline) = OutlinesRequest bytes outline

-- the end of a body with these lengths, where no transfer coding tells it
abbrev pub told_end : Option ℕ → BodyEnd
told_end None = ends.Connection
told_end (Some length) = ends.Length length

-- the end of the body of a response with this status and these fields: 204 and 304 have none (RFC 9112, section 6.3)
abbrev pub body_end : ℕ → List (List ℕ × List ℕ) → BodyEnd
body_end status fields =
    if status == 204 || status == 304 then ends.Length 0 else
    if is_present (codings fields) then ends.Coding else told_end (body_length (lengths fields))

-- the outline of the response whose head begins the bytes
pub record OutlinesReply (bytes : List ℕ) (outline : ReplyOutline) : Type 0 where
  pub head : ResponseHead
  pub reads : ReadsResponse bytes head (drop outline.head bytes)
  pub body : outline.body ≡ body_end (status_code head) (named head.fields)
  pub keeps : outline.keeps ≡ (head.minor == 1) && not (closes (named head.fields))

-- the outline of the reply that begins the bytes, once its head is whole; room is the greatest number of fields
abbrev pub IsReplyExtent : ℕ → List ℕ → Option ReplyOutline → Type 0
IsReplyExtent room bytes None = HasNoResponse bytes ⊎ (NeverHasResponse bytes ⊎ ResponseExceeds room bytes)
IsReplyExtent room bytes (Some outline) = OutlinesReply bytes outline
