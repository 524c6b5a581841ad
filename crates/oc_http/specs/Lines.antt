-- The lines of a head, as they are taken from a source.
use Rattle.std.specs.Prelude.{◌≡◌, ◌≢◌, ℕ, ◌+◌, ◌<◌, ◌≤◌, List, [], ◌∷◌, ◌++◌, length}
use Rattle.std.specs.List.{AllByRecursion}
use Rattle.httparse.specs.Ascii.{line_feed}
use Rattle.httparse.specs.Grammar.{RequestHead, ReadsRequest, ResponseHead, ReadsResponse}
use Rattle.httparse.specs.Spans.{IsRequestWithin, IsRequestAt, IsResponseWithin, IsResponseAt}
use Rattle.httparse.specs.declared.spans.HeaderSpan.{HeaderSpan}
use Rattle.httparse.specs.declared.spans.RequestSpans.{RequestSpans}
use Rattle.httparse.specs.declared.spans.ResponseSpans.{ResponseSpans}
use Rattle.oc_base.specs.declared.limits.TheConstants.{MAX_HEAD_BYTES}
use Rattle.oc_http.specs.Taking.{Took}
use Rattle.oc_http.specs.declared.fault.HttpFault.{HttpFault}
use Rattle.oc_http.specs.declared.fault.HttpFault.TheVariants.{Source, Ended, HeadLong}

-- bytes without the end of a line
abbrev pub HasNoLineEnd : List ℕ → Type 0
HasNoLineEnd line = AllByRecursion (λ b. b ≢ line_feed) line

-- a line and its end that came, after the bytes before them
pub record IsLineTaken {S : Type 0} (gives : S → List ℕ → S → Type 0) (old new : S) (before after : List ℕ) : Type 0 where
  pub line : List ℕ
  pub one : HasNoLineEnd line
  pub came : gives old (line ++ line_feed ∷ []) new
  pub grown : after ≡ before ++ (line ++ line_feed ∷ [])
  pub fits : length after ≤ MAX_HEAD_BYTES

-- the cause that cut a line off after `count` bytes of a head; `done` says that the source ended
abbrev pub CutsLine : ℕ → Type 0 → HttpFault → Type 0
CutsLine count done Source = count < MAX_HEAD_BYTES
CutsLine count done Ended = (count < MAX_HEAD_BYTES) × done
CutsLine count done HeadLong = count ≡ MAX_HEAD_BYTES
CutsLine count done fault = ⊥

-- a piece of a line that came before the line was cut off
pub record IsLineCut {S : Type 0} (gives fails : S → List ℕ → S → Type 0) (old new : S) (before : List ℕ) (done : Type 0) (fault : HttpFault) : Type 0 where
  pub piece : List ℕ
  pub one : HasNoLineEnd piece
  pub came : Took gives fails old piece new fault
  pub cause : CutsLine (length before + length piece) done fault

-- bytes that are the head of a request, and spans that lie in them and cover its parts
pub record IsRequestTaken (bytes : List ℕ) (spans : List HeaderSpan) (parts : RequestSpans) : Type 0 where
  pub head : RequestHead
  pub whole : ReadsRequest bytes head []
  pub fits : length bytes ≤ MAX_HEAD_BYTES
  pub within : IsRequestWithin bytes spans parts
  pub cover : IsRequestAt bytes spans parts head

-- bytes that are the head of a response, and spans that lie in them and cover its parts
pub record IsResponseTaken (bytes : List ℕ) (spans : List HeaderSpan) (parts : ResponseSpans) : Type 0 where
  pub head : ResponseHead
  pub whole : ReadsResponse bytes head []
  pub fits : length bytes ≤ MAX_HEAD_BYTES
  pub within : IsResponseWithin bytes spans parts
  pub cover : IsResponseAt bytes spans parts head
