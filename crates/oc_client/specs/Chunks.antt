-- The way of a chunked text from a source through a reader of chunks.
use Rattle.std.specs.Prelude.{◌≡◌, ◌≢◌, ◌⊎◌, ℕ, Bool, true, List, [], ◌++◌, length, take, ⊤}
use Rattle.oc_client.specs.Passing.{Came}
use Rattle.oc_client.specs.declared.end.GetEnd.{GetEnd}
use Rattle.oc_client.specs.declared.end.GetEnd.TheVariants.{Reply, Link, Sink, Memory}
use Rattle.oc_chunked.specs.Stages.{DecoderState, refused}
use Rattle.oc_chunked.specs.Taken.{Takes}
use Rattle.oc_chunked.specs.declared.fault.ChunkFault.{ChunkFault}

-- a piece came, and led from stage to stage with this content
pub record TakesPiece {S : Type 0} (gives : S → List ℕ → S → Type 0) (old new : S) (before after : DecoderState) (content : List ℕ) : Type 0 where
  pub bytes : List ℕ
  pub came : gives old bytes new
  pub takes : Takes before bytes content after

-- the reason why no piece was taken: the text ended early, or the piece was refused
abbrev pub StopsAt : DecoderState → List ℕ → List ℕ → Bool → GetEnd → Type 0
StopsAt stage front rest over Reply =
    ((front ++ rest ≡ []) × (over ≡ true))
    ⊎ ((fault : ChunkFault) × (content : List ℕ) × Takes stage front content (refused fault))
StopsAt stage front rest over Link = front ++ rest ≡ []
StopsAt stage front rest over Memory = ⊤
StopsAt stage front rest over end = ⊥

-- a prefix of this length of the gathered bytes was written, and this rest is left
pub record IsPut {K : Type 0} (takes : K → List ℕ → K → Type 0) (old new : K) (before after : List ℕ) (count : ℕ) : Type 0 where
  pub written : List ℕ
  pub split : before ≡ written ++ after
  pub sent : takes old written new
  pub long : length written ≡ count

-- the bytes gathered before this end were written or left, or writing them failed, which is another
-- end
abbrev pub EndsWritten : {K : Type 0} → (K → List ℕ → K → Type 0) → (K → List ℕ → K → Type 0) → K → K → List ℕ → GetEnd → GetEnd → Type 0
EndsWritten takes breaks old new content end ended =
    ((ended ≡ end) × (takes old content new ⊎ (new ≡ old)))
    ⊎ ((ended ≡ Sink) × (end ≢ Link) × ((n : ℕ) × breaks old (take n content) new))

-- a piece that was not taken came
pub record StopsPiece {S : Type 0} (gives fails : S → List ℕ → S → Type 0) (ended : S → Type 0) (old new : S) (stage : DecoderState) (end : GetEnd) : Type 0 where
  pub front : List ℕ
  pub rest : List ℕ
  pub over : Bool
  pub came : Came gives fails old (front ++ rest) new end
  pub is_over : over ≡ true → ended new
  pub cause : StopsAt stage front rest over end
