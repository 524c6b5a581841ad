-- A byte more of the trailer fields.
use Rattle.std.proofs.Common.{ℕ, ◌+◌, ◌<◌, ◌≤◌, inl, inr, List, [], ◌∷◌, ◌++◌, length, refl, ap, ◌∙◌, subst, arith, length-append}
use Rattle.std.proofs.lemmas.List.{append_assoc, append-nil}
use Rattle.httparse.specs.Ascii.{line_feed}
use Rattle.httparse.specs.Grammar.{print_chunk_line, Field, LineEnd, NeverHasSection}
use Rattle.oc_base.specs.declared.limits.TheConstants.{MAX_FIELDS}
use Rattle.oc_http.specs.Unfinished.{IsUnfinished}
use Rattle.oc_chunked.specs.Chunked.{ReadsFields}
use Rattle.oc_chunked.specs.declared.fault.ChunkFault.TheVariants.{Bad, Long}
use Rattle.oc_chunked.specs.declared.limits.TheConstants.{MAX_TRAILER_BYTES}
use Rattle.oc_chunked.specs.Stages.{in_trailer, ended, refused}
use Rattle.oc_chunked.specs.Taken.{Takes, IsClosedBy}
use Rattle.oc_chunked.proofs.Forms.{fields_form, whole_at_end}
use Rattle.oc_chunked.proofs.Steps.{Takes-behind}

-- one byte more after the size line
closed_more : (front behind more : List ℕ) (b : ℕ) → IsClosedBy front behind more → IsClosedBy (front ++ b ∷ []) (behind ++ b ∷ []) (more ++ [])
closed_more front behind more b closed = record {
  line = closed.line;
  size = closed.size;
  none = closed.none;
  bytes_are = ap (λ (z : List ℕ). z ++ b ∷ []) closed.bytes_are ∙ append_assoc (print_chunk_line closed.line) front (b ∷ []);
  content_is = append-nil more ∙ closed.content_is;
}

-- fields that are still unfinished
pub trailer_more : (front : List ℕ) (b : ℕ) → (IsUnfinished ReadsFields front → IsUnfinished ReadsFields (front ++ b ∷ [])) → length front + 1 < MAX_TRAILER_BYTES → Takes (in_trailer front) (b ∷ []) [] (in_trailer (front ++ b ∷ []))
trailer_more front b goes short = Takes-behind (in_trailer front) (in_trailer (front ++ b ∷ [])) (b ∷ []) [] (λ behind more part. record {
  closed = closed_more front behind more b part.closed;
  unfinished = goes part.unfinished;
  short = omega (arith, length-append front (b ∷ []));
})

-- fields that are too long
pub trailer_long : (front : List ℕ) (b : ℕ) → (IsUnfinished ReadsFields front → IsUnfinished ReadsFields (front ++ b ∷ [])) → MAX_TRAILER_BYTES ≤ length front + 1 → Takes (in_trailer front) (b ∷ []) [] (refused Long)
trailer_long front b goes long = Takes-behind (in_trailer front) (refused Long) (b ∷ []) [] (λ behind more part.
    inr (record {
      front = front ++ b ∷ [];
      closed = closed_more front behind more b part.closed;
      unfinished = goes part.unfinished;
      long = omega (arith, part.short, length-append front (b ∷ []));
    }))

-- a line that is no field
pub trailer_bad : (front : List ℕ) → (length front < MAX_TRAILER_BYTES → NeverHasSection (front ++ line_feed ∷ [])) → Takes (in_trailer front) (line_feed ∷ []) [] (refused Bad)
trailer_bad front never = Takes-behind (in_trailer front) (refused Bad) (line_feed ∷ []) [] (λ behind more part.
    inr (inr (inr (record {
      front = front ++ line_feed ∷ [];
      closed = closed_more front behind more line_feed part.closed;
      cause = inl (record {
        before = front;
        ends = refl;
        unfinished = part.unfinished;
        never = λ text fields rest. never part.short text fields.0 fields.1 rest;
      });
      short = omega (arith, part.short, length-append front (line_feed ∷ []));
    }))))

-- fields that the last byte makes whole have nothing after them
whole_fields : (front : List ℕ) (b : ℕ) (fields : List Field × LineEnd) (rest : List ℕ) → IsUnfinished ReadsFields front → ReadsFields (front ++ b ∷ []) fields rest → ReadsFields (front ++ b ∷ []) fields []
whole_fields front b fields rest unfinished reads =
    let none = whole_at_end fields_form front b fields rest unfinished reads in
    subst (λ (z : List ℕ). ReadsFields (front ++ b ∷ []) fields z) none reads

-- all the fields
pub trailer_end : (front : List ℕ) (b : ℕ) (fields : List Field × LineEnd) (rest : List ℕ) → ReadsFields (front ++ b ∷ []) fields rest → length fields.0 ≤ MAX_FIELDS → Takes (in_trailer front) (b ∷ []) [] ended
trailer_end front b fields rest reads few = Takes-behind (in_trailer front) ended (b ∷ []) [] (λ behind more part. record {
  front = front ++ b ∷ [];
  fields = fields;
  closed = closed_more front behind more b part.closed;
  reads = whole_fields front b fields rest part.unfinished reads;
  few = few;
  short = omega (arith, part.short, length-append front (b ∷ []));
})

-- too many fields
pub trailer_many : (front : List ℕ) (b : ℕ) (fields : List Field × LineEnd) (rest : List ℕ) → ReadsFields (front ++ b ∷ []) fields rest → MAX_FIELDS < length fields.0 → Takes (in_trailer front) (b ∷ []) [] (refused Bad)
trailer_many front b fields rest reads many = Takes-behind (in_trailer front) (refused Bad) (b ∷ []) [] (λ behind more part.
    inr (inr (inr (record {
      front = front ++ b ∷ [];
      closed = closed_more front behind more b part.closed;
      cause = inr (fields, whole_fields front b fields rest part.unfinished reads, many);
      short = omega (arith, part.short, length-append front (b ∷ []));
    }))))
