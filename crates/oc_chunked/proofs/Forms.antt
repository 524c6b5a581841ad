-- Size lines and trailer fields: unfinished ones.
use Rattle.std.proofs.Common.{◌≡◌, ℕ, inl, inr, List, [], ◌∷◌, ◌++◌, sym, ap, ◌∙◌}
use Rattle.std.specs.List.{flat_map}
use Rattle.std.proofs.lemmas.List.{append_assoc}
use Rattle.httparse.specs.Ascii.{line_feed}
use Rattle.httparse.specs.Grammar.{LineEnd, Field, print_field, print_section, ChunkLine, print_chunk_line, print_extension, ReadsChunkLine}
use Rattle.httparse.proofs.ChunkLemmas.{chunk_line_unique}
use Rattle.httparse.proofs.GrammarLemmas.{section_unique}
use Rattle.oc_http.specs.Unfinished.{IsUnfinished}
use Rattle.oc_http.proofs.LineEnds.{ended}
use Rattle.oc_http.proofs.Heads.{IsForm}
use Rattle.oc_http.proofs.Forms.{before_feed, print_end-ended}
use Rattle.oc_chunked.specs.Chunked.{ReadsFields}
use Rattle.oc_chunked.proofs.LineEnds.{ends_before}

-- a size line without its line feed
abbrev size_front : ChunkLine → List ℕ
size_front l = (l.digits ++ l.pad ++ print_extension l.extension) ++ 13 ∷ []

size-ended : (l : ChunkLine) → print_chunk_line l ≡ ended (size_front l)
unfolding print_chunk_line
size-ended l = sym (append_assoc (l.digits ++ l.pad ++ print_extension l.extension) (13 ∷ []) (line_feed ∷ []))

-- size lines are a form
pub size_form : IsForm ReadsChunkLine
size_form = record {
  line = size_front;
  front = λ bytes l rest reads. reads.1 ∙ ap (λ (x : List ℕ). x ++ rest) (size-ended l);
  again = λ bytes other l rest behind reads e. (reads.0, e ∙ ap (λ (x : List ℕ). x ++ behind) (sym (size-ended l)));
  unique = chunk_line_unique;
}

-- trailer fields without their last line feed
abbrev fields_front : List Field × LineEnd → List ℕ
fields_front fields = flat_map print_field fields.0 ++ before_feed fields.1

fields-ended : (fields : List Field × LineEnd) → print_section fields.0 fields.1 ≡ ended (fields_front fields)
fields-ended fields =
    ap (λ (end : List ℕ). flat_map print_field fields.0 ++ end) (print_end-ended fields.1)
    ∙ sym (append_assoc (flat_map print_field fields.0) (before_feed fields.1) (line_feed ∷ []))

fields_unique : (bytes : List ℕ) (s t : List Field × LineEnd) (r q : List ℕ) → ReadsFields bytes s r → ReadsFields bytes t q → (s ≡ t) × (r ≡ q)
fields_unique bytes s t r q x y =
    let same = section_unique bytes s.0 t.0 s.1 t.1 r q x y in
    (λ i. (same.0 i, same.1 i), same.2)

-- trailer fields are a form
pub fields_form : IsForm ReadsFields
fields_form = record {
  line = fields_front;
  front = λ bytes fields rest reads. reads.1 ∙ ap (λ (x : List ℕ). x ++ rest) (fields-ended fields);
  again = λ bytes other fields rest behind reads e. (reads.0, e ∙ ap (λ (x : List ℕ). x ++ behind) (sym (fields-ended fields)));
  unique = fields_unique;
}

-- a whole one is found at its last byte
pub whole_at_end : {T : Type 0} {Reads : List ℕ → T → List ℕ → Type 0} → IsForm Reads → (before : List ℕ) (b : ℕ) (tree : T) (rest : List ℕ) → IsUnfinished Reads before → Reads (before ++ b ∷ []) tree rest → rest ≡ []
whole_at_end form before b tree rest unfinished reads =
    elim (ends_before (form.line tree) rest before b (sym (form.front (before ++ b ∷ []) tree rest reads))) [
      | inl e ↦ e.0
      | inr found ↦ absurd (unfinished.no_tree tree found.0 (form.again (before ++ b ∷ []) before tree rest found.0 reads found.1))
    ]
