-- The bytes after a size line lead to one stage.
use Rattle.std.proofs.Common.{◌≡◌, ◌≢◌, ℕ, ◌+◌, ◌-◌, ◌<◌, ◌≤◌, ◌⊎◌, inl, inr, true, false, List, [], ◌∷◌, ◌++◌, length, take, drop, slice_index, refl, sym, ap, ◌∙◌, subst, arith, length-append}
use Rattle.std.specs.Prelude.{nat_le, if◌then◌else◌}
use Rattle.std.proofs.lemmas.Bool.{cases_lt, false≢true}
use Rattle.std.proofs.lemmas.List.{append_assoc, append-nil, drop_at}
use Rattle.httparse.specs.Ascii.{crlf_bytes}
use Rattle.httparse.specs.Grammar.{Field, LineEnd}
use Rattle.oc_base.specs.declared.limits.TheConstants.{MAX_FIELDS}
use Rattle.oc_http.proofs.Fronts.{same_front}
use Rattle.oc_chunked.specs.Chunked.{ReadsFields}
use Rattle.oc_chunked.specs.declared.fault.ChunkFault.TheVariants.{Bad, Long}
use Rattle.oc_chunked.specs.declared.limits.TheConstants.{MAX_CHUNK_SIZE, MAX_TRAILER_BYTES}
use Rattle.oc_chunked.specs.Stages.{DecoderState, in_chunk, in_trailer, ended, refused, is_final}
use Rattle.oc_chunked.proofs.Forms.{fields_form}
use Rattle.oc_chunked.proofs.Collected.{Outcome, unended, hopeless, too_long, whole, Collects, IsLast, collects_once}

-- the same stage and the same content, and no bytes between
pub record Agrees (x : List ℕ) (s t : DecoderState) (c d : List ℕ) : Type 0 where
  pub none : x ≡ []
  pub stage : s ≡ t
  pub content : c ≡ d

-- no bytes lie between, or the first stage takes none
abbrev pub IsComparable : List ℕ → DecoderState → Type 0
IsComparable x s = (x ≡ []) ⊎ (is_final s ≡ true)

-- a part of a chunk of this size
pub record IsPart (size : ℕ) (v c : List ℕ) (s : DecoderState) : Type 0 where
  pub left : ℕ
  pub left_is : length v + left ≡ size + 2
  pub more : 0 < left
  pub content : c ≡ take size v
  pub end : drop size v ≡ take (length v - size) crlf_bytes
  pub stage : s ≡ in_chunk left

-- a chunk with a byte that is not that of CR LF
pub record IsBroken (size : ℕ) (v c : List ℕ) (s : DecoderState) : Type 0 where
  pub before : List ℕ
  pub byte : ℕ
  pub left : ℕ
  pub bytes : v ≡ before ++ byte ∷ []
  pub left_is : length before + left ≡ size + 2
  pub more : 0 < left
  pub near : left ≤ 2
  pub content : c ≡ take size before
  pub end : drop size before ≡ take (length before - size) crlf_bytes
  pub other : byte ≢ slice_index crlf_bytes (2 - left)
  pub stage : s ≡ refused Bad

abbrev pub IsChunkBody : ℕ → List ℕ → List ℕ → DecoderState → Type 0
IsChunkBody size v c s = IsPart size v c s ⊎ IsBroken size v c s

-- the byte after a chunk's bytes is a carriage return where a part of its end is there
first_of_end : (size : ℕ) (before rest : List ℕ) (b : ℕ) → length before ≡ size → drop size (before ++ b ∷ rest) ≡ 13 ∷ [] → b ≡ 13
first_of_end size before rest b long end =
    let e : b ∷ rest ≡ 13 ∷ [] = sym (drop_at before (b ∷ rest) size long) ∙ end in
    cc

-- the bytes after a chunk's own are the carriage return, where one came
one_behind : (size : ℕ) (v : List ℕ) → length v ≡ size + 1 → drop size v ≡ take (length v - size) crlf_bytes → drop size v ≡ 13 ∷ []
one_behind size v long end =
    let one : length v - size ≡ 1 = omega arith in
    end ∙ ap (λ (n : ℕ). take n crlf_bytes) one

-- a broken end is no part of an end
broken_not_part : (size : ℕ) (v c d : List ℕ) (s t : DecoderState) → IsBroken size v c s → IsPart size v d t → ⊥
broken_not_part size v c d s t broken part =
    let counts : length v ≡ length broken.before + 1 = ap length broken.bytes ∙ length-append broken.before (broken.byte ∷ []) in
    let two : broken.left ≡ 2 = omega (arith, counts, part.left_is, part.more, broken.left_is, broken.near) in
    let long : length broken.before ≡ size = omega (arith, broken.left_is, two) in
    let end = one_behind size v (omega (arith, counts, long)) part.end in
    let is : broken.byte ≡ 13 = first_of_end size broken.before [] broken.byte long (ap (drop size) (sym broken.bytes) ∙ end) in
    broken.other (is ∙ sym (ap (λ (n : ℕ). slice_index crlf_bytes (2 - n)) two))

nothing : (x : List ℕ) → length x ≡ 0 → x ≡ []
nothing [] none = refl
nothing (b ∷ x) none = absurd (omega (arith, none))

-- no bytes follow a broken chunk
broken_once : (size : ℕ) (v x c d : List ℕ) (s t : DecoderState) → IsBroken size v c s → IsBroken size (v ++ x) d t → Agrees x s t c d
broken_once size v x c d s t first second =
    let counts : length v ≡ length first.before + 1 = ap length first.bytes ∙ length-append first.before (first.byte ∷ []) in
    let more : length v + length x ≡ length second.before + 1 = sym (length-append v x) ∙ ap length second.bytes ∙ length-append second.before (second.byte ∷ []) in
    elim (cases_lt 0 (length x)) [
      | inl some ↦
          let long : length second.before ≡ length v = omega (arith, counts, more, first.left_is, first.near, second.left_is, second.more, some) in
          let same = same_front second.before v (second.byte ∷ []) x (sym second.bytes) long in
          absurd (broken_not_part size v c d s (in_chunk second.left) first (record {
            left = second.left;
            left_is = omega (arith, long, second.left_is);
            more = second.more;
            content = second.content ∙ ap (take size) (same.0);
            end = subst (λ (z : List ℕ). drop size z ≡ take (length z - size) crlf_bytes) (same.0) second.end;
            stage = refl;
          }))
      | inr less ↦
          let none = nothing x (omega (arith, less)) in
          let text : first.before ++ first.byte ∷ [] ≡ second.before ++ second.byte ∷ [] = sym first.bytes ∙ sym (append-nil v) ∙ ap (λ (z : List ℕ). v ++ z) (sym none) ∙ second.bytes in
          let same = same_front first.before second.before (first.byte ∷ []) (second.byte ∷ []) text (omega (arith, counts, more, ap length none)) in
          record {
            none = none;
            stage = first.stage ∙ sym second.stage;
            content = first.content ∙ ap (take size) (same.0) ∙ sym second.content;
          }
    ]

-- a part of a chunk tells the number of bytes that are left
part_once : (size : ℕ) (v x c d : List ℕ) (s t : DecoderState) → x ≡ [] → IsPart size v c s → IsPart size (v ++ x) d t → Agrees x s t c d
part_once size v x c d s t none first second =
    let same : v ++ x ≡ v = ap (λ (z : List ℕ). v ++ z) none ∙ append-nil v in
    let left : first.left ≡ second.left = omega (arith, first.left_is, second.left_is, ap length same) in
    record {
      none = none;
      stage = first.stage ∙ ap in_chunk left ∙ sym second.stage;
      content = first.content ∙ ap (take size) (sym same) ∙ sym second.content;
    }

-- a part takes bytes
part_not_final : (size : ℕ) (v c : List ℕ) (s : DecoderState) → IsPart size v c s → is_final s ≡ true → ⊥
part_not_final size v c s part final =
    let h : false ≡ true = ap is_final (sym part.stage) ∙ final in
    false≢true h

pub chunk_once : (size : ℕ) (v x c d : List ℕ) (s t : DecoderState) → IsChunkBody size v c s → IsChunkBody size (v ++ x) d t → IsComparable x s → Agrees x s t c d
chunk_once size v x c d s t (inl first) (inl second) (inl none) = part_once size v x c d s t none first second
chunk_once size v x c d s t (inl first) (inr second) (inl none) =
    let same : v ++ x ≡ v = ap (λ (z : List ℕ). v ++ z) none ∙ append-nil v in
    absurd (broken_not_part size v d c t s (subst (λ (z : List ℕ). IsBroken size z d t) same second) first)
chunk_once size v x c d s t (inl first) second (inr final) = absurd (part_not_final size v c s first final)
chunk_once size v x c d s t (inr first) (inl second) comparable = absurd (broken_before size v x c d s t first second)
  where
    broken_before : (size : ℕ) (v x c d : List ℕ) (s t : DecoderState) → IsBroken size v c s → IsPart size (v ++ x) d t → ⊥
    broken_before size v x c d s t first second =
        let counts : length v ≡ length first.before + 1 = ap length first.bytes ∙ length-append first.before (first.byte ∷ []) in
        let none = nothing x (omega (arith, counts, length-append v x, first.left_is, first.near, second.left_is, second.more)) in
        let same : v ++ x ≡ v = ap (λ (z : List ℕ). v ++ z) none ∙ append-nil v in
        broken_not_part size v c d s t first (subst (λ (z : List ℕ). IsPart size z d t) same second)
chunk_once size v x c d s t (inr first) (inr second) comparable = broken_once size v x c d s t first second

-- a whole chunk is more than a part of one, and is not broken
pub whole_not_body : (size : ℕ) (bytes rest v x c : List ℕ) (s : DecoderState) → length bytes ≡ size → v ++ x ≡ bytes ++ (crlf_bytes ++ rest) → IsChunkBody size v c s → IsComparable x s → ⊥
whole_not_body size bytes rest v x c s long e (inl part) (inl none) =
    omega (arith, part.left_is, part.more, long, ap length e, length-append v x, ap length none, length-append bytes (13 ∷ 10 ∷ rest))
whole_not_body size bytes rest v x c s long e (inl part) (inr final) = part_not_final size v c s part final
whole_not_body size bytes rest v x c s long e (inr broken) comparable =
    let text : broken.before ++ broken.byte ∷ x ≡ bytes ++ 13 ∷ 10 ∷ rest = sym (append_assoc broken.before (broken.byte ∷ []) x) ∙ ap (λ (z : List ℕ). z ++ x) (sym broken.bytes) ∙ e in
    elim (cases_lt broken.left 2) [
      | inl late ↦
          let one : broken.left ≡ 1 = omega (arith, late, broken.more) in
          let more : broken.before ++ broken.byte ∷ x ≡ (bytes ++ 13 ∷ []) ++ 10 ∷ rest = text ∙ sym (append_assoc bytes (13 ∷ []) (10 ∷ rest)) in
          let same = same_front broken.before (bytes ++ 13 ∷ []) (broken.byte ∷ x) (10 ∷ rest) more (omega (arith, broken.left_is, one, long, length-append bytes (13 ∷ []))) in
          let is : broken.byte ≡ 10 = cc (same.1) in
          broken.other (is ∙ sym (ap (λ (n : ℕ). slice_index crlf_bytes (2 - n)) one))
      | inr early ↦
          let two : broken.left ≡ 2 = omega (arith, early, broken.near) in
          let same = same_front broken.before bytes (broken.byte ∷ x) (13 ∷ 10 ∷ rest) text (omega (arith, broken.left_is, two, long)) in
          let is : broken.byte ≡ 13 = cc (same.1) in
          broken.other (is ∙ sym (ap (λ (n : ℕ). slice_index crlf_bytes (2 - n)) two))
    ]

-- the stage after trailer fields that were collected so far
abbrev pub stage_behind : List ℕ → Outcome (List Field × LineEnd) → DecoderState
stage_behind v unended = in_trailer v
stage_behind v hopeless = refused Bad
stage_behind v too_long = refused Long
stage_behind v (whole fields) = if nat_le (length fields.0) MAX_FIELDS then ended else refused Bad

pub record IsTrailerBody (v c : List ℕ) (s : DecoderState) : Type 0 where
  pub outcome : Outcome (List Field × LineEnd)
  pub collects : Collects ReadsFields MAX_TRAILER_BYTES v outcome
  pub content : c ≡ []
  pub stage : s ≡ stage_behind v outcome

-- the collecting has ended where its stage takes no bytes
last_of_final : (v : List ℕ) (o : Outcome (List Field × LineEnd)) → is_final (stage_behind v o) ≡ true → IsLast o
last_of_final v unended h = absurd (false≢true h)
last_of_final v hopeless h = tt
last_of_final v too_long h = tt
last_of_final v (whole fields) h = tt

comparable_outcome : (v x : List ℕ) (s : DecoderState) (o : Outcome (List Field × LineEnd)) → s ≡ stage_behind v o → IsComparable x s → (x ≡ []) ⊎ IsLast o
comparable_outcome v x s o is (inl none) = inl none
comparable_outcome v x s o is (inr final) = inr (last_of_final v o (ap is_final (sym is) ∙ final))

pub trailer_once : (v x c d : List ℕ) (s t : DecoderState) → IsTrailerBody v c s → IsTrailerBody (v ++ x) d t → IsComparable x s → Agrees x s t c d
trailer_once v x c d s t first second comparable =
    let one = collects_once fields_form MAX_TRAILER_BYTES v x first.outcome second.outcome first.collects second.collects (comparable_outcome v x s first.outcome first.stage comparable) in
    let same : v ≡ v ++ x = sym (append-nil v) ∙ ap (λ (z : List ℕ). v ++ z) (sym one.none) in
    record {
      none = one.none;
      stage = first.stage ∙ ap (λ (z : List ℕ). stage_behind z first.outcome) same ∙ ap (stage_behind (v ++ x)) one.same ∙ sym second.stage;
      content = first.content ∙ sym second.content;
    }

-- a size that is too great
pub record IsGreatBody (v c : List ℕ) (s : DecoderState) : Type 0 where
  pub none : v ≡ []
  pub content : c ≡ []
  pub stage : s ≡ refused Bad

-- the bytes after a size line with this size
pub data IsBody (size : ℕ) (v c : List ℕ) (s : DecoderState) : Type 0 where
  trailer : size ≡ 0 → IsTrailerBody v c s → IsBody size v c s
  chunk : 0 < size → size ≤ MAX_CHUNK_SIZE → IsChunkBody size v c s → IsBody size v c s
  great : MAX_CHUNK_SIZE < size → IsGreatBody v c s → IsBody size v c s

great_once : (v x c d : List ℕ) (s t : DecoderState) → IsGreatBody v c s → IsGreatBody (v ++ x) d t → Agrees x s t c d
great_once v x c d s t first second = record {
  none = ap (λ (z : List ℕ). z ++ x) (sym first.none) ∙ second.none;
  stage = first.stage ∙ sym second.stage;
  content = first.content ∙ sym second.content;
}

pub body_once : (size : ℕ) (v x c d : List ℕ) (s t : DecoderState) → IsBody size v c s → IsBody size (v ++ x) d t → IsComparable x s → Agrees x s t c d
body_once size v x c d s t (trailer n a) (trailer m b) comparable = trailer_once v x c d s t a b comparable
body_once size v x c d s t (trailer n a) (chunk m l b) comparable = absurd (omega (arith, n, m))
body_once size v x c d s t (trailer n a) (great m b) comparable = absurd (omega (arith, n, m))
body_once size v x c d s t (chunk n l a) (trailer m b) comparable = absurd (omega (arith, n, m))
body_once size v x c d s t (chunk n l a) (chunk m k b) comparable = chunk_once size v x c d s t a b comparable
body_once size v x c d s t (chunk n l a) (great m b) comparable = absurd (omega (arith, l, m))
body_once size v x c d s t (great n a) (trailer m b) comparable = absurd (omega (arith, n, m))
body_once size v x c d s t (great n a) (chunk m k b) comparable = absurd (omega (arith, n, k))
body_once size v x c d s t (great n a) (great m b) comparable = great_once v x c d s t a b
