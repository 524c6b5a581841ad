-- The same bytes lead to one stage, with one content.
use Rattle.std.proofs.Common.{◌≡◌, ℕ, ◌⊎◌, inl, inr, true, List, [], ◌∷◌, ◌++◌, length, refl, sym, ap, ◌∙◌, subst, arith, length-append}
use Rattle.std.proofs.lemmas.Bool.{cases_lt, false≢true, le-leb, lt-leb}
use Rattle.std.proofs.lemmas.List.{append_assoc, append-nil}
use Rattle.std.specs.List.{AllByRecursion}
use Rattle.httparse.specs.Ascii.{crlf_bytes}
use Rattle.httparse.specs.Grammar.{ChunkLine, IsChunkLine, print_chunk_line, chunk_size, ReadsChunkLine, Field, LineEnd}
use Rattle.httparse.proofs.ChunkLemmas.{chunk_line_unique}
use Rattle.oc_http.specs.Unfinished.{IsUnfinished}
use Rattle.oc_http.proofs.Fronts.{shorter_front, same_front}
use Rattle.oc_chunked.specs.declared.fault.ChunkFault.TheVariants.{Bad, Long, Memory}
use Rattle.oc_chunked.specs.declared.limits.TheConstants.{MAX_SIZE_LINE_BYTES, MAX_TRAILER_BYTES}
use Rattle.oc_chunked.specs.Chunked.{Chunk, IsChunk, print_chunk, print_chunks, content_of, ReadsFields}
use Rattle.oc_chunked.specs.Stages.{DecoderState, in_size, in_chunk, in_trailer, ended, refused, is_final}
use Rattle.oc_chunked.specs.Taken.{IsSizeLine, IsShortChunk, IsClosedBy, LeadsOn, IsTaken}
use Rattle.oc_chunked.proofs.Forms.{size_form}
use Rattle.oc_chunked.proofs.Collected.{Outcome, unended, hopeless, too_long, whole, Collects, IsLast, collects_once}
use Rattle.oc_chunked.proofs.Bodies.{Agrees, IsComparable, stage_behind, IsBody, trailer, chunk, great, body_once, whole_not_body}

-- the outcome is no whole line
abbrev pub IsNoLine : Outcome ChunkLine → Type 0
IsNoLine (whole l) = ⊥
IsNoLine o = Unit {0}

-- the stage of a size line that is not whole
abbrev pub stage_in : List ℕ → Outcome ChunkLine → DecoderState
stage_in u unended = in_size u
stage_in u hopeless = refused Bad
stage_in u too_long = refused Long
stage_in u (whole l) = refused Memory

-- no size line is whole yet
pub record IsNoSize (u c : List ℕ) (s : DecoderState) : Type 0 where
  pub outcome : Outcome ChunkLine
  pub none : IsNoLine outcome
  pub collects : Collects ReadsChunkLine MAX_SIZE_LINE_BYTES u outcome
  pub content : c ≡ []
  pub stage : s ≡ stage_in u outcome

-- a size line, and the bytes after it
pub record IsSized (u c : List ℕ) (s : DecoderState) : Type 0 where
  pub line : ChunkLine
  pub behind : List ℕ
  pub size : IsSizeLine line
  pub bytes : u ≡ print_chunk_line line ++ behind
  pub body : IsBody (chunk_size line) behind c s

-- a trailer line and the bytes after it
sized_trailer : (front u c : List ℕ) (s : DecoderState) (o : Outcome (List Field × LineEnd)) → IsClosedBy front u c → Collects ReadsFields MAX_TRAILER_BYTES front o → s ≡ stage_behind front o → IsSized u c s
sized_trailer front u c s o closed collects stage = record {
  line = closed.line;
  behind = front;
  size = closed.size;
  bytes = closed.bytes_are;
  body = trailer closed.none (record { outcome = o; collects = collects; content = closed.content_is; stage = stage });
}

abbrev pub IsBehind : List ℕ → List ℕ → DecoderState → Type 0
IsBehind u c s = IsNoSize u c s ⊎ IsSized u c s

-- bytes that lead to a stage, as a size line and the bytes after it
pub behind : (s : DecoderState) (u c : List ℕ) → LeadsOn s u c → IsBehind u c s
behind (in_size line) u c part = inl (record {
  outcome = unended;
  none = tt;
  collects = (subst (IsUnfinished ReadsChunkLine) (sym part.bytes_are) part.unfinished, omega (arith, part.short, ap length part.bytes_are));
  content = part.content_is;
  stage = ap in_size (sym part.bytes_are);
})
behind (in_chunk left) u c part = inr (record {
  line = part.line;
  behind = part.behind;
  size = part.size;
  bytes = part.bytes_are;
  body = chunk part.some part.fits (inl (record { left = left; left_is = part.left_is; more = part.more; content = part.content_is; end = part.end; stage = refl }));
})
behind (in_trailer front) u c part = inr (sized_trailer front u c (in_trailer front) unended part.closed (part.unfinished, part.short) refl)
behind ended u c part = inr (sized_trailer part.front u c ended (whole part.fields) part.closed (part.reads, part.short) (rw (le-leb _ _ part.few) refl))
behind (refused Bad) u c (inl bad) = inl (record { outcome = hopeless; none = tt; collects = (bad.hopeless, bad.short); content = bad.content_is; stage = refl })
behind (refused Bad) u c (inr (inl big)) = inr (record {
  line = big.line;
  behind = [];
  size = big.size;
  bytes = big.bytes_are ∙ sym (append-nil (print_chunk_line big.line));
  body = great big.great (record { none = refl; content = big.content_is; stage = refl });
})
behind (refused Bad) u c (inr (inr (inl broken))) =
    let part = broken.part in inr (record {
      line = part.line;
      behind = part.behind ++ broken.byte ∷ [];
      size = part.size;
      bytes = broken.bytes_are ∙ ap (λ (z : List ℕ). z ++ broken.byte ∷ []) part.bytes_are ∙ append_assoc (print_chunk_line part.line) part.behind (broken.byte ∷ []);
      body = chunk part.some part.fits (inr (record {
        before = part.behind;
        byte = broken.byte;
        left = broken.left;
        bytes = refl;
        left_is = part.left_is;
        more = part.more;
        near = broken.near;
        content = part.content_is;
        end = part.end;
        other = broken.other;
        stage = refl;
      }));
    })
behind (refused Bad) u c (inr (inr (inr bad))) = elim bad.cause [
  | inl never ↦ inr (sized_trailer bad.front u c (refused Bad) hopeless bad.closed (never, bad.short) refl)
  | inr many ↦ inr (sized_trailer bad.front u c (refused Bad) (whole many.0) bad.closed (many.1, bad.short) (rw (lt-leb _ _ many.2) refl))
]
behind (refused Long) u c (inl line) = inl (record { outcome = too_long; none = tt; collects = (line.unfinished, line.long); content = line.content_is; stage = refl })
behind (refused Long) u c (inr fields) = inr (sized_trailer fields.front u c (refused Long) too_long fields.closed (fields.unfinished, fields.long) refl)
behind (refused Memory) u c none = absurd none

-- a size line as it is collected
collected : (l : ChunkLine) → IsSizeLine l → Collects ReadsChunkLine MAX_SIZE_LINE_BYTES (print_chunk_line l) (whole l)
collected l size = ((size.is_line, sym (append-nil (print_chunk_line l))), size.short)

last_of_stage : (u : List ℕ) (o : Outcome ChunkLine) → is_final (stage_in u o) ≡ true → IsLast o
last_of_stage u unended h = absurd (false≢true h)
last_of_stage u hopeless h = tt
last_of_stage u too_long h = tt
last_of_stage u (whole l) h = tt

comparable_line : (u x : List ℕ) (s : DecoderState) (o : Outcome ChunkLine) → s ≡ stage_in u o → IsComparable x s → (x ≡ []) ⊎ IsLast o
comparable_line u x s o is (inl none) = inl none
comparable_line u x s o is (inr final) = inr (last_of_stage u o (ap is_final (sym is) ∙ final))

-- bytes that are no line are not a whole one
not_whole : (l : ChunkLine) (o : Outcome ChunkLine) → IsNoLine o → whole l ≡ o → ⊥
not_whole l o none e = subst IsNoLine (sym e) none

-- no size line is at the front of bytes, where none is whole in their own front
pub no_size_no_line : (u x v c : List ℕ) (s : DecoderState) (l : ChunkLine) → IsNoSize u c s → IsSizeLine l → u ++ x ≡ print_chunk_line l ++ v → IsComparable x s → ⊥
no_size_no_line u x v c s l first size e comparable =
    let line = print_chunk_line l in
    elim (cases_lt (length u) (length line)) [
      | inr less ↦
          let found = shorter_front line u v x (sym e) less in
          let one = collects_once size_form MAX_SIZE_LINE_BYTES line found.0 (whole l) first.outcome (collected l size) (subst (λ (z : List ℕ). Collects ReadsChunkLine MAX_SIZE_LINE_BYTES z first.outcome) found.1 first.collects) (inr tt) in
          not_whole l first.outcome first.none one.same
      | inl less ↦
          let found = shorter_front u line x v e (omega (arith, less)) in
          let some : x ≡ [] → ⊥ = λ none. omega (arith, less, ap length e, length-append u x, ap length none, length-append line v) in
          let last : IsLast first.outcome = elim (comparable_line u x s first.outcome first.stage comparable) [ inl none ↦ absurd (some none) | inr last ↦ last ] in
          let one = collects_once size_form MAX_SIZE_LINE_BYTES u found.0 first.outcome (whole l) first.collects (subst (λ (z : List ℕ). Collects ReadsChunkLine MAX_SIZE_LINE_BYTES z (whole l)) found.1 (collected l size)) (inr last) in
          not_whole l first.outcome first.none (sym one.same)
    ]

-- a size line at the front is the one that was taken
pub same_line : (l k : ChunkLine) (v w : List ℕ) → IsChunkLine l → IsChunkLine k → print_chunk_line l ++ v ≡ print_chunk_line k ++ w → (l ≡ k) × (v ≡ w)
same_line l k v w is_l is_k e = chunk_line_unique (print_chunk_line l ++ v) l k v w (is_l, refl) (is_k, e)

sized_once : (u x c d : List ℕ) (s t : DecoderState) → IsSized u c s → IsSized (u ++ x) d t → IsComparable x s → Agrees x s t c d
sized_once u x c d s t first second comparable =
    let text : print_chunk_line first.line ++ (first.behind ++ x) ≡ print_chunk_line second.line ++ second.behind = sym (append_assoc (print_chunk_line first.line) first.behind x) ∙ ap (λ (z : List ℕ). z ++ x) (sym first.bytes) ∙ second.bytes in
    let same = same_line first.line second.line (first.behind ++ x) second.behind first.size.is_line second.size.is_line text in
    let body = subst (λ (z : List ℕ). IsBody (chunk_size first.line) z d t) (sym same.1) (subst (λ (n : ℕ). IsBody n second.behind d t) (sym (ap chunk_size same.0)) second.body) in
    body_once (chunk_size first.line) first.behind x c d s t first.body body comparable

no_size_once : (u x c d : List ℕ) (s t : DecoderState) → IsNoSize u c s → IsNoSize (u ++ x) d t → IsComparable x s → Agrees x s t c d
no_size_once u x c d s t first second comparable =
    let one = collects_once size_form MAX_SIZE_LINE_BYTES u x first.outcome second.outcome first.collects second.collects (comparable_line u x s first.outcome first.stage comparable) in
    let same : u ≡ u ++ x = sym (append-nil u) ∙ ap (λ (z : List ℕ). u ++ z) (sym one.none) in
    record {
      none = one.none;
      stage = first.stage ∙ ap (λ (z : List ℕ). stage_in z first.outcome) same ∙ ap (stage_in (u ++ x)) one.same ∙ sym second.stage;
      content = first.content ∙ sym second.content;
    }

behind_once : (u x c d : List ℕ) (s t : DecoderState) → IsBehind u c s → IsBehind (u ++ x) d t → IsComparable x s → Agrees x s t c d
behind_once u x c d s t (inl first) (inl second) comparable = no_size_once u x c d s t first second comparable
behind_once u x c d s t (inl first) (inr second) comparable = absurd (no_size_no_line u x second.behind c s second.line first second.size second.bytes comparable)
behind_once u x c d s t (inr first) (inl second) comparable =
    let text : (u ++ x) ++ [] ≡ print_chunk_line first.line ++ (first.behind ++ x) = append-nil (u ++ x) ∙ ap (λ (z : List ℕ). z ++ x) first.bytes ∙ append_assoc (print_chunk_line first.line) first.behind x in
    absurd (no_size_no_line (u ++ x) [] (first.behind ++ x) d t first.line second first.size text (inl refl))
behind_once u x c d s t (inr first) (inr second) comparable = sized_once u x c d s t first second comparable

-- no whole chunk follows a size line whose chunk is not taken whole
pub chunk_not_sized : (u x rest c : List ℕ) (s : DecoderState) (k : Chunk) → IsChunk k → u ++ x ≡ print_chunk k ++ rest → IsSized u c s → IsComparable x s → ⊥
chunk_not_sized u x rest c s k is e first comparable =
    let text : print_chunk_line first.line ++ (first.behind ++ x) ≡ print_chunk_line k.line ++ ((k.bytes ++ crlf_bytes) ++ rest) =
    sym (append_assoc (print_chunk_line first.line) first.behind x) ∙ ap (λ (z : List ℕ). z ++ x) (sym first.bytes) ∙ e ∙ append_assoc (print_chunk_line k.line) (k.bytes ++ crlf_bytes) rest in
    let same = same_line first.line k.line (first.behind ++ x) ((k.bytes ++ crlf_bytes) ++ rest) first.size.is_line is.line text in
    let size = ap chunk_size same.0 in
    let bytes : first.behind ++ x ≡ k.bytes ++ (crlf_bytes ++ rest) = same.1 ∙ append_assoc k.bytes crlf_bytes rest in
    elim first.body [
      | trailer none body ↦ omega (arith, none, size, is.some)
      | great over body ↦ omega (arith, over, size, is.fits)
      | chunk some fits body ↦ whole_not_body (chunk_size first.line) k.bytes rest first.behind x c s (is.whole ∙ sym size) bytes body comparable
    ]

-- no whole chunk follows those that were taken
no_more_chunk : (u x rest c : List ℕ) (s : DecoderState) (k : Chunk) → IsShortChunk k → u ++ x ≡ print_chunk k ++ rest → IsBehind u c s → IsComparable x s → ⊥
no_more_chunk u x rest c s k short e (inl first) comparable =
    no_size_no_line u x ((k.bytes ++ crlf_bytes) ++ rest) c s k.line first (record { is_line = short.chunk.line; short = short.short }) (e ∙ append_assoc (print_chunk_line k.line) (k.bytes ++ crlf_bytes) rest) comparable
no_more_chunk u x rest c s k short e (inr first) comparable = chunk_not_sized u x rest c s k short.chunk e first comparable

pub record SameChunk (k m : Chunk) (v w : List ℕ) : Type 0 where
  pub bytes : k.bytes ≡ m.bytes
  pub rest : v ≡ w

-- two chunks at the front of bytes carry the same bytes
pub same_chunk : (k m : Chunk) (v w : List ℕ) → IsChunk k → IsChunk m → print_chunk k ++ v ≡ print_chunk m ++ w → SameChunk k m v w
same_chunk k m v w is_k is_m e =
    let text : print_chunk_line k.line ++ ((k.bytes ++ crlf_bytes) ++ v) ≡ print_chunk_line m.line ++ ((m.bytes ++ crlf_bytes) ++ w) =
    sym (append_assoc (print_chunk_line k.line) (k.bytes ++ crlf_bytes) v) ∙ e ∙ append_assoc (print_chunk_line m.line) (m.bytes ++ crlf_bytes) w in
    let line = same_line k.line m.line ((k.bytes ++ crlf_bytes) ++ v) ((m.bytes ++ crlf_bytes) ++ w) is_k.line is_m.line text in
    let long : length k.bytes ≡ length m.bytes = is_k.whole ∙ ap chunk_size line.0 ∙ sym is_m.whole in
    let both : k.bytes ++ (crlf_bytes ++ v) ≡ m.bytes ++ (crlf_bytes ++ w) = sym (append_assoc k.bytes crlf_bytes v) ∙ line.1 ∙ append_assoc m.bytes crlf_bytes w in
    let fronts = same_front k.bytes m.bytes (crlf_bytes ++ v) (crlf_bytes ++ w) both long in
    record { bytes = fronts.0; rest = (same_front crlf_bytes crlf_bytes v w fronts.1 refl).1 }

-- chunk for chunk
walk : (ks ms : List Chunk) (u w x c d : List ℕ) (s t : DecoderState) → AllByRecursion IsShortChunk ks → AllByRecursion IsShortChunk ms → IsBehind u c s → IsBehind w d t → (print_chunks ks ++ u) ++ x ≡ print_chunks ms ++ w → IsComparable x s → Agrees x s t (content_of ks ++ c) (content_of ms ++ d)
walk [] [] u w x c d s t all every first second e comparable =
    behind_once u x c d s t first (subst (λ (z : List ℕ). IsBehind z d t) (sym e) second) comparable
walk [] (m ∷ ms) u w x c d s t all every first second e comparable =
    absurd (no_more_chunk u x (print_chunks ms ++ w) c s m every.0 (e ∙ append_assoc (print_chunk m) (print_chunks ms) w) first comparable)
walk (k ∷ ks) [] u w x c d s t all every first second e comparable =
    let text : w ++ [] ≡ print_chunk k ++ ((print_chunks ks ++ u) ++ x) = append-nil w ∙ sym e ∙ ap (λ (z : List ℕ). z ++ x) (append_assoc (print_chunk k) (print_chunks ks) u) ∙ append_assoc (print_chunk k) (print_chunks ks ++ u) x in
    absurd (no_more_chunk w [] ((print_chunks ks ++ u) ++ x) d t k all.0 text second (inl refl))
walk (k ∷ ks) (m ∷ ms) u w x c d s t all every first second e comparable =
    let text : print_chunk k ++ ((print_chunks ks ++ u) ++ x) ≡ print_chunk m ++ (print_chunks ms ++ w) = sym (append_assoc (print_chunk k) (print_chunks ks ++ u) x) ∙ ap (λ (z : List ℕ). z ++ x) (sym (append_assoc (print_chunk k) (print_chunks ks) u)) ∙ e ∙ append_assoc (print_chunk m) (print_chunks ms) w in
    let same = same_chunk k m ((print_chunks ks ++ u) ++ x) (print_chunks ms ++ w) (all.0).chunk (every.0).chunk text in
    let rest = walk ks ms u w x c d s t all.1 every.1 first second same.rest comparable in
    record {
      none = rest.none;
      stage = rest.stage;
      content = append_assoc k.bytes (content_of ks) c ∙ ap (λ (z : List ℕ). z ++ (content_of ks ++ c)) same.bytes ∙ ap (λ (z : List ℕ). m.bytes ++ z) rest.content ∙ sym (append_assoc m.bytes (content_of ms) d);
    }

-- the same bytes lead to one stage, with one content; after a stage that takes none no bytes follow
pub taken_once : (bytes x c d : List ℕ) (s t : DecoderState) → IsTaken bytes c s → IsTaken (bytes ++ x) d t → IsComparable x s → Agrees x s t c d
taken_once bytes x c d s t first second comparable =
    let one = walk first.chunks second.chunks first.behind second.behind x first.more second.more s t first.all second.all (behind s first.behind first.more first.leads) (behind t second.behind second.more second.leads)
    (ap (λ (z : List ℕ). z ++ x) (sym first.bytes_are) ∙ second.bytes_are) comparable in
    record { none = one.none; stage = one.stage; content = first.content_is ∙ one.content ∙ sym second.content_is }
