-- The spans of the groups, as frames and bytes are added.
use Rattle.std.proofs.Common.{◌≡◌, ℕ, zero, suc, ◌+◌, ◌<◌, Bool, true, false, List, [], ◌∷◌, ◌++◌, length, get_or, drop, insert, Some, nat_lt, flat_map, add-zero, refl, sym, ap, subst, ◌∙◌, arith}
use Rattle.std.proofs.lemmas.List.{length-append, get_or_append_left, nil_from_length, append-nil}
use Rattle.std.proofs.lemmas.List.Concat.{flat_map-append}
use Rattle.std.proofs.lemmas.Bool.{ltb-true, lt-ltb}
use Rattle.oc_content.specs.declared.heading.Heading.{Heading}
use Rattle.oc_content.specs.declared.track.Span.{Span}
use Rattle.oc_base.specs.declared.group.Group.{Group}
use Rattle.oc_content.specs.Entries.{entry_of}
use Rattle.oc_content.specs.ContentFile.{grown}
use Rattle.oc_content.specs.Headings.{entry_at}
use Rattle.oc_content.specs.Indexes.{changed, bytes_at, IsSpan, AreSpans, IsTracked, AreTracked, span_of}

-- the bytes of a span stay when a frame is added
bytes_at-more : (bodies : List (List ℕ)) (body : List ℕ) (s : Span) → s.frame < length bodies → bytes_at (bodies ++ body ∷ []) s ≡ bytes_at bodies s
bytes_at-more bodies body s h = ap (drop s.skip) (get_or_append_left bodies (body ∷ []) [] s.frame h)

-- a span keeps its properties with one more body
IsSpan-more : (bodies : List (List ℕ)) (body group : List ℕ) (at : ℕ) (s : Span) → IsSpan bodies group at s → IsSpan (bodies ++ body ∷ []) group at s
IsSpan-more bodies body group at s is =
    let same = get_or_append_left bodies (body ∷ []) [] s.frame is.within in
    record {
      start = is.start;
      within = omega (arith, is.within, length-append bodies (body ∷ []));
      some = subst (λ (b : List ℕ). 0 < length (drop s.skip b)) (sym same) is.some;
      seals = is.seals;
      says = subst (λ (b : List ℕ). entry_of b ≡ Some (record { group = group; start = at; bytes = drop s.skip b; seals = is.seals })) (sym same) is.says;
    }

-- spans of fewer frames are spans of more
AreSpans-more : (bodies : List (List ℕ)) (body group : List ℕ) (at : ℕ) (ss : List Span) → AreSpans bodies group at ss → AreSpans (bodies ++ body ∷ []) group at ss
AreSpans-more bodies body group at [] are = tt
AreSpans-more bodies body group at (s ∷ ss) are = (
  IsSpan-more bodies body group at s are.0,
  subst (λ (b : List ℕ). AreSpans (bodies ++ body ∷ []) group (at + length b) ss) (sym (bytes_at-more bodies body s are.0.within)) (AreSpans-more bodies body group (at + length (bytes_at bodies s)) ss are.1),
)

-- with the same bytes
flat_map-more : (bodies : List (List ℕ)) (body group : List ℕ) (at : ℕ) (ss : List Span) → AreSpans bodies group at ss → flat_map (bytes_at (bodies ++ body ∷ [])) ss ≡ flat_map (bytes_at bodies) ss
flat_map-more bodies body group at [] are = refl
flat_map-more bodies body group at (s ∷ ss) are =
    let here : bytes_at (bodies ++ body ∷ []) s ≡ bytes_at bodies s = bytes_at-more bodies body s are.0.within in
    let rest : flat_map (bytes_at (bodies ++ body ∷ [])) ss ≡ flat_map (bytes_at bodies) ss = flat_map-more bodies body group (at + length (bytes_at bodies s)) ss are.1 in
    ap (λ (b : List ℕ). b ++ flat_map (bytes_at (bodies ++ body ∷ [])) ss) here ∙ ap (λ (b : List ℕ). bytes_at bodies s ++ b) rest

-- each group stays tracked when a frame is added
pub AreTracked-more : (bodies : List (List ℕ)) (body : List ℕ) (ks : List Group) (ps : List (List Span)) → AreTracked bodies ks ps → AreTracked (bodies ++ body ∷ []) ks ps
AreTracked-more bodies body [] [] are = tt
AreTracked-more bodies body [] (p ∷ ps) are = absurd are
AreTracked-more bodies body (k ∷ ks) [] are = absurd are
AreTracked-more bodies body (k ∷ ks) (p ∷ ps) are = (
  record {
    spans = AreSpans-more bodies body k.name 0 p are.0.spans;
    bytes = flat_map-more bodies body k.name 0 p are.0.spans ∙ are.0.bytes;
  },
  AreTracked-more bodies body ks ps are.1,
)

-- one span more, which begins where the others end
AreSpans-push : (bodies : List (List ℕ)) (group : List ℕ) (at : ℕ) (ss : List Span) (s : Span) → AreSpans bodies group at ss → IsSpan bodies group (at + length (flat_map (bytes_at bodies) ss)) s → AreSpans bodies group at (ss ++ s ∷ [])
AreSpans-push bodies group at [] s are is = (subst (λ (n : ℕ). IsSpan bodies group n s) (add-zero at) is, tt)
AreSpans-push bodies group at (t ∷ ss) s are is =
    let there : at + length (flat_map (bytes_at bodies) (t ∷ ss)) ≡ at + length (bytes_at bodies t) + length (flat_map (bytes_at bodies) ss) =
    omega (arith, length-append (bytes_at bodies t) (flat_map (bytes_at bodies) ss)) in (
      are.0,
      AreSpans-push bodies group (at + length (bytes_at bodies t)) ss s are.1 (subst (λ (n : ℕ). IsSpan bodies group n s) there is),
    )

-- a number that is not above 0
not_positive : (n m : ℕ) → nat_lt 0 n ≡ false → n ≡ m → m ≡ 0
not_positive zero m e is = sym is
not_positive (suc n) m e is =
    let one : nat_lt 0 (suc n) ≡ true = lt-ltb 0 (suc n) (omega arith) in
    absurd cc

-- the bytes of an entry at the end of a group, in the frame of this number
pub IsTracked-push : (bodies : List (List ℕ)) (k : Group) (ss : List Span) (h : Heading) (frame count : ℕ) (body : List ℕ) → get_or bodies frame [] ≡ body → frame < length bodies → entry_of body ≡ Some (entry_at h body) → count ≡ length (drop h.skip body) → h.group ≡ k.name → h.start ≡ length k.bytes → IsTracked bodies k ss → IsTracked bodies (grown (entry_at h body) k) (ss ++ span_of h count frame)
IsTracked-push bodies k ss h frame count body is within says many name start tracked = by_count (nat_lt 0 count) refl where
  spans : AreSpans bodies h.group 0 ss
  spans = subst (λ (g : List ℕ). AreSpans bodies g 0 ss) (sym name) tracked.spans

  by_count : (b : Bool) → nat_lt 0 count ≡ b → IsTracked bodies (grown (entry_at h body) k) (ss ++ span_of h count frame)
  by_count false e =
      let none : length (drop h.skip body) ≡ 0 = not_positive count (length (drop h.skip body)) e many in
      let empty : drop h.skip body ≡ [] = nil_from_length (drop h.skip body) none in
      rw (e, append-nil ss) (record {
        spans = spans;
        bytes = tracked.bytes ∙ (sym (append-nil k.bytes) ∙ ap (λ (b : List ℕ). k.bytes ++ b) (sym empty));
      })
  by_count true e =
      let s : Span = record { frame = frame; start = h.start; skip = h.skip } in
      let here : bytes_at bodies s ≡ drop h.skip body = ap (drop h.skip) is in
      let end : h.start ≡ 0 + length (flat_map (bytes_at bodies) ss) = omega (arith, start, ap length tracked.bytes) in
      rw e (record {
        spans = AreSpans-push bodies h.group 0 ss s spans (record {
          start = end;
          within = within;
          some = subst (λ (b : List ℕ). 0 < length b) (sym here) (omega (arith, ltb-true 0 count e, many));
          seals = h.seals;
          says = ap entry_of is ∙ (says ∙ ap (λ (n : ℕ). Some (record { group = h.group; start = n; bytes = drop h.skip body; seals = h.seals })) end ∙ ap (λ (b : List ℕ). Some (record { group = h.group; start = 0 + length (flat_map (bytes_at bodies) ss); bytes = b; seals = h.seals })) (sym here));
        });
        bytes = flat_map-append (bytes_at bodies) ss (s ∷ []) ∙ (ap (λ (b : List ℕ). b ++ flat_map (bytes_at bodies) (s ∷ [])) tracked.bytes ∙ ap (λ (b : List ℕ). k.bytes ++ b) (append-nil (bytes_at bodies s) ∙ here));
      })

-- a change of one group and of its spans
pub AreTracked-changed : (bodies : List (List ℕ)) (ks : List Group) (ps : List (List Span)) (i : ℕ) (f : Group → Group) (h : List Span → List Span) → ((k : Group) (p : List Span) → k ≡ get_or ks i k → IsTracked bodies k p → IsTracked bodies (f k) (h p)) → AreTracked bodies ks ps → AreTracked bodies (changed f i ks) (changed h i ps)
AreTracked-changed bodies [] [] i f h step are = tt
AreTracked-changed bodies [] (p ∷ ps) i f h step are = absurd are
AreTracked-changed bodies (k ∷ ks) [] i f h step are = absurd are
AreTracked-changed bodies (k ∷ ks) (p ∷ ps) zero f h step are = (step k p refl are.0, are.1)
AreTracked-changed bodies (k ∷ ks) (p ∷ ps) (suc i) f h step are = (are.0, AreTracked-changed bodies ks ps i f h step are.1)

-- a group that is put in with its spans
pub AreTracked-insert : (bodies : List (List ℕ)) (ks : List Group) (ps : List (List Span)) (i : ℕ) (k : Group) (p : List Span) → IsTracked bodies k p → AreTracked bodies ks ps → AreTracked bodies (insert ks i k) (insert ps i p)
AreTracked-insert bodies ks ps zero k p is are = (is, are)
AreTracked-insert bodies [] [] (suc i) k p is are = (is, tt)
AreTracked-insert bodies [] (q ∷ ps) (suc i) k p is are = absurd are
AreTracked-insert bodies (j ∷ ks) [] (suc i) k p is are = absurd are
AreTracked-insert bodies (j ∷ ks) (q ∷ ps) (suc i) k p is are = (are.0, AreTracked-insert bodies ks ps i k p is are.1)
