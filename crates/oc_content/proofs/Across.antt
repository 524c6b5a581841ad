-- Bytes that are read across spans.
use Rattle.std.proofs.Common.{◌≡◌, ℕ, suc, ◌+◌, ◌-◌, ◌<◌, ◌≤◌, ◌⊎◌, inl, inr, min, List, [], ◌∷◌, ◌++◌, length, take, drop, get_or, flat_map, refl, sym, ap, subst, ◌∙◌, arith, zero-add}
use Rattle.std.proofs.lemmas.List.{length-drop, length-take-le, take_all, take-append-le, drop-append-le, append-nil, append_assoc, drop_more}
use Rattle.std.proofs.lemmas.Bool.{cases_lt}
use borrow.Rule.Slice.PartMut.{put_mid, post_of}
use Rattle.oc_content.specs.declared.track.Span.{Span}
use Rattle.oc_content.specs.Indexes.{bytes_at}
use Rattle.oc_content.specs.Founds.{BeginsWithin}

-- a prefix that goes past the first of two lists
pub take_beyond : (xs zs : List ℕ) (n : ℕ) → take (length xs + n) (xs ++ zs) ≡ xs ++ take n zs
take_beyond [] zs n = ap (λ (k : ℕ). take k zs) (zero-add n)
take_beyond (x ∷ xs) zs n =
    let e : suc (length xs) + n ≡ suc (length xs + n) = omega arith in
    rw e (ap (λ (l : List ℕ). x ∷ l) (take_beyond xs zs n))

-- a prefix of two lists in a row, as the parts of both
take_row : (m : ℕ) (xs ys : List ℕ) → take (min m (length xs)) xs ++ take (m - min m (length xs)) ys ≡ take m (xs ++ ys)
take_row m xs ys = by_order (cases_lt (length xs) m) where
  by_order : (length xs < m) ⊎ (m ≤ length xs) → take (min m (length xs)) xs ++ take (m - min m (length xs)) ys ≡ take m (xs ++ ys)
  by_order (inr le) =
      let p : min m (length xs) ≡ m = omega (arith, le) in
      let none : m - m ≡ 0 = omega arith in
      rw (p, none) (append-nil (take m xs) ∙ sym (take-append-le m xs ys le))
  by_order (inl lt) =
      let p : min m (length xs) ≡ length xs = omega (arith, lt) in
      let sum : length xs + (m - length xs) ≡ m = omega (arith, lt) in
      rw (p, take_all (length xs) xs (omega arith)) (sym (take_beyond xs ys (m - length xs)) ∙ ap (λ (k : ℕ). take k (xs ++ ys)) sum)

-- the bytes read from the first span, and those of the later spans, are those of all spans
pub read_step : (most count n skip : ℕ) (xs ys : List ℕ) → count ≤ most → skip ≤ length xs → n ≡ count + min (most - count) (length xs - skip) → take (n - count) (drop skip xs) ++ take (most - n) (drop 0 ys) ≡ take (most - count) (drop skip (xs ++ ys))
read_step most count n skip xs ys within inside is =
    let len : length xs - skip ≡ length (drop skip xs) = sym (length-drop skip xs) in
    let e : n - count ≡ min (most - count) (length (drop skip xs)) = omega (arith, is, len) in
    let f : most - n ≡ (most - count) - min (most - count) (length (drop skip xs)) = omega (arith, is, len, within) in
    rw (e, f) (take_row (most - count) (drop skip xs) ys ∙ ap (take (most - count)) (sym (drop-append-le skip xs ys inside)))

-- the buffer after a read into the part after its first bytes
pub read_behind : (count k more : ℕ) (buf part : List ℕ) → count ≤ length buf → more ≤ length part → take (count + more) (put_mid count k buf part) ≡ take count buf ++ take more part
read_behind count k more buf part within inside =
    let len : length (take count buf) ≡ count = length-take-le count buf within in
    ap (λ (n : ℕ). take (n + more) (take count buf ++ (part ++ post_of count k buf))) (sym len)
    ∙ (take_beyond (take count buf) (part ++ post_of count k buf) more ∙ ap (λ (l : List ℕ). take count buf ++ l) (take-append-le more part (post_of count k buf) inside))

-- the bytes read so far, and those of the spans to come, one span on
pub read_on : (frames : List (List ℕ)) (spans : List Span) (i : ℕ) (s : Span) (most count n skip : ℕ) (buf new whole : List ℕ) → i < length spans → s ≡ get_or spans i s → count ≤ most → BeginsWithin frames skip (drop i spans) → n ≡ count + min (most - count) (length (bytes_at frames s) - skip) → take n new ≡ take count buf ++ take (n - count) (drop skip (bytes_at frames s)) → take count buf ++ take (most - count) (drop skip (flat_map (bytes_at frames) (drop i spans))) ≡ whole → take n new ++ take (most - n) (drop 0 (flat_map (bytes_at frames) (drop (i + 1) spans))) ≡ whole
read_on frames spans i s most count n skip buf new whole inside item within begins is read so_far =
    let next : drop i spans ≡ s ∷ drop (i + 1) spans = drop_more spans i s inside ∙ ap (λ (t : Span). t ∷ drop (i + 1) spans) (sym item) in
    let first : skip ≤ length (bytes_at frames s) = subst (λ (ss : List Span). BeginsWithin frames skip ss) next begins in
    let rest = flat_map (bytes_at frames) (drop (i + 1) spans) in
    let given = take (n - count) (drop skip (bytes_at frames s)) in
    ap (λ (l : List ℕ). l ++ take (most - n) (drop 0 rest)) read
    ∙ (append_assoc (take count buf) given (take (most - n) (drop 0 rest))
    ∙ (ap (λ (l : List ℕ). take count buf ++ l) (read_step most count n skip (bytes_at frames s) rest within first is)
    ∙ (ap (λ (ss : List Span). take count buf ++ take (most - count) (drop skip (flat_map (bytes_at frames) ss))) (sym next) ∙ so_far)))

-- the place 0 is within the first span
pub begins_first : (frames : List (List ℕ)) (spans : List Span) → BeginsWithin frames 0 spans
begins_first frames [] = refl
begins_first frames (s ∷ ss) = omega arith
