-- The span that binary search finds.
use Rattle.std.proofs.Common.{◌≡◌, ℕ, zero, suc, ◌+◌, ◌-◌, ◌<◌, ◌≤◌, true, false, leb, List, length, get_or, Option, Some, None, [], ◌∷◌, ◌++◌, drop, flat_map, refl, sym, ap, subst, ◌∙◌, arith}
use Rattle.std.specs.Option.{SomeIff}
use Rattle.std.specs.List.Sorted.{IsNonDecreasingBy, IsPartitionPoint}
use Rattle.std.proofs.Math.Seq.{drop-cons}
use Rattle.std.proofs.lemmas.Bool.{leb-true}
use Rattle.std.proofs.lemmas.Bool.Decides.{nat_tests}
use Rattle.oc_content.specs.declared.track.Span.{Span}
use Rattle.std.proofs.lemmas.List.{drop-drop, drop_at, length-append, get_or_default}
use Rattle.oc_content.specs.declared.track.Found.{Found}
use Rattle.oc_base.specs.declared.group.Group.{Group}
use Rattle.oc_content.specs.Indexes.{bytes_at, IsSpan, AreSpans, IsTracked}
use Rattle.oc_content.specs.Founds.{IsHit, IsRest}
use Rattle.oc_content.specs.Tracks.{IsLastBefore}

-- a test of this order that does not hold
leb_false : (a b : ℕ) → leb a b ≡ false → b < a
leb_false a b h = grind (arith, nat_tests)

-- the place before the point where the spans begin after a byte
pub last_before_point : (spans : List Span) (start i : ℕ) (r : Option ℕ) → SomeIff r (1 ≤ i) (i - 1) → i ≤ length spans → (IsNonDecreasingBy (λ s. s.start) spans → IsPartitionPoint (λ s. leb s.start start ≡ true) (λ s. leb s.start start ≡ false) spans i) → IsLastBefore spans start r
last_before_point spans start i None few within point =
    λ up k d least below. let p = point up in leb_false (get_or spans k d).start start (p.1 k d (omega (arith, few, least)) below)
last_before_point spans start i (Some j) some within point = (
  omega (arith, some.0, some.1, within),
  λ up. let p = point up in (
    λ k d least below. leb-true (get_or spans k d).start start (p.0 k d least (omega (arith, some.0, some.1, below))),
    λ k d least below. leb_false (get_or spans k d).start start (p.1 k d (omega (arith, some.0, some.1, least)) below),
  ),
)

-- a part of a list joined after another
drop_past : (n : ℕ) (xs ys : List ℕ) → length xs ≤ n → drop n (xs ++ ys) ≡ drop (n - length xs) ys
drop_past n xs ys h =
    let e : n ≡ length xs + (n - length xs) = omega (arith, h) in
    ap (λ (m : ℕ). drop m (xs ++ ys)) e ∙ (sym (drop-drop (n - length xs) (length xs) (xs ++ ys)) ∙ ap (drop (n - length xs)) (drop_at xs ys (length xs) refl))

-- no span begins before the first
starts_from : (bodies : List (List ℕ)) (g : List ℕ) (at : ℕ) (ss : List Span) → AreSpans bodies g at ss → (i : ℕ) (d : Span) → i < length ss → at ≤ (get_or ss i d).start
starts_from bodies g at [] are i d h = absurd (omega (arith, h))
starts_from bodies g at (s ∷ ss) are zero d h = omega (arith, are.0.start)
starts_from bodies g at (s ∷ ss) are (suc i) d h =
    omega (arith, starts_from bodies g (at + length (bytes_at bodies s)) ss are.1 i d (omega (arith, h)))

-- spans ascend
pub spans_ascend : (bodies : List (List ℕ)) (g : List ℕ) (at : ℕ) (ss : List Span) → AreSpans bodies g at ss → IsNonDecreasingBy (λ s. s.start) ss
spans_ascend bodies g at [] are i j d least below = absurd (omega (arith, below))
spans_ascend bodies g at (s ∷ ss) are zero zero d least below = omega arith
spans_ascend bodies g at (s ∷ ss) are zero (suc j) d least below =
    omega (arith, are.0.start, starts_from bodies g (at + length (bytes_at bodies s)) ss are.1 j d (omega (arith, below)))
spans_ascend bodies g at (s ∷ ss) are (suc i) zero d least below = absurd (omega (arith, least))
spans_ascend bodies g at (s ∷ ss) are (suc i) (suc j) d least below =
    spans_ascend bodies g (at + length (bytes_at bodies s)) ss are.1 i j d (omega (arith, least)) (omega (arith, below))

-- the last span that begins at a byte or before it holds that byte, and the rest from it on is there and after
pub record Holds (bodies : List (List ℕ)) (g : List ℕ) (at start i : ℕ) (ss : List Span) (d : Span) : Type 0 where
  pub span : IsSpan bodies g (get_or ss i d).start (get_or ss i d)
  pub here : start - (get_or ss i d).start < length (bytes_at bodies (get_or ss i d))
  pub rest : drop (start - at) (flat_map (bytes_at bodies) ss) ≡ drop (start - (get_or ss i d).start) (flat_map (bytes_at bodies) (drop i ss))

-- a span begins at its own start
own_start : (bodies : List (List ℕ)) (g : List ℕ) (at : ℕ) (s : Span) → IsSpan bodies g at s → IsSpan bodies g s.start s
own_start bodies g at s is = subst (λ (n : ℕ). IsSpan bodies g n s) (sym is.start) is

-- the last span that begins at a byte or before it holds it
pub span_holds : (bodies : List (List ℕ)) (g : List ℕ) (at start i : ℕ) (ss : List Span) (d : Span) → AreSpans bodies g at ss → start < at + length (flat_map (bytes_at bodies) ss) → i < length ss → (get_or ss i d).start ≤ start → (suc i < length ss → start < (get_or ss (suc i) d).start) → Holds bodies g at start i ss d
span_holds bodies g at start i [] d are end inside least next = absurd (omega (arith, inside))
span_holds bodies g at start zero (s ∷ []) d are end inside least next = record {
  span = own_start bodies g at s are.0;
  here = omega (arith, are.0.start, end, length-append (bytes_at bodies s) []);
  rest = ap (λ (n : ℕ). drop (start - n) (bytes_at bodies s ++ [])) (sym are.0.start);
}
span_holds bodies g at start zero (s ∷ t ∷ ss) d are end inside least next = record {
  span = own_start bodies g at s are.0;
  here = omega (arith, are.0.start, are.1.0.start, next (omega arith));
  rest = ap (λ (n : ℕ). drop (start - n) (flat_map (bytes_at bodies) (s ∷ t ∷ ss))) (sym are.0.start);
}
span_holds bodies g at start (suc i) (s ∷ ss) d are end inside least next =
    let after = at + length (bytes_at bodies s) in
    let from : after ≤ start = omega (arith, least, starts_from bodies g after ss are.1 i d (omega (arith, inside))) in
    let holds = span_holds bodies g after start i ss d are.1 (omega (arith, end, length-append (bytes_at bodies s) (flat_map (bytes_at bodies) ss))) (omega (arith, inside)) least (λ h. next (omega (arith, h))) in
    let past : start - at - length (bytes_at bodies s) ≡ start - after = omega arith in
    record {
      span = holds.span;
      here = holds.here;
      rest = drop_past (start - at) (bytes_at bodies s) (flat_map (bytes_at bodies) ss) (omega (arith, from)) ∙ (ap (λ (n : ℕ). drop n (flat_map (bytes_at bodies) ss)) past ∙ holds.rest);
    }

-- a group with a byte there has a span that begins at it or before it
pub found_none : (bodies : List (List ℕ)) (k : Group) (ss : List Span) (start : ℕ) → IsTracked bodies k ss → start < length k.bytes → IsLastBefore ss start None → ⊥
found_none bodies k [] start tracked within none = omega (arith, within, ap length tracked.bytes)
found_none bodies k (s ∷ ss) start tracked within none =
    omega (arith, tracked.spans.0.start, none (spans_ascend bodies k.name 0 (s ∷ ss) tracked.spans) 0 s (omega arith) (omega arith))

-- nothing is taken off a place
from_zero : (n : ℕ) (xs : List ℕ) → drop n xs ≡ drop (n - 0) xs
from_zero n xs = let e : n - 0 ≡ n = omega arith in ap (λ (m : ℕ). drop m xs) (sym e)

-- the last of these spans has the byte
pub found_some : (bodies : List (List ℕ)) (k : Group) (ss : List Span) (start i : ℕ) (f : Found) (d : Span) → IsTracked bodies k ss → start < length k.bytes → IsLastBefore ss start (Some i) → f.span ≡ i → f.skip + (get_or ss i d).start ≡ start → IsHit bodies k ss start f
found_some bodies k ss start i f d tracked within last is place =
    let part = last.1 (spans_ascend bodies k.name 0 ss tracked.spans) in
    let h = λ (e : Span). span_holds bodies k.name 0 start i ss e tracked.spans (omega (arith, within, ap length tracked.bytes)) last.0 (part.0 i e (omega arith) (omega arith)) (λ more. part.1 (suc i) e (omega arith) more) in
    let same = λ (e : Span). get_or_default ss i e d last.0 in
    let skip : f.skip ≡ start - (get_or ss i d).start = omega (arith, place) in
    record {
      at = (get_or ss i d).start;
      span = λ e. subst (λ (n : ℕ). IsSpan bodies k.name (get_or ss i d).start (get_or ss n e)) (sym is) (subst (λ (s : Span). IsSpan bodies k.name s.start (get_or ss i e)) (same e) (h e).span);
      place = omega (arith, place);
      here = λ e. subst (λ (n : ℕ). f.skip < length (bytes_at bodies (get_or ss n e))) (sym is) (omega (arith, (h e).here, skip, ap (λ (s : Span). s.start) (same e)));
      rest = ap (drop start) (sym tracked.bytes) ∙ (from_zero start (flat_map (bytes_at bodies) ss) ∙ (h d).rest ∙ (ap (λ (n : ℕ). drop n (flat_map (bytes_at bodies) (drop i ss))) (sym skip) ∙ ap (λ (n : ℕ). drop f.skip (flat_map (bytes_at bodies) (drop n ss))) (sym is)));
    }

-- the spans from a hit on
pub IsRest-hit : (bodies : List (List ℕ)) (k : Group) (path : List Span) (start : ℕ) (f : Found) → f.span < length path → IsHit bodies k path start f → IsRest bodies k start (drop f.span path) f.skip
IsRest-hit bodies k [] start f within hit = absurd (omega (arith, within))
IsRest-hit bodies k (s ∷ ss) start f within hit = record {
  first = get_or (s ∷ ss) f.span s;
  others = drop (suc f.span) (s ∷ ss);
  are = drop-cons (s ∷ ss) f.span s within;
  at = hit.at;
  span = hit.span s;
  place = hit.place;
  here = hit.here s;
  rest = hit.rest;
}
