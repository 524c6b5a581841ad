-- Pools that grow, and their unchanged parts.
use Rattle.std.proofs.Common.{◌≡◌, ℕ, ◌+◌, ◌-◌, ◌<◌, ◌≤◌, ◌≢◌, Bool, true, false, ◌==◌, List, [], ◌∷◌, ◌++◌, length, take, drop, set, get_or, refl, sym, ap, ◌∙◌, arith, length-append}
use Rattle.std.proofs.Math.Seq.{take-append_seam, take-length}
use Rattle.std.proofs.lemmas.Bool.{eqb-true}
use Rattle.std.proofs.lemmas.Bool.Decides.{nat_tests}
use Rattle.std.proofs.lemmas.List.{append-nil, drop-append-le, get_or_append_left, get_or-set_other, get_or-set_same, length-drop, length-set, take-append-le, take_all}
use Rattle.oc_world.specs.declared.pools.PoolPart.{PoolPart}
use Rattle.oc_world.specs.Letters.{IsKnown, IsWithin, KeepsPlaces, piece}

-- the bytes at each place are kept, from pools to pools
pub keeps_then : (a b c : List (List ℕ)) → KeepsPlaces a b → KeepsPlaces b c → KeepsPlaces a c
keeps_then a b c first second p within =
    let x = first p within in
    let y = second p x.0 in
    (y.0, y.1 ∙ x.1)

-- a pool that goes on has its earlier bytes
pub goes_on : (old new : List (List ℕ)) (p : PoolPart) (more : List ℕ) → length old ≤ length new → get_or new p.pool [] ≡ get_or old p.pool [] ++ more → IsWithin old p → IsWithin new p × (piece new p ≡ piece old p)
goes_on old new p more many goes within =
    let held = get_or old p.pool [] in
    let behind : p.start ≤ length held = omega (arith, within.fits) in
    let rest : p.count ≤ length (drop p.start held) = omega (arith, length-drop p.start held, within.fits) in
    let longer : length (get_or new p.pool []) ≡ length held + length more = ap (λ (l : List ℕ). length l) goes ∙ length-append held more in (
      record { there = omega (arith, within.there, many); fits = omega (arith, longer, within.fits) },
      ap (λ (l : List ℕ). take p.count (drop p.start l)) goes
          ∙ ap (take p.count) (drop-append-le p.start held more behind)
          ∙ take-append-le p.count (drop p.start held) more rest,
    )

-- one pool more
pub keeps_beside : (old : List (List ℕ)) (one : List ℕ) → KeepsPlaces old (old ++ one ∷ [])
keeps_beside old one p within =
    goes_on old (old ++ one ∷ []) p [] (omega (arith, length-append old (one ∷ []))) (get_or_append_left old (one ∷ []) [] p.pool within.there ∙ sym (append-nil (get_or old p.pool []))) within

-- bytes that are put after a pool
pub keeps_behind : (old new : List (List ℕ)) (at : ℕ) (more : List ℕ) → at < length old → new ≡ set old at (get_or old at [] ++ more) → KeepsPlaces old new
keeps_behind old new at more there is p within = by_test (p.pool == at) refl where
  many : length old ≤ length new
  many = omega (arith, ap (λ (l : List (List ℕ)). length l) is, length-set old at (get_or old at [] ++ more))

  by_test : (t : Bool) → (p.pool == at) ≡ t → IsWithin new p × (piece new p ≡ piece old p)
  by_test true e =
      let here : p.pool ≡ at = eqb-true p.pool at e in
      goes_on old new p more many
      (ap (λ (l : List (List ℕ)). get_or l p.pool []) is ∙ ap (λ k. get_or (set old at (get_or old at [] ++ more)) k []) here ∙ get_or-set_same old at (get_or old at [] ++ more) [] there ∙ ap (λ k. get_or old k [] ++ more) (sym here)) within
  by_test false e =
      let apart : p.pool ≢ at = λ same. grind (arith, nat_tests, e, same) in
      goes_on old new p [] many
      (ap (λ (l : List (List ℕ)). get_or l p.pool []) is ∙ get_or-set_other old at p.pool (get_or old at [] ++ more) [] apart ∙ sym (append-nil (get_or old p.pool []))) within

-- Bytes that are held from an offset on

-- all that is held from there on
pub all_behind : (held : List ℕ) (start : ℕ) → take (length held - start) (drop start held) ≡ drop start held
all_behind held start = take_all (length held - start) (drop start held) (omega (arith, length-drop start held))

-- all are held, and nothing is put after them
pub all_held : (held behind bytes : List ℕ) (start : ℕ) → start ≤ length held → behind ≡ drop start held → behind ≡ bytes ++ drop (length bytes) behind → IsKnown held start bytes (length bytes)
all_held held behind bytes start within is begins =
    let more = drop (length bytes) bytes in
    let long : length behind ≡ length bytes + length (drop (length bytes) behind) = ap (λ (l : List ℕ). length l) begins ∙ length-append bytes (drop (length bytes) behind) in
    let many : length bytes ≤ length (drop start held) = omega (arith, long, ap (λ (l : List ℕ). length l) is) in
    record {
      few = omega arith;
      fits = omega (arith, length-append held more, length-drop start held, many, within);
      same =
          ap (take (length bytes)) (drop-append-le start held more within) ∙ take-append-le (length bytes) (drop start held) more many
          ∙ ap (take (length bytes)) (sym is ∙ begins) ∙ take-append_seam bytes (drop (length bytes) behind);
    }

-- the first are held, and the others are put after them
pub some_held : (held behind bytes : List ℕ) (start : ℕ) → start ≤ length held → behind ≡ drop start held → bytes ≡ behind ++ drop (length behind) bytes → IsKnown held start bytes (length behind)
some_held held behind bytes start within is begins =
    let more = drop (length behind) bytes in
    let joined : drop start (held ++ more) ≡ bytes = drop-append-le start held more within ∙ ap (λ (l : List ℕ). l ++ more) (sym is) ∙ sym begins in
    let long : length bytes ≡ length behind + length more = ap (λ (l : List ℕ). length l) begins ∙ length-append behind more in
    let rest : length behind ≡ length held - start = ap (λ (l : List ℕ). length l) is ∙ length-drop start held in
    record {
      few = omega (arith, long);
      fits = omega (arith, length-append held more, long, rest, within);
      same = ap (take (length bytes)) joined ∙ take-length bytes;
    }
