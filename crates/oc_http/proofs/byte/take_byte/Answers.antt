-- What came is one byte.
use Rattle.std.proofs.Common.{◌≡◌, ℕ, ◌<◌, ◌≤◌, List, [], ◌∷◌, length, take, get_or, ap, subst, arith}
use Rattle.oc_http.proofs.byte.take_byte.Goals as goal

one : (n : ℕ) (buf : List ℕ) → n ≤ 1 → 0 < n → length buf ≡ 1 → take n buf ≡ get_or buf 0 0 ∷ []
one n [] most some long = absurd (omega arith)
one n (b ∷ []) most some long = let is : n ≡ 1 = omega arith in ap (λ k. take k (b ∷ [])) is
one n (b ∷ x ∷ buf) most some long = absurd (omega arith)

pub returns-clause-gives : goal.returns-clause-gives
returns-clause-gives g c =
    subst (λ (bytes : List ℕ). g.S.Source.gives c.args.source.now bytes c.read.new.self)
    (one c.in_ok-count.count c.read.new.buf (omega (arith, c.in_ok-count.ensures.within)) (omega arith) (omega (arith, c.read.auto.buf)))
    c.in_ok-count.ensures.gives
