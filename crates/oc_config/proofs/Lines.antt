-- The lines of a text, counted.
use Rattle.std.proofs.Common.{◌≡◌, ℕ, ◌+◌, ◌<◌, ◌≤◌, true, false, cond, List, length, get_or, take, sym, ap, ◌∙◌, arith}
use Rattle.std.proofs.lemmas.List.Filters.{length-filter_more}
use Rattle.std.specs.Prelude.{◌==◌, filter}

-- the ends of lines among some bytes
abbrev pub ends_in : List ℕ → ℕ
ends_in bytes = length (filter (λ b. b == 10) bytes)

-- the end of a line is one more
pub ends_more : (bs : List ℕ) (i b : ℕ) → i < length bs → b ≡ get_or bs i b → (b == 10) ≡ true → ends_in (take (i + 1) bs) ≡ ends_in (take i bs) + 1
ends_more bs i b inside is end =
    length-filter_more (λ b. b == 10) bs i b inside
    ∙ ap (λ x. ends_in (take i bs) + cond (x == 10) 1 0) (sym is)
    ∙ ap (λ x. ends_in (take i bs) + cond x 1 0) end

-- a byte that ends no line adds no line
pub ends_same : (bs : List ℕ) (i b : ℕ) → i < length bs → b ≡ get_or bs i b → (b == 10) ≡ false → ends_in (take (i + 1) bs) ≡ ends_in (take i bs)
ends_same bs i b inside is other =
    let e = length-filter_more (λ b. b == 10) bs i b inside
    ∙ ap (λ x. ends_in (take i bs) + cond (x == 10) 1 0) (sym is)
    ∙ ap (λ x. ends_in (take i bs) + cond x 1 0) other in
    omega (arith, e)
