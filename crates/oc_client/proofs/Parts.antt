-- The parts of a query, and the parts that begin with a name.
use Rattle.std.proofs.Common.{◌≡◌, ◌≢◌, ℕ, ◌<◌, ◌==◌, false, List, [], ◌∷◌, ◌++◌, length, get_or, refl, ap, ◌∙◌}
use Rattle.std.specs.List.{All}
use Rattle.std.proofs.lemmas.Bool.{ne_eqb}
use Rattle.std.proofs.lemmas.List.Elements.{All-from_get_or}
use Rattle.std.proofs.lemmas.List.Splits.{slice_split_at, slice_split_none}
use Rattle.oc_http.specs.Queries.{parts}

-- no byte is an `&`
free : (bs : List ℕ) → ((i : ℕ) → i < length bs → get_or bs i 0 ≢ 38) → All (λ b. (b == 38) ≡ false) bs
free bs none = All-from_get_or (λ b. (b == 38) ≡ false) bs 0 (λ i within. ne_eqb _ _ (none i within))

-- the first part of a query that has several
pub parts_first : (query part rest : List ℕ) → query ≡ part ++ 38 ∷ rest → ((i : ℕ) → i < length part → get_or part i 0 ≢ 38) → parts query ≡ part ∷ parts rest
parts_first query part rest split none = ap parts split ∙ slice_split_at _ part 38 rest (free part none) refl

-- the part of a query that has only one
pub parts_last : (query : List ℕ) → ((i : ℕ) → i < length query → get_or query i 0 ≢ 38) → parts query ≡ query ∷ []
parts_last query none = slice_split_none _ query (free query none)
