-- Fields of a line that are read one after another.
use Rattle.std.proofs.Common.{◌≡◌, ℕ, List, [], ◌∷◌, Ok, ap, ◌∙◌, refl}
use Rattle.oc_base.specs.Steps.{◌>>=◌}
use Rattle.oc_base.specs.Words.{three, four, six}

-- four fields are one before three
four_are : (a : List ℕ) (rest : List (List ℕ)) → four (a ∷ rest) ≡ three rest >>= λ found. Ok (a, found.0, found.1, found.2)
four_are a [] = refl
four_are a (b ∷ []) = refl
four_are a (b ∷ c ∷ []) = refl
four_are a (b ∷ c ∷ d ∷ []) = refl
four_are a (b ∷ c ∷ d ∷ e ∷ rest) = refl

-- six fields are two before four
six_are : (a b : List ℕ) (rest : List (List ℕ)) → six (a ∷ b ∷ rest) ≡ four rest >>= λ found. Ok (a, b, found.0, found.1, found.2, found.3)
six_are a b [] = refl
six_are a b (c ∷ []) = refl
six_are a b (c ∷ d ∷ []) = refl
six_are a b (c ∷ d ∷ e ∷ []) = refl
six_are a b (c ∷ d ∷ e ∷ f ∷ []) = refl
six_are a b (c ∷ d ∷ e ∷ f ∷ g ∷ rest) = refl

-- the four fields of a line, of which one was read and then three
pub four_of : (line : List (List ℕ)) (a : List ℕ) (rest : List (List ℕ)) (found : List ℕ × List ℕ × List ℕ)
    → line ≡ a ∷ rest → three rest ≡ Ok found → four line ≡ Ok (a, found.0, found.1, found.2)
four_of line a rest found e f = ap four e ∙ four_are a rest ∙ ap (λ read. read >>= λ found. Ok (a, found.0, found.1, found.2)) f

-- the six fields of a line, of which two were read and then four
pub six_of : (line : List (List ℕ)) (a b : List ℕ) (more rest : List (List ℕ)) (found : List ℕ × List ℕ × List ℕ × List ℕ)
    → line ≡ a ∷ more → more ≡ b ∷ rest → four rest ≡ Ok found → six line ≡ Ok (a, b, found.0, found.1, found.2, found.3)
six_of line a b more rest found e f g =
    ap six (e ∙ ap (λ fields. a ∷ fields) f) ∙ six_are a b rest ∙ ap (λ read. read >>= λ found. Ok (a, b, found.0, found.1, found.2, found.3)) g
