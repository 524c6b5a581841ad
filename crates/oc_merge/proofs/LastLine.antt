-- The digits of a start's files are told after it.
use Rattle.std.proofs.Common.{◌≡◌, ℕ, ◌+◌, List, [], ◌∷◌, ◌++◌, refl, ap, sym, subst, ◌∙◌}
use Rattle.std.specs.List.{sum_by}
use Rattle.std.proofs.lemmas.List.Sums.{sum_by_push}
use Rattle.oc_merge.specs.declared.told.Told.{Told}
use Rattle.oc_merge.specs.declared.told.Told.TheVariants.{Started, Came, Took}
use Rattle.oc_merge.specs.declared.told.ToldLine.{ToldLine}
use Rattle.oc_merge.specs.Reading.{with_digits, with_files}
use Rattle.oc_merge.specs.Told.{published_by, published_in}

-- the last line tells them
pub files_last : (digits : List ℕ) (ls : List ToldLine) (l : ToldLine) → with_files digits (ls ++ l ∷ []) ≡ ls ++ record l { told = with_digits digits l.told } ∷ []
files_last digits [] l = refl
files_last digits (k ∷ []) l = refl
files_last digits (k ∷ j ∷ ks) l = ap (λ (ms : List ToldLine). k ∷ ms) (files_last digits (j ∷ ks) l)

digits_published : (digits : List ℕ) (t : Told) → published_by (with_digits digits t) ≡ published_by t
digits_published digits (Started files) = refl
digits_published digits (Came bytes) = refl
digits_published digits (Took i) = refl

-- the last line publishes no more bytes with its digits
published_last : (digits : List ℕ) (ls : List ToldLine) (l : ToldLine) → published_in (ls ++ record l { told = with_digits digits l.told } ∷ []) ≡ published_in (ls ++ l ∷ [])
published_last digits ls l =
    let by_line : ToldLine → ℕ = λ k. published_by k.told in
    sum_by_push by_line ls (record l { told = with_digits digits l.told })
    ∙ (ap (λ (n : ℕ). sum_by by_line ls + n) (digits_published digits l.told)
    ∙ sym (sum_by_push by_line ls l))

-- a list that is not empty has a last line
last_of : (l : ToldLine) (ls : List ToldLine) → (front : List ToldLine) × (last : ToldLine) × (l ∷ ls ≡ front ++ last ∷ [])
last_of l [] = ([], l, refl)
last_of l (k ∷ ks) = let rest = last_of k ks in (l ∷ rest.0, rest.1, ap (λ (ms : List ToldLine). l ∷ ms) rest.2)

pub files_published : (digits : List ℕ) (ls : List ToldLine) → published_in (with_files digits ls) ≡ published_in ls
files_published digits [] = refl
files_published digits (l ∷ ls) =
    let parts = last_of l ls in
    subst (λ (ms : List ToldLine). published_in (with_files digits ms) ≡ published_in ms) (sym parts.2)
    (ap published_in (files_last digits parts.0 parts.1) ∙ published_last digits parts.0 parts.1)
