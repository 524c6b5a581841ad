-- Tests of each element of a list.
use Rattle.std.proofs.Common.{◌≡◌, ℕ, Bool, true, false, List, [], ◌∷◌, reverse, refl, ap, ◌∙◌, cond}
use Rattle.std.specs.List.{list_all}
use Rattle.std.proofs.lemmas.Bool.{and_parts, and_from, ltb-true}
use Rattle.std.proofs.lemmas.List.{reverse-append}
use Rattle.std.proofs.lemmas.List.Folds.{list_all-append}
use Rattle.std.proofs.lemmas.List.Elements.{All-nil, All-cons}
use Rattle.httparse.specs.Grammar.{AllPass, IsToken, is_token, is_token_byte, is_ows, skip_ows, trim_ows}
use Rattle.httparse.proofs.TrimLemmas.{trim_ows_space}

-- bytes that pass a test pass a weaker one
pub list_all-weaker : (p q : ℕ → Bool) → ((b : ℕ) → p b ≡ true → q b ≡ true) → (xs : List ℕ) → list_all p xs ≡ true → list_all q xs ≡ true
list_all-weaker p q weak [] all = refl
list_all-weaker p q weak (x ∷ xs) all =
    let parts = and_parts (p x) (list_all p xs) all in
    and_from (q x) (list_all q xs) (weak x parts.0) (list_all-weaker p q weak xs parts.1)

pub AllPass-from_test : (p : ℕ → Bool) (xs : List ℕ) → list_all p xs ≡ true → AllPass p xs
AllPass-from_test p [] all = All-nil (λ b. p b ≡ true)
AllPass-from_test p (x ∷ xs) all =
    let parts = and_parts (p x) (list_all p xs) all in
    All-cons (λ b. p b ≡ true) x xs parts.0 (AllPass-from_test p xs parts.1)

pub IsToken-from_test : (s : List ℕ) → is_token s ≡ true → IsToken s
IsToken-from_test s token =
    let parts = and_parts _ (list_all is_token_byte s) token in
    (ltb-true _ _ parts.0, AllPass-from_test is_token_byte s parts.1)

list_all-reverse : (p : ℕ → Bool) (xs : List ℕ) → list_all p xs ≡ true → list_all p (reverse xs) ≡ true
list_all-reverse p [] all = refl
list_all-reverse p (x ∷ xs) all =
    let parts = and_parts (p x) (list_all p xs) all in
    ap (list_all p) (reverse-append (x ∷ []) xs)
    ∙ list_all-append p (reverse xs) (x ∷ [])
    ∙ and_from (list_all p (reverse xs)) (list_all p (x ∷ [])) (list_all-reverse p xs parts.1) (and_from (p x) true parts.0 refl)

skip_ows-visible : (p : ℕ → Bool) → ((b : ℕ) → p b ≡ true → is_ows b ≡ false) → (xs : List ℕ) → list_all p xs ≡ true → skip_ows xs ≡ xs
skip_ows-visible p visible [] all = refl
skip_ows-visible p visible (x ∷ xs) all =
    let parts = and_parts (p x) (list_all p xs) all in
    ap (λ (t : Bool). cond t (skip_ows xs) (x ∷ xs)) (visible x parts.0)

-- a value without spaces is left when a space before it is trimmed
pub trim_ows-visible : (p : ℕ → Bool) → ((b : ℕ) → p b ≡ true → is_ows b ≡ false) → (xs : List ℕ) → list_all p xs ≡ true → trim_ows (32 ∷ xs) ≡ xs
trim_ows-visible p visible xs all =
    trim_ows_space xs (skip_ows-visible p visible xs all) (skip_ows-visible p visible (reverse xs) (list_all-reverse p xs all))
