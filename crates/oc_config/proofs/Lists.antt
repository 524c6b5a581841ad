-- Lists of places that may hold something.
use Rattle.std.proofs.Common.{◌≡◌, ℕ, zero, suc, ◌⊎◌, inl, inr, Option, Some, None, List, [], ◌∷◌, ◌++◌, map, get_or, refl, sym, ap, ◌∙◌}
use Rattle.std.proofs.lemmas.List.{map-append}
use Rattle.std.specs.Prelude.{slice_get}

-- an option is none or some
pub none_or_some : {B : Type 0} (o : Option B) → (o ≡ None) ⊎ ((b : B) × (o ≡ Some b))
none_or_some None = inl refl
none_or_some (Some b) = inr (b, refl)

-- the list of values of all places has the value of a place there
pub at_map : {A B : Type 0} (f : Option A → B) (xs : List (Option A)) (i : ℕ) (x : A) → get_or xs i None ≡ Some x → slice_get (map f xs) i ≡ Some (f (Some x))
at_map f [] i x is = cc
at_map f (o ∷ xs) zero x is = ap (λ o. Some (f o)) is
at_map f (o ∷ xs) (suc i) x is = at_map f xs i x is

-- one more in each of two lists
pub one_more : {A B : Type 0} (f : A → B) (xs more : List A) (ys : List B) (x : A) (y : B) → more ≡ xs ++ x ∷ [] → map f xs ≡ ys → f x ≡ y → map f more ≡ ys ++ y ∷ []
one_more f xs more ys x y is are same =
    ap (map f) is ∙ map-append f xs (x ∷ []) ∙ ap (λ l. l ++ f x ∷ []) are ∙ ap (λ z. ys ++ z ∷ []) same

pub one_more_plain : {B : Type 0} (xs more ys : List B) (x y : B) → more ≡ xs ++ x ∷ [] → xs ≡ ys → x ≡ y → more ≡ ys ++ y ∷ []
one_more_plain xs more ys x y is are same = is ∙ ap (λ l. l ++ x ∷ []) are ∙ ap (λ z. ys ++ z ∷ []) same
