-- How the index of a name is found.
use Rattle.std.proofs.Common.{◌≡◌, ℕ, zero, suc, ◌+◌, ◌<◌, ◌≤◌, List, [], ◌∷◌, ◌++◌, length, take, drop, get_or, Less, Equal, Greater, nat_cmp, sym, ap, ◌∙◌, subst, arith}
use Rattle.std.specs.List.{AllByRecursion}
use Rattle.std.specs.Cmp.Lexicographic.{slice_cmp}
use Rattle.std.proofs.lemmas.List.{take_more, drop_all}
use Rattle.std.proofs.Math.Seq.{drop-cons}
use Rattle.oc_base.specs.Named.{AreAbove, AreAscending, IsFoundAt, IsFreeAt}
use Rattle.oc_base.proofs.Each.{all_append}
use Rattle.oc_base.proofs.NameOrder.{names_tied, names_rise}

-- items above a name are above a lesser name
pub above_lower : {A : Type 0} (name : A → List ℕ) (a b : List ℕ) (xs : List A) → slice_cmp nat_cmp a b ≡ Less → AreAbove name b xs → AreAbove name a xs
above_lower name a b [] h all = tt
above_lower name a b (x ∷ xs) h all = (names_rise a b (name x) h all.0, above_lower name a b xs h all.1)

-- each of these names is before g
abbrev pub HasPassed : {A : Type 0} → (A → List ℕ) → List ℕ → List A → Type 0
HasPassed name g xs = AllByRecursion (λ x. slice_cmp nat_cmp g (name x) ≡ Greater) xs

-- one more name was passed
pub passed_more : {A : Type 0} (name : A → List ℕ) (g : List ℕ) (xs : List A) (i : ℕ) (x : A) → i < length xs → x ≡ get_or xs i x → slice_cmp nat_cmp g (name x) ≡ Greater → HasPassed name g (take i xs) → HasPassed name g (take (i + 1) xs)
passed_more name g xs i x inside is past before =
    subst (λ l. HasPassed name g l) (sym (take_more xs i x inside ∙ ap (λ y. take i xs ++ y ∷ []) (sym is))) (all_append (λ y. slice_cmp nat_cmp g (name y) ≡ Greater) (take i xs) (x ∷ []) before (past, tt))

-- after the names that it has passed, and before greater ones, a name would be
free_here : {A : Type 0} (name : A → List ℕ) (xs : List A) (g : List ℕ) (i : ℕ) → i ≤ length xs → HasPassed name g (take i xs) → AreAbove name g (drop i xs) → IsFreeAt name xs g i
free_here name xs g zero within past above = above
free_here name [] g (suc i) within past above = absurd (omega (arith, within))
free_here name (x ∷ xs) g (suc i) within past above = (past.0, free_here name xs g i (omega (arith, within)) past.1 above)

-- the rest of a list that ascends does so
ascending_from : {A : Type 0} (name : A → List ℕ) (xs : List A) (i : ℕ) → AreAscending name xs → AreAscending name (drop i xs)
ascending_from name xs zero up = up
ascending_from name [] (suc i) up = up
ascending_from name (x ∷ xs) (suc i) up = ascending_from name xs i up.1

-- a name that is before the next one
pub free_before : {A : Type 0} (name : A → List ℕ) (g : List ℕ) (xs : List A) (i : ℕ) (x : A) → AreAscending name xs → i < length xs → x ≡ get_or xs i x → slice_cmp nat_cmp g (name x) ≡ Less → HasPassed name g (take i xs) → IsFreeAt name xs g i
free_before name g xs i x up inside is less past =
    let from : drop i xs ≡ x ∷ drop (suc i) xs = drop-cons xs i x inside ∙ ap (λ y. y ∷ drop (suc i) xs) (sym is) in
    let rest : AreAscending name (x ∷ drop (suc i) xs) = subst (AreAscending name) from (ascending_from name xs i up) in
    free_here name xs g i (omega (arith, inside)) past (subst (λ l. AreAbove name g l) (sym from) (less, above_lower name g (name x) (drop (suc i) xs) less rest.0))

-- a name after all others
pub free_last : {A : Type 0} (name : A → List ℕ) (g : List ℕ) (xs : List A) (i : ℕ) → i ≡ length xs → HasPassed name g (take i xs) → IsFreeAt name xs g (length xs)
free_last name g xs i end past =
    free_here name xs g (length xs) (omega arith) (subst (λ (j : ℕ). HasPassed name g (take j xs)) end past) (subst (λ l. AreAbove name g l) (sym (drop_all (length xs) xs (omega arith))) tt)

-- a name that is the next one
pub found_here : {A : Type 0} (name : A → List ℕ) (g : List ℕ) (xs : List A) (i : ℕ) (x : A) → i < length xs → x ≡ get_or xs i x → slice_cmp nat_cmp g (name x) ≡ Equal → HasPassed name g (take i xs) → IsFoundAt name xs g i
found_here name g [] i x inside is same past = absurd (omega (arith, inside))
found_here name g (y ∷ ys) zero x inside is same past = ap name (sym is) ∙ sym (names_tied g (name x) same)
found_here name g (y ∷ ys) (suc i) x inside is same past = (past.0, found_here name g ys i x (omega (arith, inside)) is same past.1)
