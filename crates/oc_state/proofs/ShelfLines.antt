-- Lines of a shelf, one after another.
use Rattle.std.proofs.Common.{◌≡◌, ℕ, zero, suc, ◌+◌, ◌-◌, ◌*◌, ◌^◌, ◌<◌, ◌≤◌, Bool, true, false, if◌then◌else◌, Option, Some, None, List, [], ◌∷◌, ◌++◌, length, drop, take, get_or, set, refl, ap, sym, ◌∙◌, arith, length-drop}
use Rattle.std.proofs.lemmas.List.{take_all}
use Rattle.std.proofs.lemmas.List.Sums.{sum_by-cons}
use Rattle.std.specs.Prelude.{insert}
use Rattle.std.specs.declared.cmp.Ordering.{Ordering}
use Rattle.std.specs.declared.cmp.Ordering.TheVariants.{Less, Equal, Greater}
use Rattle.std.specs.Ordering.{nat_cmp, is_eq}
use Rattle.std.specs.Cmp.Lexicographic.{slice_cmp}
use Rattle.oc_base.specs.declared.limits.TheConstants.{MAX_GROUP_BYTES}
use Rattle.oc_base.specs.declared.shelf.Shelf.{Shelf}
use Rattle.oc_base.specs.Named.{same_name, AreAscending, IsFoundAt, IsFreeAt}
use Rattle.oc_base.specs.Shelves.{line_of, IsShelf, AreLines, held_in_all}
use Rattle.oc_base.proofs.NameOrder.{same_name-itself}
use Rattle.oc_model.specs.Shelves.{line_at, with_line, is_behind, first_behind, turn, from_place, next_behind}
use Rattle.oc_state.proofs.Lists.{drop_at}

-- Looking for a line

-- the group's line is found here
pub line_found : (g : List ℕ) (ls : List Shelf) (i : ℕ) (l : Shelf) (whole : Option Shelf) → i < length ls → l ≡ get_or ls i l → same_name g l.group ≡ true → line_of g (drop i ls) ≡ whole → Some l ≡ whole
line_found g ls i l whole within e same so =
    let here : line_of g (drop i ls) ≡ Some l = ap (line_of g) (drop_at ls i l within e) ∙ ap (λ (b : Bool). if b then Some l else line_of g (drop (i + 1) ls)) same in
    sym here ∙ so

-- the line is further on
pub line_goes_on : (g : List ℕ) (ls : List Shelf) (i : ℕ) (l : Shelf) (whole : Option Shelf) → i < length ls → l ≡ get_or ls i l → same_name g l.group ≡ false → line_of g (drop i ls) ≡ whole → line_of g (drop (i + 1) ls) ≡ whole
line_goes_on g ls i l whole within e other so =
    let here : line_of g (drop i ls) ≡ line_of g (drop (i + 1) ls) = ap (line_of g) (drop_at ls i l within e) ∙ ap (λ (b : Bool). if b then Some l else line_of g (drop (i + 1) ls)) other in
    sym here ∙ so

-- the same for the first line of which the other has less
pub behind_found : (have ls : List Shelf) (i : ℕ) (l : Shelf) (whole : Option Shelf) → i < length ls → l ≡ get_or ls i l → is_behind (line_of l.group have) l ≡ true → first_behind have (drop i ls) ≡ whole → Some l ≡ whole
behind_found have ls i l whole within e behind so =
    let here : first_behind have (drop i ls) ≡ Some l = ap (first_behind have) (drop_at ls i l within e) ∙ ap (λ (b : Bool). if b then Some l else first_behind have (drop (i + 1) ls)) behind in
    sym here ∙ so

pub behind_goes_on : (have ls : List Shelf) (i : ℕ) (l : Shelf) (whole : Option Shelf) → i < length ls → l ≡ get_or ls i l → is_behind (line_of l.group have) l ≡ false → first_behind have (drop i ls) ≡ whole → first_behind have (drop (i + 1) ls) ≡ whole
behind_goes_on have ls i l whole within e level so =
    let here : first_behind have (drop i ls) ≡ first_behind have (drop (i + 1) ls) = ap (first_behind have) (drop_at ls i l within e) ∙ ap (λ (b : Bool). if b then Some l else first_behind have (drop (i + 1) ls)) level in
    sym here ∙ so

-- A shelf with one more line

-- the names of a shelf ascend
pub lines_ascend : (ls : List Shelf) → AreLines ls → AreAscending (λ (l : Shelf). l.group) ls
lines_ascend [] are = tt
lines_ascend (l ∷ ls) are = (are.1, lines_ascend ls are.2)

-- a name is even with itself
names_even : (g : List ℕ) → slice_cmp nat_cmp g g ≡ Equal
names_even g = by_order (slice_cmp nat_cmp g g) refl where
  by_order : (o : Ordering) → slice_cmp nat_cmp g g ≡ o → o ≡ Equal
  by_order Equal e = refl
  by_order Less e = let no : is_eq (slice_cmp nat_cmp g g) ≡ false = rw e in let yes : same_name g g ≡ true = same_name-itself g in absurd cc
  by_order Greater e = let no : is_eq (slice_cmp nat_cmp g g) ≡ false = rw e in let yes : same_name g g ≡ true = same_name-itself g in absurd cc

-- a line takes the place of that of its group
pub with_found : (l : Shelf) (ls : List Shelf) (i : ℕ) → IsFoundAt (λ (k : Shelf). k.group) ls l.group i → with_line l ls ≡ set ls i l
with_found l [] i found = absurd found
with_found l (k ∷ ks) zero found = rw (found, names_even l.group)
with_found l (k ∷ ks) (suc i) found = rw found.0 (ap (λ (ls : List Shelf). k ∷ ls) (with_found l ks i found.1))

-- a line whose name is absent goes to the place where it would be
pub with_free : (l : Shelf) (ls : List Shelf) (i : ℕ) → IsFreeAt (λ (k : Shelf). k.group) ls l.group i → with_line l ls ≡ insert ls i l
with_free l [] zero free = refl
with_free l (k ∷ ks) zero free = rw (free.0)
with_free l [] (suc i) free = absurd free
with_free l (k ∷ ks) (suc i) free = rw (free.0) (ap (λ (ls : List Shelf). k ∷ ls) (with_free l ks i free.1))

pub found_within : (l : Shelf) (ls : List Shelf) (i : ℕ) → IsFoundAt (λ (k : Shelf). k.group) ls l.group i → i < length ls
found_within l [] i found = absurd found
found_within l (k ∷ ks) zero found = omega arith
found_within l (k ∷ ks) (suc i) found = let rest : i < length ks = found_within l ks i found.1 in omega arith

pub free_within : (l : Shelf) (ls : List Shelf) (i : ℕ) → IsFreeAt (λ (k : Shelf). k.group) ls l.group i → i ≤ length ls
free_within l ls zero free = omega arith
free_within l [] (suc i) free = absurd free
free_within l (k ∷ ks) (suc i) free = let rest : i ≤ length ks = free_within l ks i free.1 in omega arith

-- Lengths

-- no line is longer than a group may be
pub held_bound : (g : List ℕ) (ls : List Shelf) → IsShelf ls → (line_at g ls).held ≤ MAX_GROUP_BYTES
held_bound g ls is = bound_in g ls is.0 where
  bound_in : (g : List ℕ) (ls : List Shelf) → AreLines ls → (line_at g ls).held ≤ MAX_GROUP_BYTES
  bound_in g [] are = omega arith
  bound_in g (l ∷ ls) are = by_test (same_name g l.group) (are.0.1) (bound_in g ls are.2) refl where
    by_test : (b : Bool) → l.held ≤ MAX_GROUP_BYTES → (line_at g ls).held ≤ MAX_GROUP_BYTES → same_name g l.group ≡ b → (line_at g (l ∷ ls)).held ≤ MAX_GROUP_BYTES
    by_test true here rest e = rw e here
    by_test false here rest e = rw e rest

-- All that is held

-- the sum of the lengths is at most that of full groups
held_few : (ls : List Shelf) → AreLines ls → held_in_all ls ≤ length ls * MAX_GROUP_BYTES
held_few [] are = omega arith
held_few (l ∷ ls) are = let rest : held_in_all ls ≤ length ls * MAX_GROUP_BYTES = held_few ls are.2 in omega (arith, sum_by-cons (λ (k : Shelf). k.held) l ls, are.0.1, rest)

-- the sum of the lengths fits 64 bits
pub held_short : (ls : List Shelf) → IsShelf ls → held_in_all ls < 2 ^ 64
held_short ls is = omega (arith, held_few ls is.0, is.1)

-- The line whose turn it is

-- the first line of which the other has less, in a list and then in another
pub behind_first : (have xs ys : List Shelf) (l : Shelf) → first_behind have xs ≡ Some l → first_behind have (xs ++ ys) ≡ Some l
behind_first have [] ys l e = absurd cc
behind_first have (k ∷ ks) ys l e = by_test (is_behind (line_of k.group have) k) (behind_first have ks ys l) e where
  by_test : (b : Bool) → (first_behind have ks ≡ Some l → first_behind have (ks ++ ys) ≡ Some l) → (if b then Some k else first_behind have ks) ≡ Some l → (if b then Some k else first_behind have (ks ++ ys)) ≡ Some l
  by_test true rest e = e
  by_test false rest e = rest e

pub behind_second : (have xs ys : List Shelf) → first_behind have xs ≡ None → first_behind have (xs ++ ys) ≡ first_behind have ys
behind_second have [] ys e = refl
behind_second have (k ∷ ks) ys e = by_test (is_behind (line_of k.group have) k) (behind_second have ks ys) e where
  by_test : (b : Bool) → (first_behind have ks ≡ None → first_behind have (ks ++ ys) ≡ first_behind have ys) → (if b then Some k else first_behind have ks) ≡ None → (if b then Some k else first_behind have (ks ++ ys)) ≡ first_behind have ys
  by_test true rest e = absurd cc
  by_test false rest e = rest e

-- an empty shelf has no such line
pub behind_empty : (chunk : ℕ) (have : List Shelf) → next_behind chunk have [] ≡ None
behind_empty chunk have = by_place (turn chunk have []) where
  by_place : (i : ℕ) → first_behind have (drop i [] ++ take i []) ≡ None
  by_place zero = refl
  by_place (suc i) = refl

-- all that is left of a list
the_rest : (ls : List Shelf) (i : ℕ) → take (length ls - i) (drop i ls) ≡ drop i ls
the_rest ls i = take_all (length ls - i) (drop i ls) (omega (arith, length-drop i ls))

-- a line that is found from the place of the turn on is the result
pub turn_first : (chunk : ℕ) (have ls : List Shelf) (i : ℕ) (l : Shelf) → i ≡ turn chunk have ls → Some l ≡ first_behind have (take (length ls - i) (drop i ls)) → Some l ≡ next_behind chunk have ls
turn_first chunk have ls i l place found =
    sym (behind_first have (drop i ls) (take i ls) l (sym (found ∙ ap (first_behind have) (the_rest ls i)))) ∙ ap (λ (j : ℕ). first_behind have (from_place j ls)) place

pub turn_second : (chunk : ℕ) (have ls : List Shelf) (i : ℕ) → i ≡ turn chunk have ls → None ≡ first_behind have (take (length ls - i) (drop i ls)) → first_behind have (take i ls) ≡ next_behind chunk have ls
turn_second chunk have ls i place none =
    sym (behind_second have (drop i ls) (take i ls) (sym (none ∙ ap (first_behind have) (the_rest ls i)))) ∙ ap (λ (j : ℕ). first_behind have (from_place j ls)) place
