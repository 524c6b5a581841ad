-- Lines that were taken of some lines, each the next of its node, add up to no more than all of them.
use Rattle.std.proofs.Common.{◌≡◌, ℕ, zero, suc, ◌+◌, ◌≤◌, Bool, true, false, ◌==◌, if◌then◌else◌, Some, List, [], ◌∷◌, ◌++◌, inl, inr, ⊎_elim, length, map, slice_get, refl, ap, sym, subst, ◌∙◌, arith, eq-eqb}
use Rattle.std.specs.List.{AllByRecursion, sum_by}
use Rattle.std.proofs.lemmas.Bool.{cases_Bool, cases_eq, eqb-true, ne_eqb}
use Rattle.std.proofs.lemmas.List.Sums.{sum_by-cons}
use Rattle.oc_laws_world.specs.Merges.{Entry, Line, line, entries_of}
use Rattle.oc_laws_world.specs.Taking.{IsBeginning}

-- Sums

pub sum_map : {A B : Type 0} (f : B → ℕ) (g : A → B) (xs : List A) → sum_by f (map g xs) ≡ sum_by (λ x. f (g x)) xs
sum_map f g [] = refl
sum_map f g (x ∷ xs) = omega (arith, sum_by-cons f (g x) (map g xs), sum_by-cons (λ y. f (g y)) x xs, sum_map f g xs)

pub sum_ones : {A : Type 0} (xs : List A) → sum_by (λ x. 1) xs ≡ length xs
sum_ones [] = refl
sum_ones (x ∷ xs) = omega (arith, sum_by-cons (λ y. 1) x xs, sum_ones xs)

-- Entries

entries_first : (l : Line) (ls : List Line) → entries_of l.node (l ∷ ls) ≡ l.entry ∷ entries_of l.node ls
entries_first l ls = ap (λ b. if b then l.entry ∷ entries_of l.node ls else entries_of l.node ls) (eq-eqb l.node l.node refl)

entries_later : (l : Line) (ls : List Line) (x : ℕ) → (l.node == x) ≡ false → entries_of x (l ∷ ls) ≡ entries_of x ls
entries_later l ls x other = ap (λ b. if b then l.entry ∷ entries_of x ls else entries_of x ls) other

-- the lines without the first of x
abbrev without : ℕ → List Line → List Line
without x [] = []
without x (l ∷ ls) = if l.node == x then ls else l ∷ without x ls

without_here : (l : Line) (ls : List Line) (x : ℕ) → (l.node == x) ≡ true → without x (l ∷ ls) ≡ ls
without_here l ls x same = ap (λ b. if b then ls else l ∷ without x ls) same

without_later : (l : Line) (ls : List Line) (x : ℕ) → (l.node == x) ≡ false → without x (l ∷ ls) ≡ l ∷ without x ls
without_later l ls x other = ap (λ b. if b then ls else l ∷ without x ls) other

-- an entry that is the first of x, and the rest
record Left (f : Line → ℕ) (x : ℕ) (e : Entry) (rest : List Entry) (ls : List Line) : Type 0 where
  sum : sum_by f ls ≡ f (line x e) + sum_by f (without x ls)
  own : entries_of x (without x ls) ≡ rest

left_of : (f : Line → ℕ) (x : ℕ) (e : Entry) (rest : List Entry) (ls : List Line) → entries_of x ls ≡ e ∷ rest → Left f x e rest ls
left_of f x e rest [] is = absurd (cc is)
left_of f x e rest (l ∷ ls) is = elim (cases_Bool (l.node == x)) [
  | inl same ↦
      let node : l.node ≡ x = eqb-true l.node x same in
      let parts : l.entry ∷ entries_of x ls ≡ e ∷ rest = sym (ap (λ b. if b then l.entry ∷ entries_of x ls else entries_of x ls) same) ∙ is in
      let first : l.entry ≡ e = cc parts in
      let own : entries_of x ls ≡ rest = cc parts in
      let this : f l ≡ f (line x e) = ap (λ (n : ℕ). f (line n l.entry)) node ∙ ap (λ (d : Entry). f (line x d)) first in
      let here = without_here l ls x same in
      let left : sum_by f (without x (l ∷ ls)) ≡ sum_by f ls = ap (sum_by f) here in
      record { sum = omega (arith, sum_by-cons f l ls, this, left); own = ap (entries_of x) here ∙ own }
  | inr other ↦
      let more : Left f x e rest ls = left_of f x e rest ls (sym (entries_later l ls x other) ∙ is) in
      let later = without_later l ls x other in
      let left : sum_by f (without x (l ∷ ls)) ≡ sum_by f (l ∷ without x ls) = ap (sum_by f) later in
      record {
        sum = omega (arith, sum_by-cons f l ls, more.sum, left, sum_by-cons f l (without x ls));
        own = ap (entries_of x) later ∙ (entries_later l (without x ls) x other ∙ more.own);
      }
]

-- the rest for another node
left_other : (x y : ℕ) (ls : List Line) → (x ≡ y → ⊥) → entries_of y (without x ls) ≡ entries_of y ls
left_other x y [] apart = refl
left_other x y (l ∷ ls) apart = elim (cases_Bool (l.node == x)) [
  | inl same ↦
      let node : l.node ≡ x = eqb-true l.node x same in
      let other : (l.node == y) ≡ false = ne_eqb l.node y (λ e. apart (sym node ∙ e)) in
      ap (entries_of y) (without_here l ls x same) ∙ sym (entries_later l ls y other)
  | inr other ↦
      ap (entries_of y) (without_later l ls x other) ∙ by_test (l.node == y) (left_other x y ls apart)
] where
  by_test : (b : Bool) → entries_of y (without x ls) ≡ entries_of y ls → (if b then l.entry ∷ entries_of y (without x ls) else entries_of y (without x ls)) ≡ (if b then l.entry ∷ entries_of y ls else entries_of y ls)
  by_test true e = ap (λ es. l.entry ∷ es) e
  by_test false e = e

-- lines that have for each node a beginning of these lines have at most the same sum
pub taken_least : (f : Line → ℕ) (ls all : List Line) → ((x : ℕ) → IsBeginning (entries_of x ls) (entries_of x all)) → sum_by f ls ≤ sum_by f all
taken_least f [] all begins = omega arith
taken_least f (l ∷ ls) all begins =
    let own = begins l.node in
    let first : entries_of l.node all ≡ l.entry ∷ (entries_of l.node ls ++ own.0) = own.1 ∙ ap (λ (es : List Entry). es ++ own.0) (entries_first l ls) in
    let left : Left f l.node l.entry (entries_of l.node ls ++ own.0) all = left_of f l.node l.entry (entries_of l.node ls ++ own.0) all first in
    let this : f (line l.node l.entry) ≡ f l = refl in
    omega (arith, sum_by-cons f l ls, left.sum, this, taken_least f ls (without l.node all) (rest left)) where
      rest : Left f l.node l.entry (entries_of l.node ls ++ (begins l.node).0) all → (x : ℕ) → IsBeginning (entries_of x ls) (entries_of x (without l.node all))
      rest left x = ⊎_elim here there (cases_eq l.node x) where
        here : l.node ≡ x → IsBeginning (entries_of x ls) (entries_of x (without l.node all))
        here same = subst (λ (y : ℕ). IsBeginning (entries_of y ls) (entries_of y (without l.node all))) same ((begins l.node).0, left.own)

        there : (l.node ≡ x → ⊥) → IsBeginning (entries_of x ls) (entries_of x (without l.node all))
        there apart =
            let other : (l.node == x) ≡ false = ne_eqb l.node x apart in
            ((begins x).0, left_other l.node x all apart ∙ ((begins x).1 ∙ ap (λ (es : List Entry). es ++ (begins x).0) (entries_later l ls x other)))

-- a property of each is one of the item at a place
pub all_at : {A : Type 0} (P : A → Type 0) (xs : List A) (i : ℕ) (x : A) → AllByRecursion P xs → slice_get xs i ≡ Some x → P x
all_at P [] i x all at = absurd (cc at)
all_at P (y ∷ ys) zero x all at = let same : y ≡ x = cc at in subst P same all.0
all_at P (y ∷ ys) (suc i) x all at = all_at P ys i x all.1 at
