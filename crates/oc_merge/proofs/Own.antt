-- The lines of one node among those of all, and their places.
use Rattle.std.proofs.Common.{◌≡◌, ℕ, zero, suc, ◌≤◌, Bool, true, false, ◌==◌, if◌then◌else◌, Some, List, [], ◌∷◌, ◌++◌, inl, inr, length, map, take, drop, slice_get, refl, ap, sym, ◌∙◌, arith, eq-eqb}
use Rattle.std.proofs.lemmas.Bool.{eqb-true}
use Rattle.std.proofs.lemmas.Bool.{cases_Bool}
use Rattle.oc_laws_world.specs.Merges.{entries_of}
use Rattle.oc_merge.specs.declared.told.Told.{Told}
use Rattle.oc_merge.specs.declared.told.ToldLine.{ToldLine}
use Rattle.oc_merge.specs.Heads.{before_own}
use Rattle.oc_merge.specs.Recorded.{entry_of, line_of, own_told}

-- the entries of x are those of its own lines
pub entries_own : (nodes x : ℕ) (ls : List ToldLine) → entries_of x (map (line_of nodes) ls) ≡ map (entry_of nodes) (own_told x ls)
entries_own nodes x [] = refl
entries_own nodes x (l ∷ ls) = by_test (l.node == x) (entries_own nodes x ls) where
  by_test : (b : Bool) → entries_of x (map (line_of nodes) ls) ≡ map (entry_of nodes) (own_told x ls)
      → (if b then entry_of nodes l.told ∷ entries_of x (map (line_of nodes) ls) else entries_of x (map (line_of nodes) ls)) ≡ map (entry_of nodes) (if b then l.told ∷ own_told x ls else own_told x ls)
  by_test true rest = ap (λ es. entry_of nodes l.told ∷ es) rest
  by_test false rest = rest

pub own-append : (x : ℕ) (ls more : List ToldLine) → own_told x (ls ++ more) ≡ own_told x ls ++ own_told x more
own-append x [] more = refl
own-append x (l ∷ ls) more = by_test (l.node == x) (own-append x ls more) where
  by_test : (b : Bool) → own_told x (ls ++ more) ≡ own_told x ls ++ own_told x more
      → (if b then l.told ∷ own_told x (ls ++ more) else own_told x (ls ++ more)) ≡ (if b then l.told ∷ own_told x ls else own_told x ls) ++ own_told x more
  by_test true rest = ap (λ ts. l.told ∷ ts) rest
  by_test false rest = rest

-- a line of x at the front
pub own_first : (x : ℕ) (l : ToldLine) (ls : List ToldLine) → l.node ≡ x → own_told x (l ∷ ls) ≡ l.told ∷ own_told x ls
own_first x l ls is = ap (λ b. if b then l.told ∷ own_told x ls else own_told x ls) (eq-eqb l.node x is)

-- the line of x that comes first is at the front
pub first_own : (x : ℕ) (ls : List ToldLine) (t : Told) (ts : List Told) → before_own x ls ≡ 0 → own_told x ls ≡ t ∷ ts
    → (l : ToldLine) × (rest : List ToldLine) × (ls ≡ l ∷ rest) × (l.node ≡ x) × (l.told ≡ t) × (own_told x rest ≡ ts)
first_own x [] t ts none is = absurd (cc is)
first_own x (l ∷ ls) t ts none is = elim (cases_Bool (l.node == x)) [
  | inl same ↦
      let here : l.told ∷ own_told x ls ≡ t ∷ ts = sym (ap (λ b. if b then l.told ∷ own_told x ls else own_told x ls) same) ∙ is in
      (l, ls, refl, eqb-true l.node x same, cc here, cc here)
  | inr other ↦ absurd (later other)
] where
  later : (l.node == x) ≡ false → ⊥
  later other =
      let more : suc (before_own x ls) ≡ 0 = sym (ap (λ b. if b then 0 else suc (before_own x ls)) other) ∙ none in
      cc more

-- a place before which x has as many lines as before a line of x, and where a line of x comes next, is that line's
pub same_place : (x : ℕ) (ls : List ToldLine) (p q : ℕ) (l : ToldLine) → slice_get ls p ≡ Some l → l.node ≡ x → before_own x (drop q ls) ≡ 0 → q ≤ length ls
    → length (own_told x (take p ls)) ≡ length (own_told x (take q ls)) → p ≡ q
same_place x [] p q l at is own within count = absurd (cc at)
same_place x (k ∷ ks) zero zero l at is own within count = refl
same_place x (k ∷ ks) zero (suc q) l at is own within count =
    let same : k ≡ l = cc at in
    let own_k : k.node ≡ x = ap (λ (j : ToldLine). j.node) same ∙ is in
    let more : 0 ≡ suc (length (own_told x (take q ks))) = count ∙ ap length (own_first x k (take q ks) own_k) in
    absurd (cc more)
same_place x (k ∷ ks) (suc p) zero l at is own within count = elim (cases_Bool (k.node == x)) [
  | inl same ↦
      let more : suc (length (own_told x (take p ks))) ≡ 0 = sym (ap length (own_first x k (take p ks) (eqb-true k.node x same))) ∙ count in
      absurd (cc more)
  | inr other ↦
      let more : suc (before_own x ks) ≡ 0 = sym (ap (λ b. if b then 0 else suc (before_own x ks)) other) ∙ own in
      absurd (cc more)
]
same_place x (k ∷ ks) (suc p) (suc q) l at is own within count =
    ap suc (same_place x ks p q l at is own (omega (arith, within)) (less (k.node == x) count)) where
      less : (b : Bool) → length (if b then k.told ∷ own_told x (take p ks) else own_told x (take p ks)) ≡ length (if b then k.told ∷ own_told x (take q ks) else own_told x (take q ks))
          → length (own_told x (take p ks)) ≡ length (own_told x (take q ks))
      less true e = omega (arith, e)
      less false e = e
