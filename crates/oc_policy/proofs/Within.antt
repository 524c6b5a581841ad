-- Names within a prefix.
use Rattle.std.proofs.Common.{◌≡◌, ℕ, ◌<◌, ◌≤◌, Bool, true, false, ◌&&◌, ◌||◌, cond, nat_lt, nat_eq, ◌⊎◌, inl, inr, Option, Some, None, List, [], ◌∷◌, ◌++◌, length, drop, get_or, ◌≢◌, Ok, is_none, IsTrue, refl, sym, ap, ◌∙◌, subst, append_assoc, length-append, arith, codes}
use Rattle.std.specs.Bool.{Decides}
use Rattle.std.specs.List.{starts_with}
use Rattle.std.specs.Str.{bytes_eq}
use Rattle.std.proofs.lemmas.Bool.Decides.{Decides-eqb, Decides-or, nat_tests}
use Rattle.std.proofs.lemmas.Slice.Eq.{starts_is, bytes_eq-Decides}
use Rattle.oc_base.specs.Names.{IsGroupName, name_fault, name_or}
use Rattle.oc_base.specs.declared.group_name.NameFault.{NameFault}
use Rattle.oc_base.specs.declared.group_name.NameFault.TheVariants.{Length}
use Rattle.oc_policy.specs.Prefixes.{IsPrefix, is_within}

-- a name within a prefix: `/`, the name, or the prefix before a slash
abbrev pub IsWithin : List ℕ → List ℕ → Type 0
IsWithin p s = ((p ≡ 47 ∷ []) ⊎ (p ≡ s)) ⊎ ((rest : List ℕ) × (s ≡ (p ++ 47 ∷ []) ++ rest))

-- the test of a beginning decides it
pub begins-Decides : (s q : List ℕ) → Decides (starts_with nat_eq s q) ((rest : List ℕ) × (s ≡ q ++ rest))
begins-Decides s q =
    let said = starts_is Decides-eqb s q (starts_with nat_eq s q) refl in
    (λ e. (drop (length q) s, said.0 e), λ w. said.1 w.0 w.1)

-- the test of a name within a prefix decides it
pub is_within-Decides : (p s : List ℕ) → Decides (is_within p s) (IsWithin p s)
is_within-Decides p s =
    Decides-or _ _ (Decides-or _ _ (bytes_eq-Decides p (47 ∷ [])) (bytes_eq-Decides p s)) (begins-Decides s (p ++ 47 ∷ []))

fault_none : (few : Bool) (o : Option NameFault) → cond few (Some Length) o ≡ None → few ≡ false
fault_none true o h = cc h
fault_none false o h = refl

-- a group name has two bytes at least
pub some_from_name : (p : List ℕ) → IsGroupName p → 2 ≤ length p
some_from_name p named =
    let few = fault_none (nat_lt (length p) 2 || nat_lt 200 (length p)) _ named in
    grind (arith, nat_tests)

by_test : (is_root : Bool) (o : Option NameFault) → cond is_root None o ≡ None → (is_root ≡ true) ⊎ (o ≡ None)
by_test true o h = inl refl
by_test false o h = inr h

-- a prefix is a slash or a group name
pub prefix_cases : (p : List ℕ) → IsPrefix p → (p ≡ 47 ∷ []) ⊎ IsGroupName p
prefix_cases p h = elim (by_test (bytes_eq p (47 ∷ [])) (name_fault p) h) [
  | inl is ↦ inl ((bytes_eq-Decides p (47 ∷ [])).0 is)
  | inr named ↦ inr named
]

-- a prefix is not empty
pub some_from_prefix : (p : List ℕ) → IsPrefix p → 0 < length p
some_from_prefix p h = elim (prefix_cases p h) [
  | inl e ↦ omega (arith, ap length e)
  | inr named ↦ omega (arith, some_from_name p named)
]

-- a slash is not some bytes with a slash and more after them
pub no_slash_behind : {P : Type 0} (a r : List ℕ) → 0 < length a → 47 ∷ [] ≡ (a ++ 47 ∷ []) ++ r → P
no_slash_behind a r some e = absurd (omega (arith, simp length-append at (ap length e)))

through : (a r t : List ℕ) → ((((a ++ 47 ∷ []) ++ r) ++ 47 ∷ []) ++ t) ≡ (a ++ 47 ∷ []) ++ (r ++ 47 ∷ t)
through a r t = simp append_assoc

beneath : (a b s r : List ℕ) → 0 < length a → b ≡ (a ++ 47 ∷ []) ++ r → IsWithin b s → IsWithin a s
beneath a b s r some e (inl (inl root)) = no_slash_behind a r some (sym root ∙ e)
beneath a b s r some e (inl (inr same)) = inr (r, sym same ∙ e)
beneath a b s r some e (inr (t, more)) = inr (r ++ 47 ∷ t, more ∙ ap (λ (x : List ℕ). (x ++ 47 ∷ []) ++ t) e ∙ through a r t)

-- a name within a prefix that is within another is within the other
pub within_through : (a b s : List ℕ) → 0 < length a → IsWithin a b → IsWithin b s → IsWithin a s
within_through a b s some (inl (inl root)) w = inl (inl root)
within_through a b s some (inl (inr same)) w = subst (λ (x : List ℕ). IsWithin x s) (sym same) w
within_through a b s some (inr (r, e)) w = beneath a b s r some e w

letters : {P : Type 0} → ◌≡◌ {A = List ℕ} (47 ∷ 97 ∷ []) (47 ∷ 98 ∷ []) → P
letters e = let second : ◌≡◌ {A = ℕ} 97 98 = ap (λ (xs : List ℕ). get_or xs 1 0) e in absurd (omega arith)

-- only `/` holds both /a and /b
long_prefix : {P : Type 0} (p : List ℕ) → 2 ≤ length p → IsWithin p (47 ∷ 97 ∷ []) → IsWithin p (47 ∷ 98 ∷ []) → P
long_prefix p long (inl (inl root)) w = absurd (omega (arith, ap length root))
long_prefix p long (inr (r, e)) w = absurd (omega (arith, simp length-append at (ap length e)))
long_prefix p long (inl (inr a)) (inl (inl root)) = absurd (omega (arith, ap length root))
long_prefix p long (inl (inr a)) (inr (r, e)) = absurd (omega (arith, simp length-append at (ap length e)))
long_prefix p long (inl (inr a)) (inl (inr b)) = letters (sym a ∙ b)

pub root_from_both : (p : List ℕ) → IsPrefix p → IsWithin p (47 ∷ 97 ∷ []) → IsWithin p (47 ∷ 98 ∷ []) → p ≡ 47 ∷ []
root_from_both p good a b = elim (prefix_cases p good) [
  | inl root ↦ root
  | inr named ↦ long_prefix p (some_from_name p named) a b
]

-- a prefix holds another where it holds all group names that the other holds
pub within_from_all : (a b : List ℕ) → IsPrefix a → IsPrefix b → ((s : List ℕ) → IsGroupName s → IsWithin b s → IsWithin a s) → IsWithin a b
within_from_all a b good other all = elim (prefix_cases b other) [
  | inl root ↦ inl (inl (root_from_both a good (all (47 ∷ 97 ∷ []) refl (inl (inl root))) (all (47 ∷ 98 ∷ []) refl (inl (inl root)))))
  | inr named ↦ all b named (inl (inr refl))
]

same_head : (b : ℕ) (test : Bool) → (nat_eq b b && test) ≡ test
same_head b test = grind (arith, nat_tests)

-- the bytes after a common beginning decide
pub starts-behind : (p x n : List ℕ) → starts_with nat_eq (p ++ x) (p ++ n) ≡ starts_with nat_eq x n
starts-behind [] x n = refl
starts-behind (b ∷ p) x n = same_head b (starts_with nat_eq (p ++ x) (p ++ n)) ∙ starts-behind p x n

-- the bytes after a prefix begin with a slash, or the whole does not begin with both
pub starts-with_prefix : (s p rest : List ℕ) → s ≡ p ++ rest → starts_with nat_eq rest (codes "/") ≡ starts_with nat_eq s (p ++ codes "/")
starts-with_prefix s p rest e = rw e (sym (starts-behind p rest (codes "/")))

-- a name that does not begin with a prefix begins with no longer one
pub starts-without_prefix : (s p more : List ℕ) → ((rest : List ℕ) → s ≢ p ++ rest) → starts_with nat_eq s (p ++ more) ≡ false
starts-without_prefix s p more none =
    not_begun (starts_with nat_eq s (p ++ more)) λ begun.
    let found = (begins-Decides s (p ++ more)).0 begun in
    none (more ++ found.0) (found.1 ∙ append_assoc p more found.0)
  where
    not_begun : (b : Bool) → (b ≡ true → ⊥) → b ≡ false
    not_begun true h = absurd (h refl)
    not_begun false h = refl

-- a name that parses is one
pub named_from_parse : (bytes name : List ℕ) (o : Option NameFault) → name_or bytes o ≡ Ok name → o ≡ name_fault bytes → IsTrue (is_none (name_fault name))
named_from_parse bytes name None parsed same = let e : bytes ≡ name = cc parsed in subst (λ (b : List ℕ). IsTrue (is_none (name_fault b))) e (rw (← same) refl)
named_from_parse bytes name (Some fault) parsed same = absurd (cc parsed)
