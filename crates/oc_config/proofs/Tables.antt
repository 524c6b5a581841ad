-- The tables of an array.
use Rattle.std.proofs.Common.{◌≡◌, ℕ, ℤ, pos, negsuc, ◌+◌, ◌<◌, ◌≤◌, ◌&&◌, inl, inr, nat_le, Option, Some, None, List, [], ◌∷◌, ◌++◌, length, get_or, drop, zero, suc, refl, sym, ap, ◌∙◌, arith}
use Rattle.std.proofs.Math.Numerals.{add-one}
use Rattle.std.proofs.Math.Seq.{drop-cons}
use Rattle.std.proofs.lemmas.List.{append_assoc, append-nil}
use Rattle.std.proofs.lemmas.Bool.{cases_Bool, and_parts, and_from, and_left, and_right, cond-true, cond-false, le-leb, lt-leb, leb-true}
use Rattle.toml.specs.Data.{Items, no_items, item, Members, as_table}
use Rattle.toml.specs.View.{view, items_view, table_view}
use Rattle.toml.specs.declared.value.Value.{Value}
use Rattle.oc_config.specs.Values.{Section, section_in, section_of, sections_of, within, count_items, table_before, all_tables, tables_of}
use Rattle.oc_config.specs.declared.section_name.Kind.{Kind}
use Rattle.oc_config.specs.declared.section.Section.{Section as CodeSection}

-- a number that is read is from the least to the most
pub within_range : (least most : ℕ) (o : Option ℤ) (n : ℕ) → within least most o ≡ Some n → (least ≤ n) × (n ≤ most)
within_range least most (Some (pos m)) n e = elim (cases_Bool (nat_le least m && nat_le m most)) [
  | inl good ↦
      let parts = and_parts (nat_le least m) (nat_le m most) good in
      let found = rw good at e in
      let same : m ≡ n = cc found in
      (omega (arith, leb-true _ _ parts.0, same), omega (arith, leb-true _ _ parts.1, same))
  | inr bad ↦ let found = rw bad at e in cc found
]
within_range least most (Some (negsuc m)) n e = cc
within_range least most None n e = cc

record IsBefore (kind : Kind) (number : ℕ) (o : Option Members) (rest : Option (List Section)) (ts : List Section) : Type 0 where
  pub first : Members
  pub others : List Section
  pub o_is : o ≡ Some first
  pub rest_is : rest ≡ Some others
  pub ts_is : ts ≡ section_in kind number first ∷ others

-- a table and the tables after it
before : (kind : Kind) (number : ℕ) (o : Option Members) (rest : Option (List Section)) (ts : List Section) → table_before kind number o rest ≡ Some ts → IsBefore kind number o rest ts
before kind number (Some first) (Some others) ts e = record { first = first; others = others; o_is = refl; rest_is = refl; ts_is = cc }
before kind number (Some first) None ts e = cc
before kind number None rest ts e = cc

-- there are as many tables as items
count_tables : (kind : Kind) (number : ℕ) (ds : Items) (ts : List Section) → all_tables kind number ds ≡ Some ts → length ts ≡ count_items ds
count_tables kind number no_items ts e = let same : [] ≡ ts = cc in omega (arith, ap length same)
count_tables kind number (item d ds) ts e =
    let found = before kind number (as_table d) (all_tables kind (number + 1) ds) ts e in
    omega (arith, ap length found.ts_is, count_tables kind (number + 1) ds found.others found.rest_is)

-- the tables are from the least to the most
pub tables_range : (kind : Kind) (least most : ℕ) (o : Option Items) (ts : List Section) → tables_of kind least most o ≡ Some ts → (least ≤ length ts) × (length ts ≤ most)
tables_range kind least most (Some ds) ts e = elim (cases_Bool (nat_le least (count_items ds) && nat_le (count_items ds) most)) [
  | inl good ↦
      let parts = and_parts (nat_le least (count_items ds)) (nat_le (count_items ds) most) good in
      let count = count_tables kind 1 ds ts (rw good at e) in
      (omega (arith, leb-true _ _ parts.0, count), omega (arith, leb-true _ _ parts.1, count))
  | inr bad ↦ let found = rw bad at e in cc found
]
tables_range kind least most None ts e = cc

-- values are as many as the items that they are seen as
pub count_view : (vs : List Value) → count_items (items_view vs) ≡ length vs
count_view [] = refl
count_view (v ∷ vs) = omega (arith, count_view vs)

-- an array of from the least to the most values has the tables that these are
pub tables_found : (kind : Kind) (least most : ℕ) (vs : List Value) → least ≤ length vs → length vs ≤ most → tables_of kind least most (Some (items_view vs)) ≡ all_tables kind 1 (items_view vs)
tables_found kind least most vs low high =
    let count = count_view vs in
    cond-true _ (all_tables kind 1 (items_view vs)) None (and_from _ _ (le-leb least (count_items (items_view vs)) (omega (arith, low, count))) (le-leb (count_items (items_view vs)) most (omega (arith, high, count))))

-- an array of fewer values has none
pub too_few : (kind : Kind) (least most : ℕ) (vs : List Value) → length vs < least → tables_of kind least most (Some (items_view vs)) ≡ None
too_few kind least most vs low =
    let count = count_view vs in
    cond-false _ (all_tables kind 1 (items_view vs)) None (and_left _ _ (lt-leb least (count_items (items_view vs)) (omega (arith, low, count))))

-- an array of more values has none
pub too_many : (kind : Kind) (least most : ℕ) (vs : List Value) → most < length vs → tables_of kind least most (Some (items_view vs)) ≡ None
too_many kind least most vs high =
    let count = count_view vs in
    cond-false _ (all_tables kind 1 (items_view vs)) None (and_right _ _ (lt-leb (count_items (items_view vs)) most (omega (arith, high, count))))

-- tables before others
abbrev pub with_front : List Section → Option (List Section) → Option (List Section)
with_front front None = None
with_front front (Some others) = Some (front ++ others)

front_before : (kind : Kind) (number : ℕ) (front : List Section) (t : Members) (rest : Option (List Section)) → with_front front (table_before kind number (Some t) rest) ≡ with_front (front ++ section_in kind number t ∷ []) rest
front_before kind number front t None = refl
front_before kind number front t (Some others) = ap Some (sym (append_assoc front (section_in kind number t ∷ []) others))

-- a value and those after it
pub next_value : (vs : List Value) (i : ℕ) (v : Value) → i < length vs → v ≡ get_or vs i v → drop i vs ≡ v ∷ drop (i + 1) vs
next_value vs i v inside is = rw (add-one, drop-cons vs i v) (ap (λ (x : Value). x ∷ drop (suc i) vs) (sym is))

-- a value that is a table goes after the front
pub table_next : (kind : Kind) (number : ℕ) (front : List Section) (vs : List Value) (i : ℕ) (v : Value) (t : Members) → i < length vs → v ≡ get_or vs i v → as_table (view v) ≡ Some t
    → with_front (front ++ section_in kind number t ∷ []) (all_tables kind (number + 1) (items_view (drop (i + 1) vs))) ≡ with_front front (all_tables kind number (items_view (drop i vs)))
table_next kind number front vs i v t inside is table =
    let rest = all_tables kind (number + 1) (items_view (drop (i + 1) vs)) in
    sym (ap (λ (xs : List Value). with_front front (all_tables kind number (items_view xs))) (next_value vs i v inside is)
    ∙ ap (λ (o : Option Members). with_front front (table_before kind number o rest)) table
    ∙ front_before kind number front t rest)

-- a value that is no table ends all
pub no_table : (kind : Kind) (number : ℕ) (vs : List Value) (i : ℕ) (v : Value) → i < length vs → v ≡ get_or vs i v → as_table (view v) ≡ None → all_tables kind number (items_view (drop i vs)) ≡ None
no_table kind number vs i v inside is none =
    ap (λ (xs : List Value). all_tables kind number (items_view xs)) (next_value vs i v inside is)
    ∙ ap (λ (o : Option Members). table_before kind number o (all_tables kind (number + 1) (items_view (drop (i + 1) vs)))) none

-- an empty front adds nothing
pub front_none : (o : Option (List Section)) → with_front [] o ≡ o
front_none None = refl
front_none (Some others) = refl

-- a table more in front
pub front_more : (ss : List CodeSection) (s : CodeSection) → sections_of (ss ++ s ∷ []) ≡ sections_of ss ++ section_of s ∷ []
front_more [] s = refl
front_more (r ∷ ss) s = ap (λ (ts : List Section). section_of r ∷ ts) (front_more ss s)

-- after the last value
values_end : (kind : Kind) (number : ℕ) (vs : List Value) (i : ℕ) → length vs ≤ i → all_tables kind number (items_view (drop i vs)) ≡ Some []
values_end kind number [] zero past = refl
values_end kind number [] (suc i) past = refl
values_end kind number (v ∷ vs) zero past = absurd (omega (arith, past))
values_end kind number (v ∷ vs) (suc i) past = values_end kind number vs i (omega (arith, past))

-- all tables are in front
pub all_found : (kind : Kind) (number : ℕ) (front : List Section) (vs : List Value) (i : ℕ) → length vs ≤ i → with_front front (all_tables kind number (items_view (drop i vs))) ≡ Some front
all_found kind number front vs i past = ap (with_front front) (values_end kind number vs i past) ∙ ap Some (append-nil front)
