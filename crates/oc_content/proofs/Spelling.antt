-- Bodies, and the entries read from them.
use Rattle.std.proofs.Common.{◌≡◌, ℕ, zero, suc, ◌+◌, ◌-◌, ◌<◌, ◌≤◌, ◌^◌, Bool, true, false, List, ◌∷◌, ◌++◌, length, take, drop, Option, Some, None, Ok, nat_lt, ◌==◌, refl, sym, ap, ◌∙◌, arith}
use Rattle.std.specs.Int.{w64, from_be_bytes, to_be_bytes}
use Rattle.std.proofs.lemmas.List.{drop-drop, length-append, take_at, drop_at, append_assoc}
use Rattle.std.proofs.lemmas.Nat.{from_be_bytes-to_be_bytes_8}
use Rattle.std.proofs.lemmas.Bool.{ltb-true, eqb-true}
use Rattle.std.proofs.lemmas.Bool.Decides.{nat_tests}
use Rattle.oc_base.specs.declared.group_name.NameFault.{NameFault}
use Rattle.oc_base.specs.declared.group_name.NameFault.TheVariants.{Length as NameLength}
use Rattle.oc_base.specs.Names.{IsGroupName, name_fault, name_or, parsed_name}
use Rattle.oc_content.specs.declared.heading.Heading.{Heading}
use Rattle.oc_content.specs.Entries.{Entry, entry_of, fields, written, heading, mark}
use Rattle.oc_content.specs.Headings.{entry_at, IsBehind, IsHeadingOf}

-- a name that was parsed is these bytes, and they have no fault
parsed : (bytes name : List ℕ) (fault : Option NameFault) → name_or bytes fault ≡ Ok name → (fault ≡ None) × (name ≡ bytes)
parsed bytes name None h = let same : bytes ≡ name = cc in (refl, sym same)
parsed bytes name (Some f) h = absurd cc

-- a test that does not hold
not_below : (a b : ℕ) → b ≤ a → nat_lt a b ≡ false
not_below a b h = by_test (nat_lt a b) refl where
  by_test : (t : Bool) → nat_lt a b ≡ t → t ≡ false
  by_test true e = absurd (omega (arith, ltb-true a b e, h))
  by_test false e = refl

-- fields that are all there
pub fields_read : (seals : Bool) (n : ℕ) (rest name : List ℕ) (start : ℕ) → n + 8 ≤ length rest → parsed_name (take n rest) ≡ Ok name → start ≡ from_be_bytes w64 (take 8 (drop n rest)) → fields seals (n ∷ rest) ≡ Some (record { group = name; start = start; bytes = drop 8 (drop n rest); seals = seals })
fields_read seals n rest name start long is at =
    let p = parsed (take n rest) name (name_fault (take n rest)) is in
    rw (not_below (length rest) (n + 8) long, p.0) (ap (λ (g : List ℕ). Some (record { group = g; start = from_be_bytes w64 (take 8 (drop n rest)); bytes = drop 8 (drop n rest); seals = seals })) (sym p.1) ∙ ap (λ (k : ℕ). Some (record { group = name; start = k; bytes = drop 8 (drop n rest); seals = seals })) (sym at))

-- after the first
drop_behind : (k : ℕ) (x : ℕ) (xs : List ℕ) → 0 < k → drop k (x ∷ xs) ≡ drop (k - 1) xs
drop_behind zero x xs h = absurd (omega (arith, h))
drop_behind (suc k) x xs h = let e : suc k - 1 ≡ k = omega arith in rw e

-- the bytes follow the length, the name and the start
pub bytes_behind : (before n : ℕ) (rest : List ℕ) → drop (before + 9 + n - before) (n ∷ rest) ≡ drop 8 (drop n rest)
bytes_behind before n rest =
    let e : before + 9 + n - before ≡ 9 + n = omega arith in
    let f : 9 + n - 1 ≡ n + 8 = omega arith in
    rw e (drop_behind (9 + n) n rest (omega arith) ∙ (ap (λ (k : ℕ). drop k rest) f ∙ sym (drop-drop 8 n rest)))

-- a sealed body, by its fields
pub sealed_read : (r : Option Heading) (rest : List ℕ) → IsHeadingOf 1 rest r (fields true rest) → IsBehind r (0 ∷ rest) (entry_of (0 ∷ rest))
sealed_read None rest is = is
sealed_read (Some h) rest is =
    is.0 ∙ ap (λ (b : List ℕ). Some (record { group = h.group; start = h.start; bytes = b; seals = h.seals })) (sym (drop_behind h.skip 0 rest (omega (arith, is.1))))

-- a number above 1 is not 0
not_zero : (n : ℕ) → 2 ≤ n → (n == 0) ≡ false
not_zero n h = by_test (n == 0) refl where
  by_test : (t : Bool) → (n == 0) ≡ t → t ≡ false
  by_test true e = absurd (omega (arith, eqb-true n 0 e, h))
  by_test false e = refl

-- a test of numbers that does not hold
not_less : (a b : ℕ) → nat_lt a b ≡ false → b ≤ a
not_less a b h = grind (arith, nat_tests)

-- a group name has a length between these
pub name_length : (name : List ℕ) → IsGroupName name → (2 ≤ length name) × (length name ≤ 200)
name_length name is = by_short (nat_lt (length name) 2) (nat_lt 200 (length name)) refl refl where
  by_short : (a b : Bool) → nat_lt (length name) 2 ≡ a → nat_lt 200 (length name) ≡ b → (2 ≤ length name) × (length name ≤ 200)
  by_short true b e f = let fault : Some NameLength ≡ None = rw e at is in absurd cc
  by_short false true e f = let fault : Some NameLength ≡ None = rw (e, f) at is in absurd cc
  by_short false false e f = (not_less (length name) 2 e, not_less 200 (length name) f)

-- the entry of a body that was written
pub entry_of-written : (e : Entry) → IsGroupName e.group → e.start < 2 ^ 64 → entry_of (written e) ≡ Some e
entry_of-written e is small = by_mark e.seals where
  rest : List ℕ
  rest = e.group ++ (to_be_bytes w64 e.start ++ e.bytes)

  n : ℕ
  n = length e.group

  eight : length (to_be_bytes w64 e.start) ≡ 8
  eight = refl

  front : take n rest ≡ e.group
  front = take_at e.group (to_be_bytes w64 e.start ++ e.bytes) n refl

  back : drop n rest ≡ to_be_bytes w64 e.start ++ e.bytes
  back = drop_at e.group (to_be_bytes w64 e.start ++ e.bytes) n refl

  named : parsed_name (take n rest) ≡ Ok e.group
  named = ap parsed_name front ∙ ap (name_or e.group) is

  starts : e.start ≡ from_be_bytes w64 (take 8 (drop n rest))
  starts = sym (ap (λ (l : List ℕ). from_be_bytes w64 (take 8 l)) back ∙ (ap (from_be_bytes w64) (take_at (to_be_bytes w64 e.start) e.bytes 8 eight) ∙ from_be_bytes-to_be_bytes_8 e.start small))

  behind : drop 8 (drop n rest) ≡ e.bytes
  behind = ap (drop 8) back ∙ drop_at (to_be_bytes w64 e.start) e.bytes 8 eight

  long : n + 8 ≤ length rest
  long = omega (arith, length-append e.group (to_be_bytes w64 e.start ++ e.bytes), length-append (to_be_bytes w64 e.start) e.bytes, eight)

  read : (seals : Bool) → fields seals (n ∷ rest) ≡ Some (record { group = e.group; start = e.start; bytes = e.bytes; seals = seals })
  read seals = fields_read seals n rest e.group e.start long named starts ∙ ap (λ (b : List ℕ). Some (record { group = e.group; start = e.start; bytes = b; seals = seals })) behind

  plain : (e.group ++ to_be_bytes w64 e.start) ++ e.bytes ≡ rest
  plain = append_assoc e.group (to_be_bytes w64 e.start) e.bytes

  by_mark : (b : Bool) → entry_of ((mark b ++ ((n ∷ e.group) ++ to_be_bytes w64 e.start)) ++ e.bytes) ≡ Some (record { group = e.group; start = e.start; bytes = e.bytes; seals = b })
  by_mark true = ap (λ (l : List ℕ). fields true (n ∷ l)) plain ∙ read true
  by_mark false =
      let other : (n == 0) ≡ false = not_zero n (name_length e.group is).0 in
      rw other (ap (λ (l : List ℕ). fields false (n ∷ l)) plain ∙ read false)

-- the bytes of a body that was written
pub bytes_at-written : (h : Heading) (bytes : List ℕ) → h.skip ≡ length (heading h.seals h.group h.start) → drop h.skip (heading h.seals h.group h.start ++ bytes) ≡ bytes
bytes_at-written h bytes skip = drop_at (heading h.seals h.group h.start) bytes h.skip (sym skip)

-- the entry after a heading that says it
pub entry_at-written : (h : Heading) (bytes : List ℕ) → IsGroupName h.group → h.start < 2 ^ 64 → h.skip ≡ length (heading h.seals h.group h.start) → entry_of (heading h.seals h.group h.start ++ bytes) ≡ Some (entry_at h (heading h.seals h.group h.start ++ bytes))
entry_at-written h bytes is small skip =
    entry_of-written (record { group = h.group; start = h.start; bytes = bytes; seals = h.seals }) is small
    ∙ ap (λ (b : List ℕ). Some (record { group = h.group; start = h.start; bytes = b; seals = h.seals })) (sym (bytes_at-written h bytes skip))
