-- Texts and numbers at an index of bytes.
use Rattle.std.proofs.Common.{◌≡◌, ℕ, ◌+◌, ◌^◌, ◌<◌, ◌≤◌, Bool, true, false, cond, ltb, ◌||◌, List, [], ◌∷◌, ◌++◌, length, get_or, take, drop, Result, Ok, Err, refl, sym, ap, subst, ◌∙◌, append_assoc, arith, inl, inr}
use Rattle.std.specs.Int.{Width, w8, w16, w32, w64, byte_len, from_be_bytes, to_be_bytes}
use Rattle.std.proofs.lemmas.Bool.{cases_lt, ltb-false, le-ltb, or_parts}
use Rattle.std.proofs.lemmas.List.{take_at, drop_at, drop-drop, take-append-drop, length-append, length-drop, length-take, get_or-drop, get_or-take, get_or_past}
use Rattle.std.proofs.lemmas.Nat.{be_bytes_2, be_bytes_4, be_bytes_8, from_be_bytes-to_be_bytes_2, from_be_bytes-to_be_bytes_4, from_be_bytes-to_be_bytes_8}
use Rattle.oc_base.specs.declared.field.Short.{Short}
use Rattle.oc_base.specs.Fields.{number_at}
use Rattle.oc_base.specs.declared.field_fault.FieldFault.{FieldFault}
use Rattle.oc_base.specs.declared.field_fault.FieldFault.TheVariants as faults
use Rattle.oc_base.specs.Steps.{◌>>=◌}
use Rattle.oc_base.specs.Reading.{or_short, within_at}

-- each is a byte
abbrev pub IsBytes : List ℕ → Type 0
IsBytes bytes = (i : ℕ) → get_or bytes i 0 < 256

-- bytes after others are bytes
IsBytes-drop : (n : ℕ) (bytes : List ℕ) → IsBytes bytes → IsBytes (drop n bytes)
IsBytes-drop n bytes h i = rw get_or-drop (h (n + i))

-- bytes before others are bytes
IsBytes-take : (n : ℕ) (bytes : List ℕ) → IsBytes bytes → IsBytes (take n bytes)
IsBytes-take n bytes h i =
    elim (cases_lt i n) [
      | inl lt ↦ rw (get_or-take n bytes i 0 lt) (h i)
      | inr le ↦ rw (get_or_past (take n bytes) i 0 (omega (arith, length-take n bytes))) (omega arith)
    ]

-- the text is at this index
abbrev pub IsAt : List ℕ → ℕ → List ℕ → Type 0
IsAt bytes at text = (rest : List ℕ) × (drop at bytes ≡ text ++ rest)

-- a prefix of a text is where the text is
pub first_at : (bytes : List ℕ) (at : ℕ) (a b : List ℕ) → IsAt bytes at (a ++ b) → IsAt bytes at a
first_at bytes at a b s = (b ++ s.0, s.1 ∙ append_assoc a b s.0)

-- the bytes after the prefix are there too
pub second_at : (bytes : List ℕ) (at : ℕ) (a b : List ℕ) → IsAt bytes at (a ++ b) → IsAt bytes (at + length a) b
second_at bytes at a b s =
    (s.0, sym (drop-drop (length a) at bytes) ∙ ap (drop (length a)) (s.1 ∙ append_assoc a b s.0) ∙ drop_at a (b ++ s.0) (length a) refl)

-- two texts, one after the other
pub both_at : (bytes : List ℕ) (at : ℕ) (a b : List ℕ) → IsAt bytes at a → IsAt bytes (at + length a) b → IsAt bytes at (a ++ b)
both_at bytes at a b s t =
    let behind : drop (at + length a) bytes ≡ s.0 = sym (drop-drop (length a) at bytes) ∙ ap (drop (length a)) s.1 ∙ drop_at a s.0 (length a) refl in
    (t.0, s.1 ∙ ap (λ (x : List ℕ). a ++ x) (sym behind ∙ t.1) ∙ sym (append_assoc a b t.0))

-- the text is at this index, and the next index is after it
pub record Takes (bytes : List ℕ) (at : ℕ) (text : List ℕ) (next : ℕ) : Type 0 where
  pub there : IsAt bytes at text
  pub moved : next ≡ at + length text

-- two texts one after the other are one
pub takes_both : (bytes : List ℕ) (at : ℕ) (a : List ℕ) (mid : ℕ) (b : List ℕ) (next : ℕ) → Takes bytes at a mid → Takes bytes mid b next → Takes bytes at (a ++ b) next
takes_both bytes at a mid b next s t = record {
  there = both_at bytes at a b s.there (subst (λ (k : ℕ). IsAt bytes k b) s.moved t.there);
  moved = omega (arith, s.moved, t.moved, length-append a b);
}

-- of two texts one after the other, the first and the second
pub takes_first : (bytes : List ℕ) (at : ℕ) (a b : List ℕ) (next : ℕ) → Takes bytes at (a ++ b) next → Takes bytes at a (at + length a)
takes_first bytes at a b next t = record { there = first_at bytes at a b t.there; moved = refl }

-- the second of two texts one after the other
pub takes_second : (bytes : List ℕ) (at : ℕ) (a b : List ℕ) (next : ℕ) → Takes bytes at (a ++ b) next → Takes bytes (at + length a) b next
takes_second bytes at a b next t = record { there = second_at bytes at a b t.there; moved = omega (arith, t.moved, length-append a b) }

-- an empty text is everywhere
pub takes_nothing : (bytes : List ℕ) (at : ℕ) → Takes bytes at [] at
takes_nothing bytes at = record { there = (drop at bytes, refl); moved = omega arith }

-- the value of a step that did not fail
pub bind_ok : {A B F : Type 0} (r : Result A F) (f : A → Result B F) (y : B) → (r >>= f) ≡ Ok y → (x : A) × (r ≡ Ok x) × (f x ≡ Ok y)
bind_ok (Ok x) f y e = (x, refl, e)
bind_ok (Err fault) f y e = absurd cc

-- the result of a test has a property that both branches have
pub tested : {A F : Type 0} (b : Bool) (x z : Result A F) (y : A) (Q : Type 0) → cond b x z ≡ Ok y → (b ≡ true → x ≡ Ok y → Q) → (z ≡ Ok y → Q) → Q
tested true x z y Q e f g = f refl e
tested false x z y Q e f g = g e

-- a value that was read
abbrev pub done : {A : Type 0} → A → Result A FieldFault
done x = Ok x

-- values that were read alike are one
pub ok_is : {A : Type 0} (x y : A) → done x ≡ done y → x ≡ y
ok_is x y e = cc

-- a test that did not fail
pub guard_ok : {A F : Type 0} (b : Bool) (fault : F) (x y : A) → cond b (Err fault) (Ok x) ≡ Ok y → (b ≡ false) × (x ≡ y)
guard_ok true fault x y e = absurd cc
guard_ok false fault x y e = (refl, cc)

-- a field that is not cut off was read
not_short : {A : Type 0} (r : Result A Short) (x : A) → or_short r ≡ Ok x → r ≡ Ok x
not_short (Ok y) x e = cc
not_short (Err short) x e = absurd cc

-- Numbers

-- a number of this width is below the limit, and is spelled in as many bytes as the width has, in one way
pub record IsWide (w : Width) (limit : ℕ) : Type 0 where
  pub some : 0 < byte_len w
  pub len : (n : ℕ) → length (to_be_bytes w n) ≡ byte_len w
  pub back : (bytes : List ℕ) → length bytes ≡ byte_len w → IsBytes bytes → to_be_bytes w (from_be_bytes w bytes) ≡ bytes
  pub again : (n : ℕ) → n < limit → from_be_bytes w (to_be_bytes w n) ≡ n
  pub below : (bytes : List ℕ) → IsBytes bytes → from_be_bytes w bytes < limit

-- one byte is spelled as the number that it is
one_back : (bytes : List ℕ) → length bytes ≡ 1 → IsBytes bytes → to_be_bytes w8 (from_be_bytes w8 bytes) ≡ bytes
one_back [] len fits = absurd cc
one_back (b ∷ []) len fits = ap (λ (x : ℕ). x ∷ []) (omega (arith, fits 0))
one_back (b ∷ c ∷ bytes) len fits = absurd (omega (arith, len))

-- one byte has all numbers below 2^8
pub wide8 : IsWide w8 (2 ^ 8)
wide8 = record {
  some = omega arith;
  len = λ n. refl;
  back = λ bytes len fits. one_back bytes len fits;
  again = λ n lt. omega (arith, lt);
  below = λ bytes fits. omega (arith, fits 0);
}

-- two bytes those below 2^16
pub wide16 : IsWide w16 (2 ^ 16)
wide16 = record {
  some = omega arith;
  len = λ n. refl;
  back = λ bytes len fits. be_bytes_2 bytes _ len fits refl;
  again = λ n lt. from_be_bytes-to_be_bytes_2 n lt;
  below = λ bytes fits. omega (arith, fits 0, fits 1);
}

-- four bytes those below 2^32
pub wide32 : IsWide w32 (2 ^ 32)
wide32 = record {
  some = omega arith;
  len = λ n. refl;
  back = λ bytes len fits. be_bytes_4 bytes _ len fits refl;
  again = λ n lt. from_be_bytes-to_be_bytes_4 n lt;
  below = λ bytes fits. omega (arith, fits 0, fits 1, fits 2, fits 3);
}

-- eight bytes those below 2^64
pub wide64 : IsWide w64 (2 ^ 64)
wide64 = record {
  some = omega arith;
  len = λ n. refl;
  back = λ bytes len fits. be_bytes_8 bytes _ len fits refl;
  again = λ n lt. from_be_bytes-to_be_bytes_8 n lt;
  below = λ bytes fits. omega (arith, fits 0, fits 1, fits 2, fits 3, fits 4, fits 5, fits 6, fits 7);
}

-- a number that is read is there
pub number_takes : (w : Width) (limit : ℕ) (wide : IsWide w limit) (bytes : List ℕ) (at n next : ℕ) → IsBytes bytes → or_short (number_at w bytes at) ≡ Ok (n, next) → Takes bytes at (to_be_bytes w n) next × (n < limit)
number_takes w limit wide bytes at n next fits e =
    let g = guard_ok (ltb (length bytes) (at + byte_len w)) _ (from_be_bytes w (take (byte_len w) (drop at bytes)), at + byte_len w) (n, next) (not_short (number_at w bytes at) (n, next) e) in
    let long : at + byte_len w ≤ length bytes = ltb-false _ _ g.0 in
    let n-is : from_be_bytes w (take (byte_len w) (drop at bytes)) ≡ n = ap (λ (p : ℕ × ℕ). p.0) g.1 in
    let next-is : at + byte_len w ≡ next = ap (λ (p : ℕ × ℕ). p.1) g.1 in
    let front_fits : IsBytes (take (byte_len w) (drop at bytes)) = IsBytes-take (byte_len w) (drop at bytes) (IsBytes-drop at bytes fits) in
    let front : to_be_bytes w n ≡ take (byte_len w) (drop at bytes) = rw (← n-is) (wide.back (take (byte_len w) (drop at bytes)) (omega (arith, long, length-take (byte_len w) (drop at bytes), length-drop at bytes)) front_fits) in (
      record {
        there = (drop (byte_len w) (drop at bytes), rw front (sym (take-append-drop (byte_len w) (drop at bytes))));
        moved = sym next-is ∙ ap (λ (k : ℕ). at + k) (sym (wide.len n));
      },
      rw (← n-is) (wide.below (take (byte_len w) (drop at bytes)) front_fits),
    )

-- a number that is there is read
pub number_again : (w : Width) (limit : ℕ) (wide : IsWide w limit) (bytes : List ℕ) (at n next : ℕ) → n < limit → Takes bytes at (to_be_bytes w n) next → or_short (number_at w bytes at) ≡ Ok (n, next)
number_again w limit wide bytes at n next lt t =
    let s = t.there in
    let to : next ≡ at + byte_len w = t.moved ∙ ap (λ (k : ℕ). at + k) (wide.len n) in
    let len = wide.len n in
    let long : ltb (length bytes) (at + byte_len w) ≡ false = le-ltb _ _ (omega (arith, ap (λ (x : List ℕ). length x) s.1, length-append (to_be_bytes w n) s.0, length-drop at bytes, len, wide.some)) in
    rw (long, s.1, take_at (to_be_bytes w n) s.0 (byte_len w) len, wide.again n lt, to) refl

-- Numbers within a range

-- a number in range that is read is there, and in range
pub within_takes : (w : Width) (limit : ℕ) (wide : IsWide w limit) (least most : ℕ) (bytes : List ℕ) (at n next : ℕ) → IsBytes bytes → within_at w least most bytes at ≡ Ok (n, next) → Takes bytes at (to_be_bytes w n) next × (least ≤ n) × (n ≤ most)
unfolding within_at
within_takes w limit wide least most bytes at n next fits e =
    let b = bind_ok (or_short (number_at w bytes at)) (λ x. cond (ltb x.0 least || ltb most x.0) (Err faults.Value) (Ok x)) (n, next) e in
    let g = guard_ok (ltb b.0.0 least || ltb most b.0.0) faults.Value b.0 (n, next) b.2 in
    let within = or_parts _ _ g.0 in
    let t = number_takes w limit wide bytes at b.0.0 b.0.1 fits b.1 in
    subst (λ (y : ℕ × ℕ). Takes bytes at (to_be_bytes w y.0) y.1 × (least ≤ y.0) × (y.0 ≤ most)) g.1 (t.0, ltb-false _ _ within.0, ltb-false _ _ within.1)

-- a number in range that is there is read
pub within_again : (w : Width) (limit : ℕ) (wide : IsWide w limit) (least most : ℕ) (bytes : List ℕ) (at n next : ℕ) → n < limit → least ≤ n → n ≤ most → Takes bytes at (to_be_bytes w n) next → within_at w least most bytes at ≡ Ok (n, next)
unfolding within_at
within_again w limit wide least most bytes at n next lt least_le le_most t =
    rw (number_again w limit wide bytes at n next lt t, le-ltb n least least_le, le-ltb most n le_most) refl
