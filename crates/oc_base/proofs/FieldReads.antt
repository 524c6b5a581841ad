-- Reading a field at an index gives exactly the values in range whose text is there.
use Rattle.std.proofs.Common.{◌≡◌, ℕ, zero, suc, ◌+◌, ◌-◌, ◌^◌, ◌<◌, ◌≤◌, Bool, true, false, ltb, ◌==◌, List, [], ◌∷◌, length, take, drop, Ok, refl, sym, ap, subst, arith}
use Rattle.std.specs.Int.{Width, w8, w32, w64, to_be_bytes}
use Rattle.std.proofs.lemmas.Bool.{ltb-false, le-ltb}
use Rattle.std.proofs.lemmas.List.{take_at, take-append-drop, length-append, length-drop, length-take}
use Rattle.oc_base.specs.declared.field_fault.FieldFault.TheVariants as faults
use Rattle.oc_base.specs.declared.limits.TheConstants.{MAX_RATE}
use Rattle.oc_base.specs.Lawful.{IsNode, IsLong, IsCount, IsRate}
use Rattle.oc_base.specs.Spelling.{four, eight, flag}
use Rattle.oc_base.specs.Reading.{Reading, within_at, byte_at, long_at, count_at, id_at, rate_at, flag_at, text_at}
use Rattle.oc_base.proofs.TextsAt.{IsBytes, Takes, bind_ok, guard_ok, ok_is, IsWide, wide8, wide32, wide64, number_takes, number_again, within_takes, within_again}

-- reading gives exactly the lawful values whose text is there, with the index after it
pub record Reads {A : Type 0} (nodes : ℕ) (bytes : List ℕ) (read : ℕ → Reading A) (text : A → List ℕ) (IsLawful : A → Type 0) : Type 0 where
  pub takes : IsBytes bytes → (at : ℕ) (x : A) (next : ℕ) → read at ≡ Ok (x, next) → IsLawful x × Takes bytes at (text x) next
  pub again : nodes < 2 ^ 32 → (at : ℕ) (x : A) (next : ℕ) → IsLawful x → Takes bytes at (text x) next → read at ≡ Ok (x, next)

-- numbers within a range, of a width that has all of it
pub reads_within : (w : Width) (limit : ℕ) (wide : IsWide w limit) (least most : ℕ) (nodes : ℕ) (bytes : List ℕ) → (nodes < 2 ^ 32 → most < limit) → Reads nodes bytes (within_at w least most bytes) (to_be_bytes w) (λ n. (least ≤ n) × (n ≤ most))
reads_within w limit wide least most nodes bytes lt = record {
  takes = λ fits at n next e. let t = within_takes w limit wide least most bytes at n next fits e in ((t.1, t.2), t.0);
  again = λ few at n next h t. within_again w limit wide least most bytes at n next (omega (arith, h.1, lt few)) h.0 h.1 t;
}

-- the id of a node
pub reads_id : (nodes : ℕ) (bytes : List ℕ) → Reads nodes bytes (id_at nodes bytes) four (IsNode nodes)
reads_id nodes bytes = reads_within w32 (2 ^ 32) wide32 1 nodes nodes bytes (λ few. few)

-- a rate
pub reads_rate : (nodes : ℕ) (bytes : List ℕ) → Reads nodes bytes (rate_at bytes) eight IsRate
reads_rate nodes bytes =
    let r = reads_within w64 (2 ^ 64) wide64 0 MAX_RATE nodes bytes (λ few. omega arith) in
    record {
      takes = λ fits at n next e. let t = r.takes fits at n next e in (t.0.1, t.1);
      again = λ few at n next h t. r.again few at n next (omega arith, h) t;
    }

-- any number of eight bytes
pub reads_long : (nodes : ℕ) (bytes : List ℕ) → Reads nodes bytes (long_at bytes) eight IsLong
reads_long nodes bytes = record {
  takes = λ fits at n next e. let t = number_takes w64 (2 ^ 64) wide64 bytes at n next fits e in (t.1, t.0);
  again = λ few at n next lt t. number_again w64 (2 ^ 64) wide64 bytes at n next lt t;
}

-- a number of eight bytes that is not 0
pub reads_count : (nodes : ℕ) (bytes : List ℕ) → Reads nodes bytes (count_at bytes) eight IsCount
reads_count nodes bytes =
    let r = reads_within w64 (2 ^ 64) wide64 1 (2 ^ 64 - 1) nodes bytes (λ few. omega arith) in
    record {
      takes = λ fits at n next e. let t = r.takes fits at n next e in ((t.0.0, omega (arith, t.0.1)), t.1);
      again = λ few at n next h t. r.again few at n next (h.0, omega (arith, h.1)) t;
    }

-- a number below 256 is one byte
byte_is : (n : ℕ) → n < 256 → to_be_bytes w8 n ≡ n ∷ []
byte_is n lt = ap (λ (k : ℕ). k ∷ []) (omega (arith, lt))

-- any byte
pub reads_byte : (nodes : ℕ) (bytes : List ℕ) → Reads nodes bytes (byte_at bytes) (λ n. n ∷ []) (λ n. n < 256)
reads_byte nodes bytes = record {
  takes = λ fits at n next e. let t = number_takes w8 (2 ^ 8) wide8 bytes at n next fits e in (t.1, subst (λ (text : List ℕ). Takes bytes at text next) (byte_is n t.1) t.0);
  again = λ few at n next lt t. number_again w8 (2 ^ 8) wide8 bytes at n next lt (subst (λ (text : List ℕ). Takes bytes at text next) (sym (byte_is n lt)) t);
}

-- a byte within a range
pub reads_byte_within : (least most : ℕ) (nodes : ℕ) (bytes : List ℕ) → most < 256 → Reads nodes bytes (within_at w8 least most bytes) (λ n. n ∷ []) (λ n. (least ≤ n) × (n ≤ most))
reads_byte_within least most nodes bytes lt =
    let r = reads_within w8 (2 ^ 8) wide8 least most nodes bytes (λ few. lt) in
    record {
      takes = λ fits at n next e. let t = r.takes fits at n next e in (t.0, subst (λ (text : List ℕ). Takes bytes at text next) (byte_is n (omega (arith, t.0.1, lt))) t.1);
      again = λ few at n next h t. r.again few at n next h (subst (λ (text : List ℕ). Takes bytes at text next) (sym (byte_is n (omega (arith, h.1, lt)))) t);
    }

-- a byte of at most 1 is a flag
flag_is : (n : ℕ) → n ≤ 1 → n ∷ [] ≡ flag (n == 1)
flag_is zero le = refl
flag_is (suc zero) le = refl
flag_is (suc (suc n)) le = absurd (omega (arith, le))

-- a flag that is read is there
flag_takes : (bytes : List ℕ) → IsBytes bytes → (at : ℕ) (b : Bool) (next : ℕ) → flag_at bytes at ≡ Ok (b, next) → Takes bytes at (flag b) next
unfolding flag_at
flag_takes bytes fits at b next e =
    let r = reads_byte_within 0 1 0 bytes (omega arith) in
    let x = bind_ok (within_at w8 0 1 bytes at) (λ byte. Ok (byte.0 == 1, byte.1)) (b, next) e in
    let t = r.takes fits at x.0.0 x.0.1 x.1 in
    let made : Bool × ℕ = (x.0.0 == 1, x.0.1) in
    subst (λ (y : Bool × ℕ). Takes bytes at (flag y.0) y.1) (ok_is made (b, next) x.2) (subst (λ (text : List ℕ). Takes bytes at text x.0.1) (flag_is x.0.0 t.0.1) t.1)

-- a flag that is there is read
flag_again : (bytes : List ℕ) → (at : ℕ) (b : Bool) (next : ℕ) → Takes bytes at (flag b) next → flag_at bytes at ≡ Ok (b, next)
unfolding flag_at
flag_again bytes at true next t = rw ((reads_byte_within 0 1 0 bytes (omega arith)).again (omega arith) at 1 next (omega arith, omega arith) t) refl
flag_again bytes at false next t = rw ((reads_byte_within 0 1 0 bytes (omega arith)).again (omega arith) at 0 next (omega arith, omega arith) t) refl

-- a byte that is 0 or 1
pub reads_flag : (nodes : ℕ) (bytes : List ℕ) → Reads nodes bytes (flag_at bytes) flag (λ b. Unit {0})
reads_flag nodes bytes = record {
  takes = λ fits at b next e. (tt, flag_takes bytes fits at b next e);
  again = λ few at b next h t. flag_again bytes at b next t;
}

-- reading a count of items gives exactly the lawful lists of that length whose text is there, up to the end of the bytes
pub record ReadsCounted {A : Type 0} (nodes : ℕ) (bytes : List ℕ) (read : ℕ → ℕ → Reading (List A)) (text : List A → List ℕ) (IsLawful : List A → Type 0) : Type 0 where
  pub takes : IsBytes bytes → (count at : ℕ) (xs : List A) (next : ℕ) → read count at ≡ Ok (xs, next) → (length xs ≡ count) × IsLawful xs × Takes bytes at (text xs) next
  pub again : nodes < 2 ^ 32 → (at : ℕ) (xs : List A) (next : ℕ) → at ≤ length bytes → IsLawful xs → Takes bytes at (text xs) next → read (length xs) at ≡ Ok (xs, next)

-- a count of bytes that is read is there
text_takes : (bytes : List ℕ) (count at : ℕ) (text : List ℕ) (next : ℕ) → text_at bytes count at ≡ Ok (text, next) → (length text ≡ count) × Takes bytes at text next
unfolding text_at
text_takes bytes count at text next e =
    let made : List ℕ × ℕ = (take count (drop at bytes), at + count) in
    let g = guard_ok (ltb (length bytes) (at + count)) faults.Short made (text, next) e in
    let long : at + count ≤ length bytes = ltb-false _ _ g.0 in
    let size : length (take count (drop at bytes)) ≡ count = omega (arith, long, length-take count (drop at bytes), length-drop at bytes) in
    subst (λ (y : List ℕ × ℕ). (length y.0 ≡ count) × Takes bytes at y.0 y.1) g.1 (
      size,
      record {
        there = (drop count (drop at bytes), sym (take-append-drop count (drop at bytes)));
        moved = ap (λ (k : ℕ). at + k) (sym size);
      },
    )

-- bytes that are there are read
text_again : (bytes : List ℕ) (at : ℕ) (text : List ℕ) (next : ℕ) → at ≤ length bytes → Takes bytes at text next → text_at bytes (length text) at ≡ Ok (text, next)
unfolding text_at
text_again bytes at text next within t =
    let s = t.there in
    let long : ltb (length bytes) (at + length text) ≡ false = le-ltb _ _ (omega (arith, within, ap (λ (x : List ℕ). length x) s.1, length-append text s.0, length-drop at bytes)) in
    rw (long, s.1, take_at text s.0 (length text) refl, t.moved) refl

-- a count of bytes
pub reads_text : (nodes : ℕ) (bytes : List ℕ) → ReadsCounted nodes bytes (text_at bytes) (λ text. text) (λ text. Unit {0})
reads_text nodes bytes = record {
  takes = λ fits count at text next e. let t = text_takes bytes count at text next e in (t.0, tt, t.1);
  again = λ few at text next within h t. text_again bytes at text next within t;
}
