-- Blotted bytes, and the steps of the record that give them.
use Rattle.std.proofs.Common.{◌≡◌, ℕ, zero, suc, ◌+◌, ◌-◌, ◌≤◌, List, [], ◌∷◌, ◌++◌, length, take, drop, replicate, refl, sym, ◌∙◌, ap, arith, length-append, take-append-drop}
use Rattle.std.proofs.lemmas.List.{length-take-le, length-drop, drop-drop}
use Rattle.oc_io.specs.Calls.{Wrote, undone, IsWritten, Fits, blotted, crashed}
use Rattle.oc_io.specs.DiskLog.{told}
use Rattle.oc_io.specs.declared.disk_log.LoggedCall.{LoggedCall}
use Rattle.oc_io.specs.declared.disk_log.LoggedCall.TheVariants.{Write, Sync}

-- a blot does not change the number of bytes
pub length-blotted : (at n byte : ℕ) (bytes : List ℕ) → length (blotted at n byte bytes) ≡ length bytes
length-blotted at n byte [] = refl
length-blotted (suc at) n byte (b ∷ bytes) = ap suc (length-blotted at n byte bytes)
length-blotted zero (suc n) byte (b ∷ bytes) = ap suc (length-blotted zero n byte bytes)
length-blotted zero zero byte (b ∷ bytes) = refl

-- a blot of no bytes changes nothing
blotted-none : (byte : ℕ) (bytes : List ℕ) → blotted zero zero byte bytes ≡ bytes
blotted-none byte [] = refl
blotted-none byte (b ∷ bytes) = refl

-- a prefix of blotted bytes is the blotted prefix
pub take-blotted : (m at n byte : ℕ) (bytes : List ℕ) → take m (blotted at n byte bytes) ≡ blotted at n byte (take m bytes)
take-blotted zero at n byte bytes = refl
take-blotted (suc m) at n byte [] = refl
take-blotted (suc m) (suc at) n byte (b ∷ bytes) = ap (λ (l : List ℕ). b ∷ l) (take-blotted m at n byte bytes)
take-blotted (suc m) zero (suc n) byte (b ∷ bytes) = ap (λ (l : List ℕ). byte ∷ l) (take-blotted m zero n byte bytes)
take-blotted (suc m) zero zero byte (b ∷ bytes) = refl

-- a blot by equal numbers
same_blot : (p q k j byte : ℕ) (bytes : List ℕ) → p ≡ q → k ≡ j → blotted p k byte bytes ≡ blotted q j byte bytes
same_blot p q k j byte bytes same_offset same_count =
    ap (λ (x : ℕ). blotted x k byte bytes) same_offset ∙ ap (λ (x : ℕ). blotted q x byte bytes) same_count

-- the rest of blotted bytes is the rest, with its part of the blot
drop-blotted_is : (m at n byte : ℕ) (bytes : List ℕ) → drop m (blotted at n byte bytes) ≡ blotted (at - m) (n - (m - at)) byte (drop m bytes)
drop-blotted_is zero at n byte bytes = same_blot at (at - zero) n (n - (zero - at)) byte bytes (omega arith) (omega arith)
drop-blotted_is (suc m) at n byte [] = refl
drop-blotted_is (suc m) (suc at) n byte (b ∷ bytes) =
    drop-blotted_is m at n byte bytes ∙ same_blot (at - m) (suc at - suc m) (n - (m - at)) (n - (suc m - suc at)) byte (drop m bytes) (omega arith) (omega arith)
drop-blotted_is (suc m) zero (suc n) byte (b ∷ bytes) =
    drop-blotted_is m zero n byte bytes ∙ same_blot (zero - m) (zero - suc m) (n - (m - zero)) (suc n - (suc m - zero)) byte (drop m bytes) (omega arith) (omega arith)
drop-blotted_is (suc m) zero zero byte (b ∷ bytes) =
    sym (blotted-none byte (drop m bytes)) ∙ same_blot zero (zero - suc m) zero (zero - (suc m - zero)) byte (drop m bytes) (omega arith) (omega arith)

-- the bytes after an offset depend only on those that were after it
pub drop-blotted : (m at n byte : ℕ) (a b : List ℕ) → drop m a ≡ drop m b → drop m (blotted at n byte a) ≡ drop m (blotted at n byte b)
drop-blotted m at n byte a b same =
    drop-blotted_is m at n byte a ∙ ap (blotted (at - m) (n - (m - at)) byte) same ∙ sym (drop-blotted_is m at n byte b)

-- the bytes before a blot do not change
pub take-blotted_before : (at n byte : ℕ) (bytes : List ℕ) → take at (blotted at n byte bytes) ≡ take at bytes
take-blotted_before zero n byte bytes = refl
take-blotted_before (suc at) n byte [] = refl
take-blotted_before (suc at) n byte (b ∷ bytes) = ap (λ (l : List ℕ). b ∷ l) (take-blotted_before at n byte bytes)

-- the bytes after a blot do not change
pub drop-blotted_behind : (m at n byte : ℕ) (bytes : List ℕ) → m ≡ at + n → drop m (blotted at n byte bytes) ≡ drop m bytes
drop-blotted_behind m at n byte [] is = refl
drop-blotted_behind zero (suc at) n byte (b ∷ bytes) is = absurd (omega arith)
drop-blotted_behind zero zero (suc n) byte (b ∷ bytes) is = absurd (omega arith)
drop-blotted_behind (suc m) (suc at) n byte (b ∷ bytes) is = drop-blotted_behind m at n byte bytes (omega arith)
drop-blotted_behind (suc m) zero (suc n) byte (b ∷ bytes) is = drop-blotted_behind m zero n byte bytes (omega arith)
drop-blotted_behind m zero zero byte (b ∷ bytes) is = refl

-- a blot at the front
blotted-front : (n byte : ℕ) (bytes : List ℕ) → n ≤ length bytes → blotted zero n byte bytes ≡ replicate n byte ++ drop n bytes
blotted-front zero byte bytes within = blotted-none byte bytes
blotted-front (suc n) byte [] within = absurd (omega arith)
blotted-front (suc n) byte (b ∷ bytes) within = ap (λ (l : List ℕ). byte ∷ l) (blotted-front n byte bytes (omega arith))

-- a blot within the bytes
pub blotted-is : (at n byte : ℕ) (bytes : List ℕ) → at + n ≤ length bytes → blotted at n byte bytes ≡ take at bytes ++ (replicate n byte ++ drop (at + n) bytes)
blotted-is at n byte bytes within =
    sym (take-append-drop at (blotted at n byte bytes))
    ∙ ap (λ (l : List ℕ). l ++ drop at (blotted at n byte bytes)) (take-blotted_before at n byte bytes)
    ∙ ap (λ (l : List ℕ). take at bytes ++ l) (
    drop-blotted_is at at n byte bytes
    ∙ same_blot (at - at) 0 (n - (at - at)) n byte (drop at bytes) (omega arith) (omega arith)
    ∙ blotted-front n byte (drop at bytes) (omega (arith, length-drop at bytes))
    ∙ ap (λ (l : List ℕ). replicate n byte ++ l) (drop-drop n at bytes)
    )

-- the number of bytes before a write
pub length-undone : (at n : ℕ) (over bytes : List ℕ) → IsWritten at over n bytes → length (undone (Wrote at over n) bytes) ≡ at + length over + (length bytes - (at + n))
length-undone at n over bytes w =
    let within : at ≤ length bytes = omega (arith, w.within) in
    omega (arith, length-append (take at bytes ++ over) (drop (at + n) bytes), length-append (take at bytes) over, length-take-le at bytes within, length-drop (at + n) bytes)

-- the bytes after a crash, by the steps of the record, newest first
abbrev pub blotted_by : ℕ → List LoggedCall → List ℕ → List ℕ
blotted_by byte [] bytes = bytes
blotted_by byte (Sync ∷ steps) bytes = bytes
blotted_by byte (Write at over n ∷ steps) bytes = blotted_by byte steps (blotted at n byte bytes)

-- a crash by the calls is one by the steps that keep them
pub crashed-told : (byte : ℕ) (steps : List LoggedCall) (pool bytes : List ℕ) → crashed byte (told steps pool) bytes ≡ blotted_by byte steps bytes
crashed-told byte [] pool bytes = refl
crashed-told byte (Sync ∷ steps) pool bytes = refl
crashed-told byte (Write at over n ∷ steps) pool bytes =
    crashed-told byte steps (take (length pool - over) pool) (blotted at n byte bytes)

-- each write of the steps since the last sync is within this number of bytes
abbrev pub AreWithin : ℕ → List LoggedCall → Type 0
AreWithin size [] = Unit {0}
AreWithin size (Sync ∷ steps) = Unit {0}
AreWithin size (Write at over n ∷ steps) = (at + n ≤ size) × AreWithin size steps

-- calls that fit are within the bytes
pub AreWithin-told : (size : ℕ) (steps : List LoggedCall) (pool bytes : List ℕ) → length bytes ≤ size → Fits bytes (told steps pool) → AreWithin size steps
AreWithin-told size [] pool bytes short fits = tt
AreWithin-told size (Sync ∷ steps) pool bytes short fits = tt
AreWithin-told size (Write at over n ∷ steps) pool bytes short fits =
    let w = fits.0 in
    let old = drop (length pool - over) pool in (
      omega (arith, w.within),
      AreWithin-told size steps (take (length pool - over) pool) (undone (Wrote at old n) bytes) (omega (arith, length-undone at n old bytes w, w.within, w.fits)) fits.1,
    )
