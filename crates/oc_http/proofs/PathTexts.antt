-- The text of a path, and that it is read as that path.
use Rattle.std.proofs.Common.{◌≡◌, ℕ, ◌+◌, ◌*◌, ◌/◌, ◌%◌, ◌<◌, true, false, not, ◌&&◌, ◌||◌, ◌==◌, List, [], ◌∷◌, ◌++◌, Some, refl, sym, ap, ap₂, ◌∙◌, ⊎_elim, arith}
use Rattle.std.specs.Prelude.{Bool, if◌then◌else◌}
use Rattle.std.specs.Char.{digit_value, is_digit}
use Rattle.std.specs.Fmt.{digit_glyph}
use Rattle.std.proofs.lemmas.Bool.{agree_below_at, and_from, cases_lt, cond-true, cond_both}
use Rattle.std.proofs.lemmas.Bool.Decides.{nat_tests}
use Rattle.std.proofs.lemmas.List.Elements.{All-head, All-tail, All-weaker}
use Rattle.percent_encoding.specs.AsciiSet.{contains, should_percent_encode}
use Rattle.percent_encoding.specs.Percent.{encode_byte, percent_encode, percent_encode_byte, percent_decode}
use Rattle.percent_encoding.proofs.PercentLemmas.{IsByte, round_trip}
use Rattle.oc_http.specs.Escapes.{AreBytes, are_digits_first, byte_text, decoded, is_barred, is_escaped_well, is_plain, path_text}
use Rattle.oc_http.specs.declared.escapes.TheConstants.{ESCAPED}

-- bytes below 128 are in the set where they are not plain
low_escaped : (b : ℕ) → b < 128 → contains ESCAPED b ≡ not (is_plain b)
low_escaped b low = agree_below_at (contains ESCAPED) (λ k. not (is_plain k)) 128 b refl low

-- a byte is escaped just where it is not plain
pub escaped : (b : ℕ) → should_percent_encode ESCAPED b ≡ not (is_plain b)
unfolding should_percent_encode
escaped b =
    ⊎_elim
    (λ low. let same = low_escaped b low in grind (arith, nat_tests, same))
    (λ high. grind (arith, nat_tests))
    (cases_lt b 128)

-- a choice by the other answer
turned : {A : Type 0} (t : Bool) (x y : A) → (if not t then x else y) ≡ (if t then y else x)
turned true x y = refl
turned false x y = refl

same_byte : (b : ℕ) → encode_byte ESCAPED b ≡ byte_text b
same_byte b = ap (λ (t : Bool). if t then percent_encode_byte b else b ∷ []) (escaped b) ∙ turned (is_plain b) (percent_encode_byte b) (b ∷ [])

-- the text is the path with these bytes escaped
pub written : (path : List ℕ) → percent_encode ESCAPED path ≡ path_text path
unfolding percent_encode
written [] = refl
written (b ∷ path) = ap₂ (λ (x y : List ℕ). x ++ y) (same_byte b) (written path)

glyph_value : (d : ℕ) → d < 16 → digit_value (digit_glyph true d) ≡ d
glyph_value d small = grind (arith, nat_tests)

glyph_is_digit : (d : ℕ) → d < 16 → is_digit (digit_glyph true d) 16 ≡ true
glyph_is_digit d small = grind (arith, nat_tests)

glyph_is_no_mark : (d : ℕ) → d < 16 → (digit_glyph true d == 37) ≡ false
glyph_is_no_mark d small = grind (arith, nat_tests)

plain_is_no_mark : (b : ℕ) → is_plain b ≡ true → (b == 37) ≡ false
plain_is_no_mark b plain = grind (arith, nat_tests)

free : (b : ℕ) → 0 < b → is_plain b ≡ false → is_barred b ≡ false
free b some other = grind (arith, nat_tests)

-- two digits of a byte that may be escaped
good_digits : (high low : ℕ) (rest : List ℕ) → is_digit high 16 ≡ true → is_digit low 16 ≡ true → is_barred (16 * digit_value high + digit_value low) ≡ false → are_digits_first (high ∷ low ∷ rest) ≡ true
good_digits high low rest first second may = and_from _ _ (and_from _ _ first second) (ap not may)

-- an escape of such digits spoils no path
well_escape : (high low : ℕ) (rest : List ℕ) → are_digits_first (high ∷ low ∷ rest) ≡ true → (high == 37) ≡ false → (low == 37) ≡ false → is_escaped_well (37 ∷ high ∷ low ∷ rest) ≡ is_escaped_well rest
well_escape high low rest good first second =
    ap (λ (t : Bool). t && ((not (high == 37) || are_digits_first (low ∷ rest)) && ((not (low == 37) || are_digits_first rest) && is_escaped_well rest))) good
    ∙ (ap (λ (t : Bool). (not t || are_digits_first (low ∷ rest)) && ((not (low == 37) || are_digits_first rest) && is_escaped_well rest)) first
    ∙ ap (λ (t : Bool). (not t || are_digits_first rest) && is_escaped_well rest) second)

well_plain : (b : ℕ) (rest : List ℕ) → is_plain b ≡ true → is_escaped_well (b ∷ rest) ≡ is_escaped_well rest
well_plain b rest plain = ap (λ (t : Bool). (not t || are_digits_first rest) && is_escaped_well rest) (plain_is_no_mark b plain)

well_other : (b : ℕ) (rest : List ℕ) → (0 < b) × (b < 256) → is_plain b ≡ false → is_escaped_well (percent_encode_byte b ++ rest) ≡ is_escaped_well rest
unfolding percent_encode_byte
well_other b rest small other =
    let high : b / 16 % 16 < 16 = omega arith in
    let low : b % 16 < 16 = omega arith in
    let value : 16 * digit_value (digit_glyph true (b / 16 % 16)) + digit_value (digit_glyph true (b % 16)) ≡ b = omega (arith, glyph_value (b / 16 % 16) high, glyph_value (b % 16) low) in
    let may = ap is_barred value ∙ free b small.0 other in
    let first = digit_glyph true (b / 16 % 16) in
    let second = digit_glyph true (b % 16) in
    well_escape first second rest (good_digits first second rest (glyph_is_digit _ high) (glyph_is_digit _ low) may) (glyph_is_no_mark _ high) (glyph_is_no_mark _ low)

-- the text of a byte spoils no path
well_byte : (b : ℕ) (rest : List ℕ) → (0 < b) × (b < 256) → is_escaped_well (byte_text b ++ rest) ≡ is_escaped_well rest
well_byte b rest small =
    cond_both (is_plain b) (b ∷ []) (percent_encode_byte b) (λ (text : List ℕ). is_escaped_well (text ++ rest) ≡ is_escaped_well rest)
    (well_plain b rest) (well_other b rest small)

-- bytes of a path
abbrev IsGoodByte : ℕ → Type 0
IsGoodByte b = (0 < b) × (b < 256)

-- each `%` that is written begins an escape
well : (path : List ℕ) → AreBytes path → is_escaped_well (path_text path) ≡ true
well [] small = refl
well (b ∷ path) small = well_byte b (path_text path) (All-head IsGoodByte b path small) ∙ well path (All-tail IsGoodByte b path small)

-- reading gives the path
pub read_again : (path : List ℕ) → AreBytes path → decoded (path_text path) ≡ Some path
read_again path small =
    let bytes = All-weaker IsGoodByte IsByte (λ b both. both.1) path small in
    cond-true _ _ _ (well path small) ∙ ap Some (ap percent_decode (sym (written path)) ∙ round_trip ESCAPED path refl bytes)
