-- Where no line is left.
use Rattle.std.proofs.Common.{◌≡◌, ℕ, ◌<◌, ◌==◌, false, List, [], ◌∷◌, length, refl, sym, ap, ◌∙◌, arith}
use Rattle.std.specs.List.{slice_split, join_with_byte}
use Rattle.std.specs.Str.Lines.{lines, lines_of_parts}
use Rattle.std.proofs.lemmas.Bool.{ne_eqb}
use Rattle.std.proofs.lemmas.Bool.Decides.{nat_tests}
use Rattle.std.proofs.lemmas.List.Splits.{join_with_byte-slice_split, length-slice_split}
use Rattle.oc_merge.specs.Reading.{is_none}

one_part : (last : List ℕ) → 0 < length last → lines_of_parts (last ∷ []) ≡ last ∷ []
one_part last some = grind (arith, nat_tests)

parts_some : (parts : List (List ℕ)) → 0 < length parts → ((last : List ℕ) → parts ≡ last ∷ [] → 0 < length last) → is_none (lines_of_parts parts) ≡ false
parts_some [] some one = absurd (omega (arith, some))
parts_some (x ∷ []) some one = ap is_none (one_part x (one x refl))
parts_some (x ∷ y ∷ more) some one = refl

lines_some : (bytes : List ℕ) → 0 < length bytes → is_none (lines bytes) ≡ false
lines_some bytes some = parts_some (slice_split (λ b. b == 10) bytes) (omega (arith, length-slice_split (λ b. b == 10) bytes)) one where
  one : (last : List ℕ) → slice_split (λ b. b == 10) bytes ≡ last ∷ [] → 0 < length last
  one last h =
      let same : length last ≡ length bytes = ap length (sym (ap (join_with_byte 10) h) ∙ join_with_byte-slice_split 10 bytes) in
      omega (arith, same, some)

-- no line is left exactly where no byte is
pub none_is : (bytes : List ℕ) → is_none (lines bytes) ≡ (length bytes == 0)
none_is [] = refl
none_is (b ∷ bs) = lines_some (b ∷ bs) (omega arith) ∙ sym (ne_eqb (length (b ∷ bs)) 0 (λ e. absurd (omega (arith, e))))
