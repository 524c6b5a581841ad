use Rattle.std.proofs.Common.{◌≡◌, ℕ, ◌<◌, ◌==◌, List, [], ◌∷◌, length, refl, sym, ap, ◌∙◌, arith}
use Rattle.std.specs.List.{slice_split, join_with_byte}
use Rattle.std.specs.Str.Lines.{lines, lines_of_parts, strip_carriage_return}
use Rattle.std.proofs.lemmas.Bool.Decides.{nat_tests}
use Rattle.std.proofs.lemmas.List.Splits.{join_with_byte-slice_split, length-slice_split}

-- The first line of a text, from the first part before an LF.

-- one part is all of the list
whole_from_one : (bytes last : List ℕ) → slice_split (λ b. b == 10) bytes ≡ last ∷ [] → last ≡ bytes
whole_from_one bytes last h = sym (ap (join_with_byte 10) h) ∙ join_with_byte-slice_split 10 bytes

-- one part that is not empty is one line
one_part : (last : List ℕ) → 0 < length last → lines_of_parts (last ∷ []) ≡ last ∷ []
one_part last some = grind (arith, nat_tests)

-- bytes without an LF are one line
pub lines_last : (bytes last : List ℕ) → 0 < length bytes → slice_split (λ b. b == 10) bytes ≡ last ∷ [] → lines bytes ≡ last ∷ []
lines_last bytes last some h =
    let same = ap length (whole_from_one bytes last h) in
    ap lines_of_parts h ∙ one_part last (omega (arith, same))

-- a part before others is a line before theirs
part_more : (line : List ℕ) (parts : List (List ℕ)) → 0 < length parts → lines_of_parts (line ∷ parts) ≡ strip_carriage_return line ∷ lines_of_parts parts
part_more line [] some = absurd (omega arith)
part_more line (part ∷ parts) some = refl

-- the lines after a first LF are those of the bytes after it
pub lines_more : (bytes line rest : List ℕ) → slice_split (λ b. b == 10) bytes ≡ line ∷ slice_split (λ b. b == 10) rest → lines bytes ≡ strip_carriage_return line ∷ lines rest
lines_more bytes line rest h =
    ap lines_of_parts h ∙ part_more line (slice_split (λ b. b == 10) rest) (omega (arith, length-slice_split (λ b. b == 10) rest))
