-- A line of words is read as these words.
use Rattle.std.proofs.Common.{◌≡◌, ℕ, suc, ◌-◌, ◌<◌, ◌≤◌, Bool, true, false, cond, ◌&&◌, ◌==◌, nat_lt, List, [], ◌∷◌, ◌++◌, length, take, refl, ap, ◌∙◌, zero, arith, append_assoc, codes}
use Rattle.std.specs.Prelude.{slice_index, not, filter}
use Rattle.std.specs.List.{AllByRecursion, flat_map, list_all, slice_split}
use Rattle.std.specs.Str.Lines.{lines, strip_carriage_return}
use Rattle.std.proofs.lemmas.Bool.{and_parts}
use Rattle.std.proofs.lemmas.Bool.Decides.{nat_tests}
use Rattle.std.proofs.lemmas.List.{append-nil}
use Rattle.std.proofs.lemmas.List.Elements.{All-from_recursion}
use Rattle.std.proofs.lemmas.List.Splits.{slice_split_at, slice_split_none}
use Rattle.oc_base.proofs.LineCuts.{lines_more}
use Rattle.oc_base.specs.Words.{words}
use Rattle.oc_schedule.specs.Texts.{spaced, line_text}

-- a word: some bytes, each greater than a space
abbrev pub is_word : List ℕ → Bool
is_word w = nat_lt 0 (length w) && list_all (λ b. nat_lt 32 b) w

abbrev pub AreWords : List (List ℕ) → Type 0
AreWords ws = AllByRecursion (λ w. is_word w ≡ true) ws

-- each byte is at least a space
abbrev IsPlain : List ℕ → Type 0
IsPlain line = AllByRecursion (λ b. 32 ≤ b) line

-- the bytes of a word are greater than a space
bytes_of_word : (w : List ℕ) → list_all (λ b. nat_lt 32 b) w ≡ true → AllByRecursion (λ b. 32 < b) w
bytes_of_word [] h = tt
bytes_of_word (b ∷ bs) h =
    let parts = and_parts (nat_lt 32 b) (list_all (λ b. nat_lt 32 b) bs) h in
    let greater : 32 < b = grind (arith, nat_tests) in
    (greater, bytes_of_word bs parts.1)

-- no byte greater than a space is a space
no_space : (bs : List ℕ) → AllByRecursion (λ b. 32 < b) bs → AllByRecursion (λ b. (b == 32) ≡ false) bs
no_space [] h = tt
no_space (b ∷ bs) h = let other : (b == 32) ≡ false = grind (arith, nat_tests) in (other, no_space bs h.1)

plain_word : (bs : List ℕ) → AllByRecursion (λ b. 32 < b) bs → IsPlain bs
plain_word [] h = tt
plain_word (b ∷ bs) h = (omega arith, plain_word bs h.1)

plain_append : (a c : List ℕ) → IsPlain a → IsPlain c → IsPlain (a ++ c)
plain_append [] c pa pc = pc
plain_append (x ∷ a) c pa pc = (pa.0, plain_append a c pa.1 pc)

-- the words after the first
plain_more : (ws : List (List ℕ)) → AreWords ws → IsPlain (flat_map (λ w. codes " " ++ w) ws)
plain_more [] h = tt
plain_more (w ∷ ws) h =
    let bytes = bytes_of_word w (and_parts (nat_lt 0 (length w)) _ h.0).1 in
    plain_append (codes " " ++ w) _ (omega arith, plain_word w bytes) (plain_more ws h.1)

pub plain_spaced : (ws : List (List ℕ)) → AreWords ws → IsPlain (spaced ws)
plain_spaced [] h = tt
plain_spaced (w ∷ ws) h =
    let bytes = bytes_of_word w (and_parts (nat_lt 0 (length w)) _ h.0).1 in
    plain_append w _ (plain_word w bytes) (plain_more ws h.1)

-- a word is kept when empty words are removed
kept_word : (w : List ℕ) (ws : List (List ℕ)) → is_word w ≡ true → filter (λ word. not (length word == 0)) (w ∷ ws) ≡ w ∷ filter (λ word. not (length word == 0)) ws
kept_word w ws h =
    let some = (and_parts (nat_lt 0 (length w)) _ h).0 in
    let there : not (length w == 0) ≡ true = grind (arith, nat_tests) in
    ap (λ b. cond b (w ∷ filter (λ word. not (length word == 0)) ws) (filter (λ word. not (length word == 0)) ws)) there

-- the words of a line of words are these
pub words_back : (w : List ℕ) (ws : List (List ℕ)) → AreWords (w ∷ ws) → words (spaced (w ∷ ws)) ≡ w ∷ ws
words_back w [] h =
    let bytes = bytes_of_word w (and_parts (nat_lt 0 (length w)) _ h.0).1 in
    let alone = slice_split_none (λ b. b == 32) w (All-from_recursion _ w (no_space w bytes)) in
    ap words (append-nil w) ∙ ap (filter (λ word. not (length word == 0))) alone ∙ kept_word w [] h.0
words_back w (v ∷ vs) h =
    let bytes = bytes_of_word w (and_parts (nat_lt 0 (length w)) _ h.0).1 in
    let first = slice_split_at (λ b. b == 32) w 32 (spaced (v ∷ vs)) (All-from_recursion _ w (no_space w bytes)) refl in
    ap (filter (λ word. not (length word == 0))) first
    ∙ kept_word w (slice_split (λ b. b == 32) (spaced (v ∷ vs))) h.0 ∙ ap (λ rest. w ∷ rest) (words_back v vs h.1)

no_newline : (bs : List ℕ) → IsPlain bs → AllByRecursion (λ b. (b == 10) ≡ false) bs
no_newline [] h = tt
no_newline (b ∷ bs) h = let other : (b == 10) ≡ false = grind (arith, nat_tests) in (other, no_newline bs h.1)

-- no byte of such a line is a carriage return
no_return : (bs : List ℕ) (i : ℕ) → IsPlain bs → (slice_index bs i == 13) ≡ false
no_return [] i h = refl
no_return (b ∷ bs) zero h = grind (arith, nat_tests)
no_return (b ∷ bs) (suc i) h = no_return bs i h.1

not_stripped : (line : List ℕ) → IsPlain line → strip_carriage_return line ≡ line
not_stripped line h = ap (λ b. cond b (take (length line - 1) line) line) (no_return line (length line - 1) h)

-- a line of words is the first line, and the others follow
pub line_back : (ws : List (List ℕ)) (rest : List ℕ) → AreWords ws → lines (line_text ws ++ rest) ≡ spaced ws ∷ lines rest
line_back ws rest h =
    let plain = plain_spaced ws h in
    let cut = slice_split_at (λ b. b == 10) (spaced ws) 10 rest (All-from_recursion _ (spaced ws) (no_newline (spaced ws) plain)) refl in
    ap lines (append_assoc (spaced ws) (codes "\n") rest)
    ∙ lines_more (spaced ws ++ (10 ∷ rest)) (spaced ws) rest cut ∙ ap (λ line. line ∷ lines rest) (not_stripped (spaced ws) plain)
