-- The start of a node, and the digits of its files.
use Rattle.std.proofs.Common.{◌≡◌, ℕ, zero, suc, ◌+◌, ◌-◌, ◌/◌, ◌%◌, ◌^◌, ◌<◌, ◌≤◌, Bool, true, false, cond, ◌&&◌, nat_lt, Option, Some, None, Ok, Err, List, [], ◌∷◌, ◌++◌, length, drop, slice_index, refl, ap, sym, subst, ◌∙◌, arith, codes, decimal, append_assoc, length-append}
use Rattle.std.specs.Int.{w32, byte_at, bytes_high_first, to_be_bytes}
use Rattle.std.specs.List.{All, AllPass, list_all}
use Rattle.std.specs.Str.{bytes_eq}
use Rattle.std.proofs.lemmas.Bool.{and_parts, eq-eqb}
use Rattle.std.proofs.lemmas.Bool.Decides.{nat_tests}
use Rattle.std.proofs.lemmas.List.{append-nil}
use Rattle.std.proofs.lemmas.List.Elements.{All-append, All-cons, All-head, All-nil, All-tail}
use Rattle.std.proofs.lemmas.List.Sums.{AllPass-from_list_all, sum_by_push}
use Rattle.std.proofs.lemmas.Slice.Eq.{bytes_eq-Decides}
use Rattle.hex.proofs.HexLemmas.{length-encode_with}
use Rattle.hex.specs.Hex.{encode_lower, encode_with, lower_digits}
use Rattle.sha2.proofs.Facts256.{length-sha256}
use Rattle.sha2.specs.Sha256.{digest_bytes, sha256}
use Rattle.oc_base.specs.declared.limits.TheConstants.{MAX_NODES}
use Rattle.oc_base.specs.Lawful.{IsNode}
use Rattle.oc_base.specs.Steps.{◌>>=◌}
use Rattle.oc_base.specs.Words.{words}
use Rattle.oc_base.specs.declared.shelf.Shelf.{Shelf}
use Rattle.oc_merge.proofs.LastLine.{files_last}
use Rattle.oc_merge.specs.declared.fault.Cause.TheVariants.{Areas}
use Rattle.oc_merge.specs.declared.fault.TheConstants.{MAX_RECORD_PUBLISHED}
use Rattle.oc_merge.specs.declared.place.Place.TheVariants.{Opened, Begun, Within}
use Rattle.oc_merge.specs.declared.told.Told.{Told}
use Rattle.oc_merge.specs.declared.told.Told.TheVariants.{Started}
use Rattle.oc_merge.specs.declared.told.ToldLine.{ToldLine}
use Rattle.oc_merge.specs.Lines.{files_in, files_line, is_digest, is_digit, last_64}
use Rattle.oc_merge.specs.Reading.{Reading, after_files, after_words, because, read_words, starts}
use Rattle.oc_merge.specs.Told.{published_by, published_in}
use Rattle.oc_model.specs.Node.{Durable, Header}
use Rattle.oc_replay.specs.Digests.{digest_text, files_text, has_line}
use Rattle.oc_schedule.proofs.ActsBack.{node_back, node_word}
use Rattle.oc_schedule.proofs.FieldsBack.{decimal_word}
use Rattle.oc_schedule.proofs.LineBack.{AreWords, is_word, line_back, words_back}
use Rattle.oc_schedule.specs.Texts.{line_text, spaced}
use Rattle.oc_deeds.specs.Records.{up_line}
use Rattle.oc_laws_records.proofs.Clear.{decimal_clear, letters_clear}
use Rattle.oc_laws_records.proofs.Opening.{header_behind, nodes_behind, reading}
use Rattle.oc_laws_records.proofs.Step.{Fits, Follows, Leads, few_lines, leads_as, one_line, whole_line, words_lead}

-- a line of x that tells this
abbrev pub told_at : ℕ → ℕ → Told → ToldLine
told_at i x told = record { number = i; node = x; told = told }

-- Starts

up_words : (me : ℕ) (rest : List ℕ) → up_line me ++ rest ≡ line_text (codes "up" ∷ decimal me ∷ []) ++ rest
up_words me rest = ap (λ (d : List ℕ). (codes "up " ++ d ++ codes "\n") ++ rest) (sym (append-nil (decimal me)))

starts_back : (b : Bool) (h : Header) (told : List ToldLine) (i me : ℕ) → starts (reading (Some (header_behind b h)) b h.areas Opened told) i me ≡ Ok (reading (Some h) true h.areas (Begun me) (told ++ told_at i me (Started None) ∷ []))
starts_back false h told i me = refl
starts_back true h told i me =
    ap (λ t. cond t (Ok (reading (Some h) true h.areas (Begun me) (told ++ told_at i me (Started None) ∷ []))) (Err Areas)) ((bytes_eq-Decides h.areas h.areas).1 refl)

up_says : (b : Bool) (h : Header) (told : List ToldLine) (i me : ℕ) → h.nodes ≤ MAX_NODES → IsNode h.nodes me
    → after_words Opened (reading (Some (header_behind b h)) b h.areas Opened told) i (codes "up") (decimal me ∷ []) ≡ Ok (reading (Some h) true h.areas (Begun me) (told ++ told_at i me (Started None) ∷ []))
up_says b h told i me few node =
    let nodes = nodes_behind b h in
    let back = node_back (header_behind b h).nodes me (subst (λ (n : ℕ). n ≤ MAX_NODES) (sym nodes) few) (subst (λ (n : ℕ). IsNode n me) (sym nodes) node) in
    ap (λ x. because x >>= λ n. starts (reading (Some (header_behind b h)) b h.areas Opened told) i n) back ∙ starts_back b h told i me

-- a start publishes nothing
pub start_publishes : (told : List ToldLine) (i me : ℕ) (files : Option (List ℕ)) → published_in (told ++ told_at i me (Started files) ∷ []) ≡ published_in told
start_publishes told i me files =
    let by_line : ToldLine → ℕ = λ l. published_by l.told in
    let one : published_in (told ++ told_at i me (Started files) ∷ []) ≡ published_in told + 0 = sum_by_push by_line told (told_at i me (Started files)) in
    omega (arith, one)

pub up_leads : (ended : Bool) (b : Bool) (h : Header) (told : List ToldLine) (i me : ℕ) (rest : List ℕ) → h.nodes ≤ MAX_NODES → IsNode h.nodes me → Fits i (up_line me ++ rest) → Follows ended rest → published_in told ≤ MAX_RECORD_PUBLISHED
    → Leads ended i (reading (Some (header_behind b h)) b h.areas Opened told) (up_line me ++ rest) (i + 1) (reading (Some h) true h.areas (Begun me) (told ++ told_at i me (Started None) ∷ [])) rest
up_leads ended b h told i me rest few node fits follows within =
    let before = reading (Some (header_behind b h)) b h.areas Opened told in
    let after = reading (Some h) true h.areas (Begun me) (told ++ told_at i me (Started None) ∷ []) in
    let small : me < 2 ^ 64 = omega (arith, few, node.1) in
    leads_as ended i (i + 1) before after (up_line me ++ rest) (line_text (codes "up" ∷ decimal me ∷ []) ++ rest) rest (up_words me rest)
    (words_lead ended i before after (codes "up") (decimal me ∷ []) rest (subst (Fits i) (up_words me rest) fits) follows (refl, node_word h.nodes me few node) (letters_clear (codes "up") refl, (decimal_clear me small, tt)) refl
    (up_says b h told i me few node) (omega (arith, start_publishes told i me None, within)))

-- Digits

abbrev is_small : ℕ → Type 0
is_small x = x < 256

word_bytes : (n : ℕ) → All is_small (to_be_bytes w32 n)
word_bytes n =
    All-cons is_small (byte_at 3 n) (bytes_high_first 3 n) (omega arith)
    (All-cons is_small (byte_at 2 n) (bytes_high_first 2 n) (omega arith)
    (All-cons is_small (byte_at 1 n) (bytes_high_first 1 n) (omega arith)
    (All-cons is_small (byte_at 0 n) [] (omega arith) (All-nil is_small))))

digests_are_bytes : (h : List ℕ) (n : ℕ) → All is_small (digest_bytes h n)
unfolding digest_bytes
digests_are_bytes h zero = All-nil is_small
digests_are_bytes h (suc n) = All-append is_small (digest_bytes h n) (to_be_bytes w32 (slice_index h n)) (digests_are_bytes h n) (word_bytes (slice_index h n))

table_digits : AllPass is_digit lower_digits
table_digits = AllPass-from_list_all is_digit lower_digits refl

both : (a b : Bool) → a ≡ true → b ≡ true → (a && b) ≡ true
both true b h k = k
both false b h k = absurd (cc h)

spelled_in_digits : (xs : List ℕ) → All is_small xs → list_all is_digit (encode_with lower_digits xs) ≡ true
unfolding encode_with
spelled_in_digits [] h = refl
spelled_in_digits (x ∷ xs) h =
    let byte = All-head is_small x xs h in
    both _ _ (table_digits (x / 16) 0 (omega (arith, byte))) (both _ _ (table_digits (x % 16) 0 (omega arith)) (spelled_in_digits xs (All-tail is_small x xs h)))

sha256_digits : (text : List ℕ) → list_all is_digit (encode_lower (sha256 text)) ≡ true
unfolding sha256
sha256_digits text = spelled_in_digits (sha256 text) (digests_are_bytes _ 8)

pub digest_long : (kept : Durable) (shelves : List Shelf) → length (digest_text kept shelves) ≡ 64
digest_long kept shelves =
    let twice = length-encode_with lower_digits (sha256 (files_text kept shelves)) in
    let bytes : length (sha256 (files_text kept shelves)) ≡ 32 = length-sha256 (files_text kept shelves) in
    omega (arith, twice, bytes)

digest_is : (digits : List ℕ) → length digits ≡ 64 → list_all is_digit digits ≡ true → is_digest digits ≡ true
digest_is digits long all = both _ _ (eq-eqb (length digits) 64 long) all

all_above : (bs : List ℕ) → list_all is_digit bs ≡ true → list_all (λ b. nat_lt 32 b) bs ≡ true
all_above [] h = refl
all_above (b ∷ bs) h =
    let parts = and_parts (is_digit b) (list_all is_digit bs) h in
    let above : nat_lt 32 b ≡ true = grind (arith, nat_tests) in
    both _ _ above (all_above bs parts.1)

-- digits are a word
digits_word : (digits : List ℕ) → length digits ≡ 64 → list_all is_digit digits ≡ true → is_word digits ≡ true
digits_word digits long all = let some : nat_lt 0 (length digits) ≡ true = grind (arith, nat_tests) in both _ _ some (all_above digits all)

-- The line of the files

dropped : (front xs : List ℕ) → drop (length front) (front ++ xs) ≡ xs
dropped [] xs = refl
dropped (b ∷ bs) xs = dropped bs xs

-- the line of the files is a line of words
line_is : (me : ℕ) (digits : List ℕ) → spaced (codes "#" ∷ decimal me ∷ codes "has" ∷ digits ∷ []) ≡ files_line me digits
line_is me digits =
    ap (λ (d : List ℕ). codes "# " ++ (decimal me ++ (codes " has " ++ d))) (append-nil digits)
    ∙ ap (λ (t : List ℕ). codes "# " ++ t) (sym (append_assoc (decimal me) (codes " has ") digits))

module _ (me : ℕ) (small : me < 2 ^ 64) (digits : List ℕ) (long : length digits ≡ 64) (all : list_all is_digit digits ≡ true) where
  abbrev line : List ℕ
  line = spaced (codes "#" ∷ decimal me ∷ codes "has" ∷ digits ∷ [])

  last_is : last_64 line ≡ digits
  last_is =
      let front : List ℕ = codes "# " ++ decimal me ++ codes " has " in
      let whole : line ≡ front ++ digits = line_is me digits in
      let count : length (front ++ digits) - 64 ≡ length front = omega (arith, length-append front digits, long) in
      ap last_64 whole ∙ (ap (λ (n : ℕ). drop n (front ++ digits)) count ∙ dropped front digits)

  files_back : files_in me line ≡ Some digits
  files_back =
      let same : bytes_eq line (files_line me digits) ≡ true = (bytes_eq-Decides line (files_line me digits)).1 (line_is me digits) in
      ap (λ (d : List ℕ). cond (is_digest d && bytes_eq line (files_line me d)) (Some d) None) last_is
      ∙ ap (λ t. cond t (Some digits) None) (both _ _ (digest_is digits long all) same)

  abbrev before : Header → List ToldLine → ℕ → Reading
  before h told i = reading (Some h) true h.areas (Begun me) (told ++ told_at i me (Started None) ∷ [])

  abbrev after : Header → List ToldLine → ℕ → Reading
  after h told i = reading (Some h) true h.areas (Within me) (told ++ told_at i me (Started (Some digits)) ∷ [])

  are_words : AreWords (codes "#" ∷ decimal me ∷ codes "has" ∷ digits ∷ [])
  are_words = (refl, (decimal_word me small, (refl, (digits_word digits long all, tt))))

  files_read : (h : Header) (told : List ToldLine) (i j : ℕ) → read_words j (before h told i) line (words line) ≡ Ok (after h told i)
  files_read h told i j =
      ap (read_words j (before h told i) line) (words_back (codes "#") (decimal me ∷ codes "has" ∷ digits ∷ []) are_words)
      ∙ (ap (λ (f : Option (List ℕ)). Ok (after_files (before h told i) me f)) files_back
      ∙ ap (λ (ls : List ToldLine). Ok (reading (Some h) true h.areas (Within me) ls)) (files_last digits told (told_at i me (Started None))))

  pub files_lead : (ended : Bool) (h : Header) (told : List ToldLine) (i j : ℕ) (rest : List ℕ) → Fits j (line_text (codes "#" ∷ decimal me ∷ codes "has" ∷ digits ∷ []) ++ rest) → Follows ended rest
      → Leads ended j (reading (Some h) true h.areas (Begun me) (told ++ told_at i me (Started None) ∷ [])) (line_text (codes "#" ∷ decimal me ∷ codes "has" ∷ digits ∷ []) ++ rest) (j + 1)
      (reading (Some h) true h.areas (Within me) (told ++ told_at i me (Started (Some digits)) ∷ [])) rest
  files_lead ended h told i j rest fits follows =
      let text = line_text (codes "#" ∷ decimal me ∷ codes "has" ∷ digits ∷ []) ++ rest in
      let cut = line_back (codes "#" ∷ decimal me ∷ codes "has" ∷ digits ∷ []) rest are_words in
      one_line ended j (before h told i) (after h told i) text line rest cut follows
      (whole_line j (before h told i) (after h told i) line (few_lines j text line rest cut fits) refl (files_read h told i j))

pub has_words : (me : ℕ) (kept : Durable) (shelves : List Shelf) (rest : List ℕ) → has_line me kept shelves ++ rest ≡ line_text (codes "#" ∷ decimal me ∷ codes "has" ∷ digest_text kept shelves ∷ []) ++ rest
has_words me kept shelves rest = ap (λ (t : List ℕ). (t ++ codes "\n") ++ rest) (sym (line_is me (digest_text kept shelves)))

pub has_leads : (ended : Bool) (h : Header) (told : List ToldLine) (i j me : ℕ) (kept : Durable) (shelves : List Shelf) (rest : List ℕ) → me < 2 ^ 64 → Fits j (has_line me kept shelves ++ rest) → Follows ended rest
    → Leads ended j (reading (Some h) true h.areas (Begun me) (told ++ told_at i me (Started None) ∷ [])) (has_line me kept shelves ++ rest) (j + 1)
    (reading (Some h) true h.areas (Within me) (told ++ told_at i me (Started (Some (digest_text kept shelves))) ∷ [])) rest
has_leads ended h told i j me kept shelves rest small fits follows =
    let digits = digest_text kept shelves in
    leads_as ended j (j + 1) (reading (Some h) true h.areas (Begun me) (told ++ told_at i me (Started None) ∷ [])) (reading (Some h) true h.areas (Within me) (told ++ told_at i me (Started (Some digits)) ∷ []))
    (has_line me kept shelves ++ rest) (line_text (codes "#" ∷ decimal me ∷ codes "has" ∷ digits ∷ []) ++ rest) rest (has_words me kept shelves rest)
    (files_lead me small digits (digest_long kept shelves) (sha256_digits (files_text kept shelves)) ended h told i j rest (subst (Fits j) (has_words me kept shelves rest) fits) follows)
