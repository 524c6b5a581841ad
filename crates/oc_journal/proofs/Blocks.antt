-- The meaning of files of frames.
use Rattle.std.proofs.Common.{◌≡◌, ◌≢◌, inl, inr, ⊎_elim, ℕ, zero, suc, ◌+◌, ◌-◌, ◌*◌, ◌^◌, ◌<◌, ◌≤◌, Bool, true, false, cond, List, [], ◌∷◌, ◌++◌, length, take, drop, refl, sym, ◌∙◌, ap, arith, length-append, zero-add}
use Rattle.std.proofs.lemmas.List.{append-nil, append_assoc, take_at, drop_at, nil_from_length}
use Rattle.std.proofs.lemmas.Bool.{cases_lt, lt-ltb, le-ltb, false≢true}
use Rattle.std.proofs.lemmas.Bool.Decides.{nat_tests}
use Rattle.std.proofs.lemmas.Nat.{from_be_bytes-to_be_bytes_4}
use Rattle.std.specs.Int.{w32, to_be_bytes}
use Rattle.oc_journal.specs.JournalFile.{magic, length_in, is_whole, body_in, next_gate, frames_within, frames_of, is_broken_within, blocks, AreShort, EndsAt, IsJournalOf, IsNoJournal}

-- a number that was written is read
pub length_in-number : (n : ℕ) (rest : List ℕ) → n < 2 ^ 32 → length_in (to_be_bytes w32 n ++ rest) ≡ n
length_in-number n rest short = from_be_bytes-to_be_bytes_4 n short

-- the length that was written is read
length_in-written : (body rest : List ℕ) → length body < 2 ^ 32 → length_in (to_be_bytes w32 (length body) ++ rest) ≡ length body
length_in-written body rest short = from_be_bytes-to_be_bytes_4 (length body) short

-- a frame before some gate
module _ (body tail : List ℕ) (short : length body < 2 ^ 32) (more : 0 < length tail) where
  abbrev behind_gate : List ℕ
  behind_gate = to_be_bytes w32 (length body) ++ (body ++ tail)

  reads : length_in behind_gate ≡ length body
  reads = length_in-written body (body ++ tail) short

  long : length behind_gate ≡ 4 + length body + length tail
  long = omega (arith, length-append body tail)

  pub whole : is_whole behind_gate ≡ true
  whole = let more_than : 4 + length_in behind_gate < length behind_gate = omega (arith, reads, long, more) in lt-ltb (4 + length_in behind_gate) (length behind_gate) more_than

  pub body_in-written : body_in behind_gate ≡ body
  body_in-written = ap (λ (n : ℕ). take n (body ++ tail)) reads ∙ take_at body tail (length body) refl

  pub next_gate-written : next_gate behind_gate ≡ tail
  next_gate-written = ap (λ (n : ℕ). drop (4 + n) behind_gate) reads ∙ drop_at (to_be_bytes w32 (length body) ++ body) tail (4 + length body) (omega arith)

-- the frame after an open gate
frames_within-frame : (n : ℕ) (body tail : List ℕ) → length body < 2 ^ 32 → 0 < length tail → frames_within (suc n) (1 ∷ (to_be_bytes w32 (length body) ++ (body ++ tail))) ≡ body ∷ frames_within n tail
frames_within-frame n body tail short more =
    let rest = to_be_bytes w32 (length body) ++ (body ++ tail) in
    ap (λ (w : Bool). cond w (body_in rest ∷ frames_within n (next_gate rest)) []) (whole body tail short more)
    ∙ ap (λ (b : List ℕ). b ∷ frames_within n (next_gate rest)) (body_in-written body tail short more)
    ∙ ap (λ (t : List ℕ). body ∷ frames_within n t) (next_gate-written body tail short more)

-- a whole frame is passed
is_broken_within-frame : (n : ℕ) (body tail : List ℕ) → length body < 2 ^ 32 → 0 < length tail → is_broken_within (suc n) (1 ∷ (to_be_bytes w32 (length body) ++ (body ++ tail))) ≡ is_broken_within n tail
is_broken_within-frame n body tail short more =
    let rest = to_be_bytes w32 (length body) ++ (body ++ tail) in
    ap (λ (w : Bool). cond w (is_broken_within n (next_gate rest)) true) (whole body tail short more)
    ∙ ap (is_broken_within n) (next_gate-written body tail short more)

-- one more frame before the rest
blocks-cons : (body : List ℕ) (bodies : List (List ℕ)) (tail : List ℕ) → blocks (body ∷ bodies) ++ tail ≡ 1 ∷ (to_be_bytes w32 (length body) ++ (body ++ (blocks bodies ++ tail)))
blocks-cons body bodies tail =
    ap (λ (l : List ℕ). 1 ∷ (to_be_bytes w32 (length body) ++ l)) (append_assoc body (blocks bodies) tail)

-- something follows the frames
more_behind : (bodies : List (List ℕ)) (tail : List ℕ) → 0 < length tail → 0 < length (blocks bodies ++ tail)
more_behind bodies tail more = omega (arith, length-append (blocks bodies) tail)

-- frames, and the bytes after them
pub frames_within-blocks : (bodies : List (List ℕ)) (k : ℕ) (tail : List ℕ) → AreShort bodies → 0 < length tail → frames_within (length bodies + k) (blocks bodies ++ tail) ≡ bodies ++ frames_within k tail
frames_within-blocks [] k tail short more = ap (λ (n : ℕ). frames_within n tail) (zero-add k)
frames_within-blocks (body ∷ bodies) k tail short more =
    let count : suc (length bodies) + k ≡ suc (length bodies + k) = omega arith in
    ap (λ (n : ℕ). frames_within n (blocks (body ∷ bodies) ++ tail)) count
    ∙ ap (frames_within (suc (length bodies + k))) (blocks-cons body bodies tail)
    ∙ frames_within-frame (length bodies + k) body (blocks bodies ++ tail) short.0 (more_behind bodies tail more)
    ∙ ap (λ (fs : List (List ℕ)). body ∷ fs) (frames_within-blocks bodies k tail short.1 more)

-- all whole frames are passed
pub is_broken_within-blocks : (bodies : List (List ℕ)) (k : ℕ) (tail : List ℕ) → AreShort bodies → 0 < length tail → is_broken_within (length bodies + k) (blocks bodies ++ tail) ≡ is_broken_within k tail
is_broken_within-blocks [] k tail short more = ap (λ (n : ℕ). is_broken_within n tail) (zero-add k)
is_broken_within-blocks (body ∷ bodies) k tail short more =
    let count : suc (length bodies) + k ≡ suc (length bodies + k) = omega arith in
    ap (λ (n : ℕ). is_broken_within n (blocks (body ∷ bodies) ++ tail)) count
    ∙ ap (is_broken_within (suc (length bodies + k))) (blocks-cons body bodies tail)
    ∙ is_broken_within-frame (length bodies + k) body (blocks bodies ++ tail) short.0 (more_behind bodies tail more)
    ∙ is_broken_within-blocks bodies k tail short.1 more

-- each frame has five bytes and its body
pub length-blocks_least : (bodies : List (List ℕ)) → 5 * length bodies ≤ length (blocks bodies)
length-blocks_least [] = omega arith
length-blocks_least (body ∷ bodies) = omega (arith, length-append body (blocks bodies), length-blocks_least bodies)

-- one more frame, and the bytes after it
pub blocks-push : (bodies : List (List ℕ)) (body rest : List ℕ) → blocks (bodies ++ body ∷ []) ++ rest ≡ blocks bodies ++ (1 ∷ (to_be_bytes w32 (length body) ++ (body ++ rest)))
blocks-push [] body rest = blocks-cons body [] rest
blocks-push (b ∷ bodies) body rest =
    blocks-cons b (bodies ++ body ∷ []) rest
    ∙ ap (λ (l : List ℕ). 1 ∷ (to_be_bytes w32 (length b) ++ (b ++ l))) (blocks-push bodies body rest)
    ∙ sym (blocks-cons b bodies (1 ∷ (to_be_bytes w32 (length body) ++ (body ++ rest))))

-- the length of the frames with one more
pub length-blocks_push : (bodies : List (List ℕ)) (body : List ℕ) → length (blocks (bodies ++ body ∷ [])) ≡ length (blocks bodies) + 5 + length body
length-blocks_push bodies body =
    let same : length (blocks (bodies ++ body ∷ []) ++ []) ≡ length (blocks bodies ++ (1 ∷ (to_be_bytes w32 (length body) ++ (body ++ [])))) = ap length (blocks-push bodies body []) in
    omega (arith, same, length-append (blocks (bodies ++ body ∷ [])) [], length-append (blocks bodies) (1 ∷ (to_be_bytes w32 (length body) ++ (body ++ []))), length-append body [])

-- one short body more
pub AreShort-push : (bodies : List (List ℕ)) (body : List ℕ) → AreShort bodies → length body < 2 ^ 32 → AreShort (bodies ++ body ∷ [])
AreShort-push [] body short one = (one, tt)
AreShort-push (b ∷ bodies) body short one = (short.0, AreShort-push bodies body short.1 one)

-- a closed gate ends the frames
closed : (n gate : ℕ) (rest : List ℕ) → gate ≢ 1 → frames_within n (gate ∷ rest) ≡ []
closed zero gate rest shut = refl
closed (suc n) gate rest shut = grind (arith, nat_tests)

-- a gate that is not open ends the frames
unbroken : (n gate : ℕ) (rest : List ℕ) → gate ≢ 1 → is_broken_within n (gate ∷ rest) ≡ false
unbroken zero gate rest shut = refl
unbroken (suc n) gate rest shut = grind (arith, nat_tests)

-- Frames, and after them more bytes than none.
module _ (bodies : List (List ℕ)) (tail : List ℕ) (short : AreShort bodies) (more : 0 < length tail) where
  abbrev whole_file : List ℕ
  whole_file = (magic ++ blocks bodies) ++ tail

  length-whole_file : length whole_file ≡ 8 + length (blocks bodies) + length tail
  length-whole_file = omega (arith, length-append (blocks bodies) tail)

  -- as many turns as there are bytes are enough
  abbrev left : ℕ
  left = length whole_file - length bodies

  turns : length whole_file ≡ length bodies + left
  turns = omega (arith, length-whole_file, length-blocks_least bodies)

  pub frames_within-file : frames_within (length whole_file) (blocks bodies ++ tail) ≡ bodies ++ frames_within left tail
  frames_within-file = ap (λ (n : ℕ). frames_within n (blocks bodies ++ tail)) turns ∙ frames_within-blocks bodies left tail short more

  pub is_broken_within-file : is_broken_within (length whole_file) (blocks bodies ++ tail) ≡ is_broken_within left tail
  is_broken_within-file = ap (λ (n : ℕ). is_broken_within n (blocks bodies ++ tail)) turns ∙ is_broken_within-blocks bodies left tail short more

  -- a file as short as a header has none
  none_in-short : length whole_file ≤ 9 → bodies ≡ []
  none_in-short small = nil_from_length bodies (omega (arith, length-whole_file, length-blocks_least bodies))

  -- where no frame is after them, they are the frames of the file
  pub frames_of-file : frames_within left tail ≡ [] → frames_of whole_file ≡ bodies
  frames_of-file no_more = elim (cases_lt 9 (length whole_file)) [
    | inl longer ↦
        ap (λ (b : Bool). cond b (frames_within (length whole_file) (blocks bodies ++ tail)) []) (lt-ltb 9 (length whole_file) longer)
        ∙ frames_within-file ∙ ap (λ (l : List (List ℕ)). bodies ++ l) no_more ∙ append-nil bodies
    | inr small ↦
        ap (λ (b : Bool). cond b (frames_within (length whole_file) (blocks bodies ++ tail)) []) (le-ltb 9 (length whole_file) small)
        ∙ sym (none_in-short small)
  ]

-- the frames of a file that is frames and a gate that is not open
pub frames_of-ended : (file : List ℕ) (bodies : List (List ℕ)) (offset : ℕ) → EndsAt file bodies offset → frames_of file ≡ bodies
frames_of-ended file bodies offset e =
    let tail = e.gate ∷ e.stale in
    let more : 0 < length tail = omega arith in
    ap frames_of e.parts ∙ frames_of-file bodies tail e.short more (closed (left bodies tail e.short more) e.gate e.stale e.shut)

-- a file of these frames is a journal
pub journal_ended : (file : List ℕ) (bodies : List (List ℕ)) (offset : ℕ) → EndsAt file bodies offset → ¬ IsNoJournal file
journal_ended file bodies offset e bad =
    let tail = e.gate ∷ e.stale in
    let more : 0 < length tail = omega arith in
    let no_more = is_broken_within-file bodies tail e.short more ∙ unbroken (left bodies tail e.short more) e.gate e.stale e.shut in
    ⊎_elim
    (λ other. other (ap (take 8) e.parts))
    (λ broken. false≢true (sym no_more ∙ sym (ap (λ (f : List ℕ). is_broken_within (length f) (drop 8 f)) e.parts) ∙ broken))
    bad.1

-- with these frames
pub journal_of : (file : List ℕ) (bodies : List (List ℕ)) (offset : ℕ) → EndsAt file bodies offset → IsJournalOf bodies file
journal_of file bodies offset e = record { journal = journal_ended file bodies offset e; frames = frames_of-ended file bodies offset e }

-- frames, an open gate, and no whole frame after it
pub broken_file : (bodies : List (List ℕ)) (rest : List ℕ) → AreShort bodies → is_whole rest ≡ false → 9 < length ((magic ++ blocks bodies) ++ (1 ∷ rest)) → IsNoJournal ((magic ++ blocks bodies) ++ (1 ∷ rest))
broken_file bodies rest short cut longer =
    let tail = 1 ∷ rest in
    let more : 0 < length tail = omega arith in
    let n = left bodies tail short more in
    let some : n ≡ suc (n - 1) = omega (arith, length-append (blocks bodies) tail, length-blocks_least bodies) in (
      longer,
      inr (
          is_broken_within-file bodies tail short more
          ∙ ap (λ (k : ℕ). is_broken_within k tail) some
          ∙ ap (λ (w : Bool). cond w (is_broken_within (n - 1) (next_gate rest)) true) cut
          ),
    )
