-- The lines of a record after its start: inputs and notes.
use Rattle.std.proofs.Common.{◌≡◌, ℕ, suc, ◌+◌, ◌-◌, ◌≤◌, Bool, true, false, cond, not, ◌==◌, if◌then◌else◌, nat_lt, Some, Ok, Err, List, [], ◌∷◌, ◌++◌, inl, inr, length, map, take, refl, ap, sym, subst, ◌∙◌, arith, codes, decimal, append_assoc}
use Rattle.std.specs.Prelude.{filter, slice_index}
use Rattle.std.specs.List.{AllByRecursion, onto_first, slice_split, sum_by}
use Rattle.std.specs.Str.{bytes_eq}
use Rattle.std.specs.Str.Lines.{lines, strip_carriage_return}
use Rattle.std.proofs.lemmas.Bool.{cases_Bool, eq-eqb, le-ltb, ne_eqb}
use Rattle.std.proofs.lemmas.List.{append-nil}
use Rattle.std.proofs.lemmas.List.Elements.{All-from_recursion}
use Rattle.std.proofs.lemmas.List.Splits.{length-slice_split, slice_split_at}
use Rattle.std.proofs.lemmas.List.Sums.{sum_by-cons, sum_by_push}
use Rattle.hex.proofs.HexLemmas.{decode_of-encode_lower}
use Rattle.hex.specs.Hex.{IsBytes, encode_lower}
use Rattle.oc_base.proofs.LineCuts.{lines_more}
use Rattle.oc_base.specs.declared.limits.TheConstants.{MAX_NODES, MAX_PUBLISH_BYTES}
use Rattle.oc_base.specs.declared.why.Why.TheVariants as causes
use Rattle.oc_base.specs.Lawful.{IsNode}
use Rattle.oc_base.specs.Steps.{◌>>=◌, with_fault}
use Rattle.oc_base.specs.Words.{node_in, words}
use Rattle.oc_merge.specs.declared.fault.TheConstants.{MAX_RECORD_LINES, MAX_RECORD_PUBLISHED}
use Rattle.oc_merge.specs.declared.place.Place.TheVariants.{Within}
use Rattle.oc_merge.specs.declared.told.Told.{Told}
use Rattle.oc_merge.specs.declared.told.Told.TheVariants.{Came, Took}
use Rattle.oc_merge.specs.declared.told.ToldLine.{ToldLine}
use Rattle.oc_merge.specs.Lines.{is_comment, is_cut_off, is_note, came_in, is_recorded, of_own, own_input, told_in, took_in}
use Rattle.oc_merge.specs.Reading.{Reading, after_header, after_told, after_words, because, read_line, read_words, tells}
use Rattle.oc_merge.specs.Recorded.{own_told}
use Rattle.oc_merge.specs.Told.{published_by, published_in}
use Rattle.oc_model.specs.declared.event.Act.TheVariants.{At}
use Rattle.oc_model.specs.declared.input.Input.{Input}
use Rattle.oc_model.specs.declared.input.Input.TheVariants as inputs
use Rattle.oc_model.specs.declared.message.Message.{Message}
use Rattle.oc_model.specs.Lawful.{IsGiven}
use Rattle.oc_model.specs.Node.{Header}
use Rattle.oc_routes.specs.Inputs.{input_line}
use Rattle.oc_schedule.proofs.ActsBack.{act_are_words, act_back, node_back, node_word, then}
use Rattle.oc_schedule.proofs.FieldsBack.{bytes_word}
use Rattle.oc_schedule.specs.Acts.{PublishesBytes, act_words, input_fields, input_word}
use Rattle.oc_schedule.specs.Texts.{line_text}
use Rattle.oc_deeds.specs.Deeds.{note_line}
use Rattle.oc_deeds.specs.Recorded.{RecordLine, Taken, Noted, inputs_in, record_text}
use Rattle.oc_wire.specs.Spelling.{spelling}
use Rattle.oc_laws_records.specs.Lawful.{IsLine, IsOneLine, IsTaken}
use Rattle.oc_laws_records.specs.Runs.{told_input}
use Rattle.oc_laws_records.proofs.Clear.{AreClear, IsClear, bytes_clear, decimal_clear, digits_clear, letters_clear, name_clear}
use Rattle.oc_laws_records.proofs.Opening.{reading}
use Rattle.oc_laws_records.proofs.Starting.{told_at}
use Rattle.oc_laws_records.proofs.Step.{Fits, Follows, Leads, cut_line, few_lines, fits_after, follows_front, leads_as, leads_then, one_line, said_line, whole_line, words_lead}

-- Words of inputs

-- no line of an input begins as a note, a header, a message or a comment does
record IsPlainWord (w : List ℕ) : Type 0 where
  note : is_note w ≡ false
  header : bytes_eq w (codes "overcast") ≡ false
  comment : is_comment w ≡ false

plain_word : (i : Input) → IsPlainWord (input_word i)
plain_word (inputs.Tick t) = record { note = refl; header = refl; comment = refl }
plain_word inputs.CheckNow = record { note = refl; header = refl; comment = refl }
plain_word (inputs.Relocate p) = record { note = refl; header = refl; comment = refl }
plain_word (inputs.Unreachable p) = record { note = refl; header = refl; comment = refl }
plain_word (inputs.Pull p) = record { note = refl; header = refl; comment = refl }
plain_word (inputs.Measured p rate hops) = record { note = refl; header = refl; comment = refl }
plain_word (inputs.Publish g bs) = record { note = refl; header = refl; comment = refl }
plain_word (inputs.Seal g) = record { note = refl; header = refl; comment = refl }
plain_word (inputs.Client area start g) = record { note = refl; header = refl; comment = refl }
plain_word (inputs.Delivered m) = record { note = refl; header = refl; comment = refl }

word_clear : (i : Input) → IsClear (input_word i)
word_clear (inputs.Tick t) = letters_clear (codes "tick") refl
word_clear inputs.CheckNow = letters_clear (codes "check") refl
word_clear (inputs.Relocate p) = letters_clear (codes "move") refl
word_clear (inputs.Unreachable p) = letters_clear (codes "fail") refl
word_clear (inputs.Pull p) = letters_clear (codes "pull") refl
word_clear (inputs.Measured p rate hops) = letters_clear (codes "measure") refl
word_clear (inputs.Publish g bs) = letters_clear (codes "publish") refl
word_clear (inputs.Seal g) = letters_clear (codes "seal") refl
word_clear (inputs.Client area start g) = letters_clear (codes "client") refl
word_clear (inputs.Delivered m) = letters_clear (codes "recv") refl

number_clear : (nodes p : ℕ) → nodes ≤ MAX_NODES → IsNode nodes p → IsClear (decimal p)
number_clear nodes p few node = decimal_clear p (omega (arith, few, node.1))

fields_clear : (nodes x : ℕ) (i : Input) → nodes ≤ MAX_NODES → IsGiven nodes x i → PublishesBytes (At x i) → AreClear (input_fields i)
fields_clear nodes x (inputs.Tick t) few h bytes = (decimal_clear t (omega (arith, h)), tt)
fields_clear nodes x inputs.CheckNow few h bytes = tt
fields_clear nodes x (inputs.Relocate p) few h bytes = (number_clear nodes p few h, tt)
fields_clear nodes x (inputs.Unreachable p) few h bytes = (number_clear nodes p few h, tt)
fields_clear nodes x (inputs.Pull p) few h bytes = (number_clear nodes p few h, tt)
fields_clear nodes x (inputs.Measured p rate hops) few h bytes = (number_clear nodes p few h.0, (decimal_clear rate (omega (arith, h.1)), (decimal_clear hops (omega (arith, h.2)), tt)))
fields_clear nodes x (inputs.Publish g bs) few h bytes = (name_clear g h.0, (bytes_clear bs bytes, tt))
fields_clear nodes x (inputs.Seal g) few h bytes = (name_clear g h, tt)
fields_clear nodes x (inputs.Client area start g) few h bytes = (decimal_clear area (omega (arith, h.0)), (decimal_clear start (omega (arith, h.1)), (name_clear g h.2, tt)))
fields_clear nodes x (inputs.Delivered m) few h bytes = tt

-- The statements of lines

own_back : (me : ℕ) (told : Told) → of_own me me told ≡ Ok told
own_back me told = ap (λ b. cond b (Ok told) (Err causes.Word)) (eq-eqb me me refl)

given_publishes : (nodes x : ℕ) (i : Input) → IsGiven nodes x i → published_by (Took i) ≤ MAX_PUBLISH_BYTES
given_publishes nodes x (inputs.Tick t) h = omega arith
given_publishes nodes x inputs.CheckNow h = omega arith
given_publishes nodes x (inputs.Relocate p) h = omega arith
given_publishes nodes x (inputs.Unreachable p) h = omega arith
given_publishes nodes x (inputs.Pull p) h = omega arith
given_publishes nodes x (inputs.Measured p rate hops) h = omega arith
given_publishes nodes x (inputs.Publish g bs) h = h.1
given_publishes nodes x (inputs.Seal g) h = omega arith
given_publishes nodes x (inputs.Client area start g) h = omega arith
given_publishes nodes x (inputs.Delivered m) h = absurd h

given_no_message : (nodes x : ℕ) (i : Input) → IsGiven nodes x i → bytes_eq (input_word i) (codes "recv") ≡ false
given_no_message nodes x (inputs.Tick t) h = refl
given_no_message nodes x inputs.CheckNow h = refl
given_no_message nodes x (inputs.Relocate p) h = refl
given_no_message nodes x (inputs.Unreachable p) h = refl
given_no_message nodes x (inputs.Pull p) h = refl
given_no_message nodes x (inputs.Measured p rate hops) h = refl
given_no_message nodes x (inputs.Publish g bs) h = refl
given_no_message nodes x (inputs.Seal g) h = refl
given_no_message nodes x (inputs.Client area start g) h = refl
given_no_message nodes x (inputs.Delivered m) h = absurd h

took_back : (nodes me : ℕ) (i : Input) → nodes ≤ MAX_NODES → IsNode nodes me → is_recorded (input_word i) ≡ true → IsGiven nodes me i → PublishesBytes (At me i) → told_in nodes me (input_word i) (decimal me ∷ input_fields i) ≡ Ok (Took i)
took_back nodes me i few node kind given bytes =
    let w = input_word i in
    let fs : List (List ℕ) = decimal me ∷ input_fields i in
    let few_bytes : nat_lt MAX_PUBLISH_BYTES (published_by (Took i)) ≡ false = le-ltb _ _ (given_publishes nodes me i given) in
    ap (λ b. cond b (came_in nodes me fs) (cond (is_recorded w) (took_in nodes me w fs) (Err causes.Word))) (given_no_message nodes me i given)
    ∙ (ap (λ b. cond b (took_in nodes me w fs) (Err causes.Word)) kind
    ∙ (ap (λ x. x >>= own_input me) (act_back nodes (At me i) few (node, given) bytes)
    ∙ (ap (λ b. cond b (Err causes.Range) (of_own me me (Took i))) few_bytes ∙ own_back me (Took i))))

came_back : (nodes me : ℕ) (m : Message) → nodes ≤ MAX_NODES → IsNode nodes me → IsBytes (spelling m) → told_in nodes me (codes "recv") (decimal me ∷ encode_lower (spelling m) ∷ []) ≡ Ok (Came (spelling m))
came_back nodes me m few node bytes =
    (then) (node_in nodes (decimal me)) _ me _ (node_back nodes me few node)
    (ap (λ x. with_fault causes.Hex x >>= λ bs. of_own me me (Came bs)) (decode_of-encode_lower (spelling m) bytes) ∙ own_back me (Came (spelling m)))

-- Lines of inputs

module _ (ended : Bool) (h : Header) (few : h.nodes ≤ MAX_NODES) (me : ℕ) (node : IsNode h.nodes me) where
  abbrev pub within : List ToldLine → Reading
  within told = reading (Some h) true h.areas (Within me) told

  inside_says : (told : List ToldLine) (i : ℕ) (w : List ℕ) (ws : List (List ℕ)) (t : Told) → IsPlainWord w → told_in h.nodes me w ws ≡ Ok t → after_words (Within me) (within told) i w ws ≡ Ok (within (told ++ told_at i me t ∷ []))
  inside_says told i w ws t plain is =
      ap (λ b. because (cond b (Ok (within told)) (cond (bytes_eq w (codes "overcast")) (after_header (within told) (w ∷ ws)) (after_told (within told) me i w ws)))) plain.note
      ∙ (ap (λ b. because (cond b (after_header (within told) (w ∷ ws)) (after_told (within told) me i w ws))) plain.header
      ∙ ap (λ x. because (x >>= λ s. Ok (tells (within told) i me s))) is)

  published_more : (told : List ToldLine) (i : ℕ) (t : Told) → published_in (told ++ told_at i me t ∷ []) ≡ published_in told + published_by t
  published_more told i t = let by_line : ToldLine → ℕ = λ l. published_by l.told in sum_by_push by_line told (told_at i me t)

  other_leads : (told : List ToldLine) (i : ℕ) (input : Input) (rest : List ℕ) → is_recorded (input_word input) ≡ true → IsGiven h.nodes me input → PublishesBytes (At me input)
      → Fits i (line_text (act_words (At me input)) ++ rest) → Follows ended rest → published_in told + published_by (Took input) ≤ MAX_RECORD_PUBLISHED
      → Leads ended i (within told) (line_text (act_words (At me input)) ++ rest) (i + 1) (within (told ++ told_at i me (Took input) ∷ [])) rest
  other_leads told i input rest kind given bytes fits follows limit =
      words_lead ended i (within told) (within (told ++ told_at i me (Took input) ∷ [])) (input_word input) (decimal me ∷ input_fields input) rest fits follows (act_are_words h.nodes (At me input) few (node, given) bytes)
      (word_clear input, (number_clear h.nodes me few node, fields_clear h.nodes me input few given bytes)) (plain_word input).comment
      (inside_says told i (input_word input) (decimal me ∷ input_fields input) (Took input) (plain_word input) (took_back h.nodes me input few node kind given bytes))
      (omega (arith, limit, published_more told i (Took input)))

  message_leads : (told : List ToldLine) (i : ℕ) (m : Message) (rest : List ℕ) → IsBytes (spelling m) → Fits i (input_line me (inputs.Delivered m) ++ rest) → Follows ended rest → published_in told ≤ MAX_RECORD_PUBLISHED
      → Leads ended i (within told) (input_line me (inputs.Delivered m) ++ rest) (i + 1) (within (told ++ told_at i me (Came (spelling m)) ∷ [])) rest
  message_leads told i m rest bytes fits follows limit =
      words_lead ended i (within told) (within (told ++ told_at i me (Came (spelling m)) ∷ [])) (codes "recv") (decimal me ∷ encode_lower (spelling m) ∷ []) rest fits follows
      (refl, ((node_word h.nodes me few node).0, (bytes_word (spelling m) bytes, tt))) (word_clear (inputs.Delivered m), (number_clear h.nodes me few node, (digits_clear (spelling m) bytes, tt))) refl
      (inside_says told i (codes "recv") (decimal me ∷ encode_lower (spelling m) ∷ []) (Came (spelling m)) (plain_word (inputs.Delivered m)) (came_back h.nodes me m few node bytes))
      (let same : published_in (told ++ told_at i me (Came (spelling m)) ∷ []) ≡ published_in told + 0 = published_more told i (Came (spelling m)) in omega (arith, limit, same))

  pub input_leads : (told : List ToldLine) (i : ℕ) (input : Input) (rest : List ℕ) → IsTaken h.nodes me input → Fits i (input_line me input ++ rest) → Follows ended rest → published_in told + published_by (told_input input) ≤ MAX_RECORD_PUBLISHED
      → Leads ended i (within told) (input_line me input ++ rest) (i + 1) (within (told ++ told_at i me (told_input input) ∷ [])) rest
  input_leads told i (inputs.Tick t) rest is fits follows limit = other_leads told i (inputs.Tick t) rest is.0 is.1 is.2 fits follows limit
  input_leads told i inputs.CheckNow rest is fits follows limit = other_leads told i inputs.CheckNow rest is.0 is.1 is.2 fits follows limit
  input_leads told i (inputs.Relocate p) rest is fits follows limit = other_leads told i (inputs.Relocate p) rest is.0 is.1 is.2 fits follows limit
  input_leads told i (inputs.Unreachable p) rest is fits follows limit = other_leads told i (inputs.Unreachable p) rest is.0 is.1 is.2 fits follows limit
  input_leads told i (inputs.Pull p) rest is fits follows limit = other_leads told i (inputs.Pull p) rest is.0 is.1 is.2 fits follows limit
  input_leads told i (inputs.Measured p rate hops) rest is fits follows limit = other_leads told i (inputs.Measured p rate hops) rest is.0 is.1 is.2 fits follows limit
  input_leads told i (inputs.Publish g bs) rest is fits follows limit = other_leads told i (inputs.Publish g bs) rest is.0 is.1 is.2 fits follows limit
  input_leads told i (inputs.Seal g) rest is fits follows limit = other_leads told i (inputs.Seal g) rest is.0 is.1 is.2 fits follows limit
  input_leads told i (inputs.Client area start g) rest is fits follows limit = other_leads told i (inputs.Client area start g) rest is.0 is.1 is.2 fits follows limit
  input_leads told i (inputs.Delivered m) rest is fits follows limit = message_leads told i m rest is.1 fits follows (let less : published_in told + 0 ≤ MAX_RECORD_PUBLISHED = limit in omega (arith, less))

  -- Notes

  -- a line that begins with this byte has words, of which the first begins with it
  marked_words : (t : List ℕ) → (p : List ℕ) × (ps : List (List ℕ)) × (words (33 ∷ t) ≡ (33 ∷ p) ∷ ps)
  marked_words t = by_parts (slice_split (λ b. b == 32) t) refl where
    by_parts : (parts : List (List ℕ)) → slice_split (λ b. b == 32) t ≡ parts → (p : List ℕ) × (ps : List (List ℕ)) × (words (33 ∷ t) ≡ (33 ∷ p) ∷ ps)
    by_parts [] e = let none : length (slice_split (λ b. b == 32) t) ≡ 0 = ap length e in absurd (omega (arith, none, length-slice_split (λ b. b == 32) t))
    by_parts (p ∷ ps) e = (
      p,
      filter (λ word. not (length word == 0)) ps,
      ap (λ (parts : List (List ℕ)). filter (λ word. not (length word == 0)) (onto_first 33 parts)) e
          ∙ ap (λ b. cond (not b) ((33 ∷ p) ∷ filter (λ word. not (length word == 0)) ps) (filter (λ word. not (length word == 0)) ps)) (ne_eqb (length (33 ∷ p)) 0 (λ z. absurd (omega (arith, z)))),
    )

  note_words : (told : List ToldLine) (i : ℕ) (t : List ℕ) → published_in told ≤ MAX_RECORD_PUBLISHED → read_words i (within told) (33 ∷ t) (words (33 ∷ t)) ≡ Ok (within told)
  note_words told i t limit =
      let some = marked_words t in
      said_line i (within told) (within told) (33 ∷ t) (33 ∷ some.0) some.1 some.2 refl refl limit

  note_read : (told : List ToldLine) (i : ℕ) (t : List ℕ) → i ≤ MAX_RECORD_LINES → published_in told ≤ MAX_RECORD_PUBLISHED → read_line i true (within told) (33 ∷ t) ≡ Ok (within told)
  note_read told i t short limit = elim (cases_Bool (is_cut_off (33 ∷ t))) [
    | inl cut ↦ cut_line i (within told) (33 ∷ t) short cut
    | inr whole ↦ whole_line i (within told) (within told) (33 ∷ t) short whole (note_words told i t limit)
  ]

  -- a note begins in the same way without a carriage return
  stripped_note : (why : List ℕ) → (t : List ℕ) × (strip_carriage_return (codes "! " ++ why) ≡ 33 ∷ t)
  stripped_note why = by_test (slice_index (codes "! " ++ why) (length (codes "! " ++ why) - 1) == 13) where
    by_test : (b : Bool) → (t : List ℕ) × ((if b then take (length (codes "! " ++ why) - 1) (codes "! " ++ why) else codes "! " ++ why) ≡ 33 ∷ t)
    by_test true =
        let count : length (codes "! " ++ why) - 1 ≡ suc (length why) = omega arith in
        (take (length why) (32 ∷ why), ap (λ (n : ℕ). take n (codes "! " ++ why)) count)
    by_test false = (32 ∷ why, refl)

  no_end : (bs : List ℕ) → IsOneLine bs → AllByRecursion (λ b. (b == 10) ≡ false) bs
  no_end [] all = tt
  no_end (b ∷ bs) all = (ne_eqb b 10 all.0, no_end bs all.1)

  note_leads : (told : List ToldLine) (i : ℕ) (why rest : List ℕ) → IsOneLine why → Fits i (note_line why ++ rest) → Follows ended rest → published_in told ≤ MAX_RECORD_PUBLISHED
      → Leads ended i (within told) (note_line why ++ rest) (i + 1) (within told) rest
  note_leads told i why rest one fits follows limit =
      let front : List ℕ = codes "! " ++ why in
      let text = note_line why ++ rest in
      let shape : text ≡ front ++ 10 ∷ rest = append_assoc front (codes "\n") rest in
      let parts = slice_split_at (λ b. b == 10) front 10 rest (All-from_recursion _ front (refl, (refl, no_end why one))) refl in
      let line = strip_carriage_return front in
      let cut : lines text ≡ line ∷ lines rest = ap lines shape ∙ lines_more (front ++ 10 ∷ rest) front rest parts in
      let marked = stripped_note why in
      one_line ended i (within told) (within told) text line rest cut follows
      (ap (read_line i true (within told)) marked.1 ∙ note_read told i marked.0 (few_lines i text line rest cut fits) limit)

  -- All lines

  -- lines that tell this of x, where x is the node, and nothing of another node
  abbrev pub Tell : List ToldLine → List Told → Type 0
  Tell more ts = (x : ℕ) → own_told x more ≡ (if me == x then ts else [])

  tell_more : (i : ℕ) (t : Told) (more : List ToldLine) (ts : List Told) → Tell more ts → Tell (told_at i me t ∷ more) (t ∷ ts)
  tell_more i t more ts tell x = by_test (me == x) (tell x) where
    by_test : (b : Bool) → own_told x more ≡ (if b then ts else []) → (if b then t ∷ own_told x more else own_told x more) ≡ (if b then t ∷ ts else [])
    by_test true e = ap (λ (us : List Told). t ∷ us) e
    by_test false e = e

  tell_none : Tell [] []
  tell_none x = by_test (me == x) where
    none : List Told
    none = []

    by_test : (b : Bool) → none ≡ (if b then none else none)
    by_test true = refl
    by_test false = refl

  pub lines_lead : (told : List ToldLine) (i : ℕ) (ls : List RecordLine) (rest : List ℕ) → AllByRecursion (IsLine h.nodes me) ls → Fits i (record_text me ls ++ rest) → Follows ended rest
      → published_in told + sum_by published_by (map told_input (inputs_in ls)) ≤ MAX_RECORD_PUBLISHED
      → (j : ℕ) × (more : List ToldLine) × Leads ended i (within told) (record_text me ls ++ rest) j (within (told ++ more)) rest × Tell more (map told_input (inputs_in ls))
      × (published_in (told ++ more) ≡ published_in told + sum_by published_by (map told_input (inputs_in ls)))
  lines_lead told i [] rest all fits follows limit =
      let same : told ≡ told ++ [] = sym (append-nil told) in
      (i, [], subst (λ (t : List ToldLine). Leads ended i (within told) rest i (within t) rest) same (record { same = refl; count = refl }), tell_none, ap published_in (append-nil told) ∙ omega arith)
  lines_lead told i (Noted text ∷ ls) rest all fits follows limit =
      let why = all.0.0 in
      let next = record_text me ls ++ rest in
      let shape : record_text me (Noted text ∷ ls) ++ rest ≡ note_line why ++ next = append_assoc text (record_text me ls) rest ∙ ap (λ (t : List ℕ). t ++ next) all.0.1 in
      let before = subst (Fits i) shape fits in
      let first = note_leads told i why next all.0.2 before (follows_front ended (record_text me ls) rest follows) (omega (arith, limit)) in
      let more = lines_lead told (i + 1) ls rest all.1 (fits_after ended i (i + 1) (within told) (within told) (note_line why ++ next) next first before) follows limit in (
        more.0,
        more.1,
        leads_as ended i more.0 (within told) (within (told ++ more.1)) (record_text me (Noted text ∷ ls) ++ rest) (note_line why ++ next) rest shape
            (leads_then ended i (i + 1) more.0 (within told) (within told) (within (told ++ more.1)) (note_line why ++ next) next rest first more.2),
        more.3,
        more.4,
      )
  lines_lead told i (Taken input ∷ ls) rest all fits follows limit =
      let next = record_text me ls ++ rest in
      let t = told_input input in
      let ts = map told_input (inputs_in ls) in
      let grown : List ToldLine = told ++ told_at i me t ∷ [] in
      let count : published_in grown ≡ published_in told + published_by t = published_more told i t in
      let sum : sum_by published_by (t ∷ ts) ≡ published_by t + sum_by published_by ts = sum_by-cons published_by t ts in
      let shape : record_text me (Taken input ∷ ls) ++ rest ≡ input_line me input ++ next = append_assoc (input_line me input) (record_text me ls) rest in
      let before = subst (Fits i) shape fits in
      let first = input_leads told i input next all.0 before (follows_front ended (record_text me ls) rest follows) (omega (arith, limit, sum)) in
      let more = lines_lead grown (i + 1) ls rest all.1 (fits_after ended i (i + 1) (within told) (within grown) (input_line me input ++ next) next first before) follows (omega (arith, limit, sum, count)) in
      let regrouped : grown ++ more.1 ≡ told ++ told_at i me t ∷ more.1 = append_assoc told (told_at i me t ∷ []) more.1 in
      let whole = leads_then ended i (i + 1) more.0 (within told) (within grown) (within (grown ++ more.1)) (input_line me input ++ next) next rest first more.2 in (
        more.0,
        told_at i me t ∷ more.1,
        subst (λ (k : List ToldLine). Leads ended i (within told) (record_text me (Taken input ∷ ls) ++ rest) more.0 (within k) rest) regrouped
            (leads_as ended i more.0 (within told) (within (grown ++ more.1)) (record_text me (Taken input ∷ ls) ++ rest) (input_line me input ++ next) rest shape whole),
        tell_more i t more.1 ts more.3,
        ap published_in (sym regrouped) ∙ omega (arith, more.4, count, sum),
      )
