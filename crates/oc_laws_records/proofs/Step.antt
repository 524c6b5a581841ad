-- One line of records after another.
use Rattle.std.proofs.Common.{◌≡◌, ℕ, suc, ◌+◌, ◌<◌, ◌≤◌, Bool, true, false, cond, not, ◌||◌, nat_lt, Ok, Err, List, [], ◌∷◌, ◌++◌, length, refl, ap, sym, subst, ◌∙◌, arith}
use Rattle.std.specs.Str.Lines.{lines}
use Rattle.std.proofs.lemmas.Bool.{le-ltb, ne_eqb}
use Rattle.oc_base.specs.Steps.{◌>>=◌}
use Rattle.oc_base.specs.Words.{words}
use Rattle.oc_merge.proofs.LineEnds.{none_is}
use Rattle.oc_merge.specs.declared.fault.Most.TheVariants as limits
use Rattle.oc_merge.specs.declared.fault.RecordsFault.TheVariants.{Limit}
use Rattle.oc_merge.specs.declared.fault.TheConstants.{MAX_RECORD_LINES, MAX_RECORD_PUBLISHED}
use Rattle.oc_merge.specs.Lines.{is_comment, is_cut_off}
use Rattle.oc_merge.specs.Reading.{Reading, after_comment, after_words, at_line, is_none, limited, read_line, read_lines, read_statement, read_words}
use Rattle.oc_merge.specs.Told.{published_in}
use Rattle.oc_schedule.proofs.LineBack.{AreWords, line_back, words_back}
use Rattle.oc_schedule.specs.Texts.{line_text, spaced}
use Rattle.oc_laws_records.proofs.Clear.{AreClear, clear_spaced, not_cut_off}

-- a text whose lines are within the limit, from the line of this number on
abbrev pub Fits : ℕ → List ℕ → Type 0
Fits i text = i + length (lines text) ≤ MAX_RECORD_LINES + 1

-- a line before this text is whole
abbrev pub Follows : Bool → List ℕ → Type 0
Follows ended rest = (ended || not (is_none (lines rest))) ≡ true

-- Two states of reading with one result: this text from the line i on, after r, and that one from the line j on, after s.
pub record Leads (ended : Bool) (i : ℕ) (r : Reading) (text : List ℕ) (j : ℕ) (s : Reading) (rest : List ℕ) : Type 0 where
  pub same : read_lines i ended r (lines text) ≡ read_lines j ended s (lines rest)
  pub count : i + length (lines text) ≡ j + length (lines rest)

pub leads_then : (ended : Bool) (i j k : ℕ) (r s t : Reading) (text next rest : List ℕ) → Leads ended i r text j s next → Leads ended j s next k t rest → Leads ended i r text k t rest
leads_then ended i j k r s t text next rest a b = record { same = a.same ∙ b.same; count = a.count ∙ b.count }

pub fits_after : (ended : Bool) (i j : ℕ) (r s : Reading) (text rest : List ℕ) → Leads ended i r text j s rest → Fits i text → Fits j rest
fits_after ended i j r s text rest l fits = subst (λ (n : ℕ). n ≤ MAX_RECORD_LINES + 1) l.count fits

-- the same text in another form
pub leads_as : (ended : Bool) (i j : ℕ) (r s : Reading) (text other rest : List ℕ) → text ≡ other → Leads ended i r other j s rest → Leads ended i r text j s rest
leads_as ended i j r s text other rest e l = subst (λ (t : List ℕ). Leads ended i r t j s rest) (sym e) l

or_true : (b : Bool) → (b || true) ≡ true
or_true true = refl
or_true false = refl

-- a line is whole where some bytes follow
pub follows_some : (ended : Bool) (rest : List ℕ) → 0 < length rest → Follows ended rest
follows_some ended rest some =
    let there : is_none (lines rest) ≡ false = none_is rest ∙ ne_eqb (length rest) 0 (λ e. absurd (omega (arith, e, some))) in
    ap (λ b. ended || not b) there ∙ or_true ended

pub follows_cons : (ended : Bool) (b : ℕ) (bs : List ℕ) → Follows ended (b ∷ bs)
follows_cons ended b bs = follows_some ended (b ∷ bs) (omega arith)

pub follows_front : (ended : Bool) (front rest : List ℕ) → Follows ended rest → Follows ended (front ++ rest)
follows_front ended [] rest h = h
follows_front ended (b ∷ bs) rest h = follows_cons ended b (bs ++ rest)

-- a line that is read
pub one_line : (ended : Bool) (i : ℕ) (r s : Reading) (text line rest : List ℕ) → lines text ≡ line ∷ lines rest → Follows ended rest → read_line i true r line ≡ Ok s → Leads ended i r text (i + 1) s rest
one_line ended i r s text line rest cut follows read =
    let counted : length (lines text) ≡ suc (length (lines rest)) = ap length cut in
    record {
      same = ap (read_lines i ended r) cut
          ∙ (ap (λ b. read_line i b r line >>= λ next. read_lines (i + 1) ended next (lines rest)) follows
          ∙ ap (λ x. x >>= λ next. read_lines (i + 1) ended next (lines rest)) read);
      count = omega (arith, counted);
    }

-- a line of a text that fits is within the limit
pub few_lines : (i : ℕ) (text line rest : List ℕ) → lines text ≡ line ∷ lines rest → Fits i text → i ≤ MAX_RECORD_LINES
few_lines i text line rest cut fits = let counted : length (lines text) ≡ suc (length (lines rest)) = ap length cut in omega (arith, counted, fits)

-- a whole line
pub whole_line : (i : ℕ) (r s : Reading) (line : List ℕ) → i ≤ MAX_RECORD_LINES → is_cut_off line ≡ false → read_words i r line (words line) ≡ Ok s → read_line i true r line ≡ Ok s
whole_line i r s line few whole read =
    let no_more : nat_lt MAX_RECORD_LINES i ≡ false = le-ltb _ _ few in
    ap (λ b. cond b (Err (Limit limits.Lines)) (cond (is_cut_off line) (Ok r) (read_words i r line (words line)))) no_more
    ∙ (ap (λ b. cond b (Ok r) (read_words i r line (words line))) whole ∙ read)

-- a line that was cut off
pub cut_line : (i : ℕ) (r : Reading) (line : List ℕ) → i ≤ MAX_RECORD_LINES → is_cut_off line ≡ true → read_line i true r line ≡ Ok r
cut_line i r line few cut =
    let no_more : nat_lt MAX_RECORD_LINES i ≡ false = le-ltb _ _ few in
    ap (λ b. cond b (Err (Limit limits.Lines)) (cond (is_cut_off line) (Ok r) (read_words i r line (words line)))) no_more
    ∙ ap (λ b. cond b (Ok r) (read_words i r line (words line))) cut

-- the reading of a line, if no limit is exceeded
pub said_line : (i : ℕ) (r s : Reading) (line w : List ℕ) (ws : List (List ℕ)) → words line ≡ w ∷ ws → is_comment w ≡ false → after_words r.place r i w ws ≡ Ok s → published_in s.lines ≤ MAX_RECORD_PUBLISHED
    → read_words i r line (words line) ≡ Ok s
said_line i r s line w ws are plain says within =
    let limit : nat_lt MAX_RECORD_PUBLISHED (published_in s.lines) ≡ false = le-ltb _ _ within in
    ap (read_words i r line) are
    ∙ (ap (λ b. cond b (Ok (after_comment r.place r line)) (read_statement i r w ws)) plain
    ∙ (ap (λ x. limited (at_line i x)) says
    ∙ ap (λ b. cond b (Err (Limit limits.Published)) (Ok s)) limit))

-- a line of words
pub words_lead : (ended : Bool) (i : ℕ) (r s : Reading) (w : List ℕ) (ws : List (List ℕ)) (rest : List ℕ) → Fits i (line_text (w ∷ ws) ++ rest) → Follows ended rest → AreWords (w ∷ ws) → AreClear (w ∷ ws)
    → is_comment w ≡ false → after_words r.place r i w ws ≡ Ok s → published_in s.lines ≤ MAX_RECORD_PUBLISHED → Leads ended i r (line_text (w ∷ ws) ++ rest) (i + 1) s rest
words_lead ended i r s w ws rest fits follows are clear plain says within =
    let line = spaced (w ∷ ws) in
    let cut = line_back (w ∷ ws) rest are in
    let read = said_line i r s line w ws (words_back w ws are) plain says within in
    one_line ended i r s (line_text (w ∷ ws) ++ rest) line rest cut follows
    (whole_line i r s line (few_lines i (line_text (w ∷ ws) ++ rest) line rest cut fits) (not_cut_off line (clear_spaced (w ∷ ws) clear)) read)
