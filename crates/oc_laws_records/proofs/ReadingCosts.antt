-- The records read from a text may cost no more than its lines.
use Rattle.std.proofs.Common.{◌≡◌, ℕ, suc, ◌+◌, ◌-◌, ◌≤◌, Bool, true, false, cond, not, ◌&&◌, ◌||◌, ◌==◌, nat_lt, Option, Some, None, Result, Ok, Err, List, [], ◌∷◌, ◌++◌, ◌⊎◌, length, inl, inr, refl, sym, subst, arith, codes, slice_set}
use Rattle.std.specs.List.{AllByRecursion, sum_by}
use Rattle.std.specs.Str.{bytes_eq}
use Rattle.std.proofs.lemmas.List.Sums.{sum_by-cons, sum_by_push}
use Rattle.oc_base.specs.declared.limits.TheConstants.{MAX_NODES}
use Rattle.oc_base.specs.declared.why.Why.TheVariants as causes
use Rattle.oc_base.specs.Steps.{map_fault, with_fault}
use Rattle.oc_base.specs.Words.{words}
use Rattle.oc_model.specs.declared.event.Event.TheVariants.{Up}
use Rattle.oc_model.specs.Node.{Header}
use Rattle.oc_schedule.proofs.Ranges.{area_range, header_range}
use Rattle.oc_schedule.proofs.Steps.{behind_guard, chosen, steps, within_guard}
use Rattle.oc_schedule.specs.Lines.{area_in, area_words, event_words, header_in, header_words, node_alone_in, opening_in, header_without_areas}
use Rattle.oc_merge.specs.declared.fault.Cause.TheVariants.{Said, Areas}
use Rattle.oc_merge.specs.declared.fault.Most.TheVariants as limits
use Rattle.oc_merge.specs.declared.fault.RecordsFault.TheVariants.{Limit, Line}
use Rattle.oc_merge.specs.declared.fault.TheConstants.{MAX_RECORD_LINES, MAX_RECORD_PUBLISHED}
use Rattle.oc_merge.specs.declared.place.Place.{Place}
use Rattle.oc_merge.specs.declared.place.Place.TheVariants.{Outside, Opened, Begun, Within}
use Rattle.oc_merge.specs.declared.told.Told.{Told}
use Rattle.oc_merge.specs.declared.told.Told.TheVariants.{Started, Came, Took}
use Rattle.oc_merge.specs.declared.told.ToldLine.{ToldLine}
use Rattle.oc_merge.specs.Lines.{files_in, is_comment, is_cut_off, is_note, told_in}
use Rattle.oc_merge.specs.Reading.{Reading, after_area, after_comment, after_files, after_header, after_inside, after_opening, after_told, after_up, after_words, agreed, at_line, because, begun, has_areas, is_none, nodes_of, nothing_read, read_line, read_lines, read_statement, read_words, records_at_end, started_at, starts, tells, with_areas, with_digits, with_files}
use Rattle.oc_merge.specs.Recorded.{entry_of}
use Rattle.oc_merge.specs.Told.{Records, published_in}
use Rattle.oc_laws_records.proofs.LinesRead.{IsOfBytes, told_cheap}
use Rattle.oc_laws_records.proofs.Prices.{areas_cost, header_cost, set_cost, zeros_cost}
use Rattle.oc_laws_records.proofs.ScheduleCosts.{entry_cost}
use Rattle.oc_laws_records.proofs.Totals.{cost, crash_bytes, spent, total, words_total}
use Rattle.oc_laws_records.proofs.WordsRead.{alone_total, area_total, header_total, same_length}

said : {A E F : Type 0} (f : E → F) (r : Result A E) (x : A) → map_fault f r ≡ Ok x → r ≡ Ok x
said f (Ok y) x h = cc h
said f (Err e) x h = absurd (cc h)

all_push : (P : ToldLine → Type 0) (ls : List ToldLine) (l : ToldLine) → AllByRecursion P ls → P l → AllByRecursion P (ls ++ l ∷ [])
all_push P [] l all last = (last, all)
all_push P (k ∷ ks) l all last = (all.0, all_push P ks l all.1 last)

abbrev pub LineOfBytes : ToldLine → Type 0
LineOfBytes l = IsOfBytes l.node l.told

module _ (price : ℕ → ℕ) (nodes : ℕ) where
  -- the greatest cost of a line that was read
  abbrev pub told_cost : ToldLine → ℕ
  told_cost l = entry_cost price l.node (entry_of nodes l.told)

  abbrev pub told_costs : List ToldLine → ℕ
  told_costs ls = sum_by told_cost ls

  abbrev pub opening_cost : Header → ℕ
  opening_cost h = header_cost price h + areas_cost price 1 h.areas

  -- The parts that were read so far cost no more than c: the header with its areas, those of the record that opens the whole; and the lines. Each
  -- start may have a crash before it; the first has none, and each further one a header of its own, which pays for the crash.
  abbrev Pays : ℕ → Place → Bool → Option Header → List ℕ → List ToldLine → Type 0
  Pays c Outside false None areas told = told_costs told ≡ 0
  Pays c Opened false (Some h) areas told = (told_costs told ≡ 0) × (areas_cost price 1 h.areas ≡ 0) × (header_cost price h + areas_cost price 1 areas ≤ c)
  Pays c Opened true (Some h) areas told = opening_cost h + (told_costs told - price crash_bytes) + price crash_bytes ≤ c
  Pays c (Begun me) true (Some h) areas told = opening_cost h + (told_costs told - price crash_bytes) ≤ c
  Pays c (Within me) true (Some h) areas told = opening_cost h + (told_costs told - price crash_bytes) ≤ c
  Pays c place started header areas told = ⊥

  pays_later : (c d : ℕ) (place : Place) (started : Bool) (header : Option Header) (areas : List ℕ) (told : List ToldLine) → c ≤ d → Pays c place started header areas told → Pays d place started header areas told
  pays_later c d Outside false None areas told within p = p
  pays_later c d Opened false (Some h) areas told within p = (p.0, p.1, omega (arith, p.2, within))
  pays_later c d Opened true (Some h) areas told within p = omega (arith, p, within)
  pays_later c d (Begun me) true (Some h) areas told within p = omega (arith, p, within)
  pays_later c d (Within me) true (Some h) areas told within p = omega (arith, p, within)
  pays_later c d place started header areas told within p = absurd p

  record Paid (c : ℕ) (r : Reading) : Type 0 where
    pays : Pays c r.place r.started r.header r.areas r.lines
    bytes : AllByRecursion LineOfBytes r.lines
    few : nodes_of r.header ≤ MAX_NODES

  paid_later : (c d : ℕ) (r : Reading) → c ≤ d → Paid c r → Paid d r
  paid_later c d r within p = record { pays = pays_later c d r.place r.started r.header r.areas r.lines within p.pays; bytes = p.bytes; few = p.few }

-- Headers

header_areas : (price : ℕ → ℕ) (ws : List (List ℕ)) (h : Header) → header_in ws ≡ Ok h → areas_cost price 1 h.areas ≡ 0
header_areas price ws h is =
    steps (with_fault causes.Header (opening_in ws)) _ _ is λ sizes is_sizes end.
    let same : header_without_areas sizes ≡ h = cc end in
    subst (λ (k : Header). areas_cost price 1 k.areas ≡ 0) same (zeros_cost price 1 sizes.nodes)

-- the first header stays
agreed_is : (k h found : Header) → agreed (Some k) h ≡ Ok found → k ≡ found
agreed_is k h found e = let is = (within_guard (k.nodes == h.nodes && k.chain == h.chain && k.chunk == h.chunk) causes.Header (Ok k) found e).1 in cc is

agreed_few : (first : Option Header) (h found : Header) → nodes_of first ≤ MAX_NODES → h.nodes ≤ MAX_NODES → agreed first h ≡ Ok found → found.nodes ≤ MAX_NODES
agreed_few None h found few small e = let same : h ≡ found = cc e in subst (λ (k : Header). k.nodes ≤ MAX_NODES) same small
agreed_few (Some k) h found few small e = subst (λ (j : Header). j.nodes ≤ MAX_NODES) (agreed_is k h found e) few

module _ (price : ℕ → ℕ) (more : (a b : ℕ) → a ≤ b → price a ≤ price b) (nodes : ℕ) where
  abbrev PaysAs : ℕ → Place → Bool → Option Header → List ℕ → List ToldLine → Type 0
  PaysAs = Pays price nodes

  header_pays : (c n : ℕ) (place : Place) (started : Bool) (first : Option Header) (areas : List ℕ) (told : List ToldLine) (h found : Header) → agreed first h ≡ Ok found
      → header_cost price h ≤ price n → areas_cost price 1 h.areas ≡ 0 → price crash_bytes ≤ price n → PaysAs c place started first areas told → PaysAs (c + price n) Opened started (Some found) h.areas told
  header_pays c n Outside false None areas told h found e dear none crash p =
      let same : h ≡ found = cc e in
      subst (λ (k : Header). PaysAs (c + price n) Opened false (Some k) h.areas told) same (p, none, omega (arith, dear, none))
  header_pays c n Opened false (Some k) areas told h found e dear none crash p =
      subst (λ (j : Header). PaysAs (c + price n) Opened false (Some j) h.areas told) (agreed_is k h found e) (p.0, p.1, omega (arith, p.2, none))
  header_pays c n Opened true (Some k) areas told h found e dear none crash p =
      subst (λ (j : Header). PaysAs (c + price n) Opened true (Some j) h.areas told) (agreed_is k h found e) (omega (arith, p))
  header_pays c n (Begun me) true (Some k) areas told h found e dear none crash p =
      subst (λ (j : Header). PaysAs (c + price n) Opened true (Some j) h.areas told) (agreed_is k h found e) (omega (arith, p, crash))
  header_pays c n (Within me) true (Some k) areas told h found e dear none crash p =
      subst (λ (j : Header). PaysAs (c + price n) Opened true (Some j) h.areas told) (agreed_is k h found e) (omega (arith, p, crash))
  header_pays c n place started first areas told h found e dear none crash p = absurd p

  abbrev PaidFor : ℕ → Reading → Type 0
  PaidFor = Paid price nodes

  header_paid : (c : ℕ) (r : Reading) (ws : List (List ℕ)) (t : Reading) → PaidFor c r → after_header r ws ≡ Ok t → PaidFor (c + price (total ws)) t
  header_paid c r ws t p e =
      steps (header_in ws) _ _ e λ h is_header then.
      steps (agreed r.header h) _ _ then λ first is_first end.
      let same : record r { header = Some first; areas = h.areas; place = Opened } ≡ t = cc end in
      let long = header_total ws h is_header in
      subst (PaidFor (c + price (total ws))) same (record {
        pays = header_pays c (total ws) r.place r.started r.header r.areas r.lines h first is_first (more (total (header_words h.nodes h.chain h.chunk)) (total ws) long.0) (header_areas price ws h is_header) (more crash_bytes (total ws) long.1) p.pays;
        bytes = p.bytes;
        few = agreed_few r.header h first p.few (header_range ws h is_header).few is_first;
      })

  -- Areas

  area_pays : (c n : ℕ) (started : Bool) (header : Option Header) (areas more_areas : List ℕ) (told : List ToldLine) → areas_cost price 1 more_areas ≤ areas_cost price 1 areas + price n
      → PaysAs c Opened started header areas told → PaysAs (c + price n) Opened started header more_areas told
  area_pays c n false (Some h) areas more_areas told dear p = (p.0, p.1, omega (arith, p.2, dear))
  area_pays c n true (Some h) areas more_areas told dear p = omega (arith, p)
  area_pays c n false None areas more_areas told dear p = absurd p
  area_pays c n true None areas more_areas told dear p = absurd p

  area_paid : (c : ℕ) (r : Reading) (word : List ℕ) (fields : List (List ℕ)) (t : Reading) → r.place ≡ Opened → length word ≡ 4 → PaidFor c r → after_area r fields ≡ Ok t → PaidFor (c + price (total (word ∷ fields))) t
  area_paid c r word fields t at long p e =
      steps (area_in (nodes_of r.header) fields) _ _ e λ area is_area end.
      let same : record r { areas = slice_set r.areas (area.0 - 1) area.1 } ≡ t = cc end in
      let n = total (word ∷ fields) in
      let opened : PaysAs c Opened r.started r.header r.areas r.lines = subst (λ (q : Place). PaysAs c q r.started r.header r.areas r.lines) at p.pays in
      let node = (area_range (nodes_of r.header) fields area is_area).0 in
      let line = more (total (area_words area.0 area.1)) n (omega (arith, long, area_total (nodes_of r.header) fields area p.few is_area)) in
      let dear = set_cost price 1 (area.0 - 1) area.0 area.1 r.areas (omega (arith, node.0)) in
      let areas = slice_set r.areas (area.0 - 1) area.1 in
      let after : PaysAs (c + price n) Opened r.started r.header areas r.lines = area_pays c n r.started r.header r.areas areas r.lines (omega (arith, dear, line)) opened in
      subst (PaidFor (c + price n)) same (record {
        pays = subst (λ (q : Place). PaysAs (c + price n) q r.started r.header areas r.lines) (sym at) after;
        bytes = p.bytes;
        few = p.few;
      })

  -- Starts

  first_pays : (c n me : ℕ) (header : Option Header) (areas : List ℕ) (told : List ToldLine) (l : ToldLine) → told_cost price nodes l ≤ price n + price crash_bytes
      → PaysAs c Opened false header areas told → PaysAs (c + price n) (Begun me) true (with_areas areas header) areas (told ++ l ∷ [])
  first_pays c n me (Some h) areas told l dear p = omega (arith, p.0, p.2, dear, sum_by_push (told_cost price nodes) told l)
  first_pays c n me None areas told l dear p = absurd p

  next_pays : (c n me : ℕ) (header : Option Header) (areas : List ℕ) (told : List ToldLine) (l : ToldLine) → told_cost price nodes l ≤ price n + price crash_bytes
      → PaysAs c Opened true header areas told → PaysAs (c + price n) (Begun me) true header areas (told ++ l ∷ [])
  next_pays c n me (Some h) areas told l dear p = omega (arith, p, dear, sum_by_push (told_cost price nodes) told l)
  next_pays c n me None areas told l dear p = absurd p

  few_areas : (areas : List ℕ) (header : Option Header) → nodes_of header ≤ MAX_NODES → nodes_of (with_areas areas header) ≤ MAX_NODES
  few_areas areas None few = few
  few_areas areas (Some h) few = few

  start_paid : (c n i me : ℕ) (r t : Reading) → r.place ≡ Opened → told_cost price nodes (record { number = i; node = me; told = Started None }) ≤ price n + price crash_bytes → PaidFor c r → starts r i me ≡ Ok t → PaidFor (c + price n) t
  start_paid c n i me r t at dear p e =
      let l : ToldLine = record { number = i; node = me; told = Started None } in
      let opened : PaysAs c Opened r.started r.header r.areas r.lines = subst (λ (q : Place). PaysAs c q r.started r.header r.areas r.lines) at p.pays in
      let bytes : AllByRecursion LineOfBytes (r.lines ++ l ∷ []) = all_push LineOfBytes r.lines l p.bytes tt in
      elim (chosen (not r.started) _ _ _ e) [
        | inl new ↦
            let same : started_at (begun r) i me ≡ t = cc new.1 in
            let not_yet : r.started ≡ false = was_false r.started new.0 in
            let before : PaysAs c Opened false r.header r.areas r.lines = subst (λ (b : Bool). PaysAs c Opened b r.header r.areas r.lines) not_yet opened in
            subst (PaidFor (c + price n)) same (record { pays = first_pays c n me r.header r.areas r.lines l dear before; bytes = bytes; few = few_areas r.areas r.header p.few })
        | inr old ↦
            let is = within_guard (has_areas r.areas r.header) Areas (Ok (started_at r i me)) t old.1 in
            let same : started_at r i me ≡ t = cc is.1 in
            let already : r.started ≡ true = was_true r.started old.0 in
            let before : PaysAs c Opened true r.header r.areas r.lines = subst (λ (b : Bool). PaysAs c Opened b r.header r.areas r.lines) already opened in
            let after : PaysAs (c + price n) (Begun me) true r.header r.areas (r.lines ++ l ∷ []) = next_pays c n me r.header r.areas r.lines l dear before in
            subst (PaidFor (c + price n)) same
            (record { pays = subst (λ (b : Bool). PaysAs (c + price n) (Begun me) b r.header r.areas (r.lines ++ l ∷ [])) (sym already) after; bytes = bytes; few = p.few })
      ] where
        was_false : (b : Bool) → not b ≡ true → b ≡ false
        was_false true h = absurd (cc h)
        was_false false h = refl

        was_true : (b : Bool) → not b ≡ false → b ≡ true
        was_true true h = refl
        was_true false h = absurd (cc h)

  up_paid : (c i : ℕ) (r : Reading) (word : List ℕ) (fields : List (List ℕ)) (t : Reading) → r.place ≡ Opened → length word ≡ 2 → PaidFor c r → after_up r i fields ≡ Ok t → PaidFor (c + price (total (word ∷ fields))) t
  up_paid c i r word fields t at long p e =
      steps (because (node_alone_in (nodes_of r.header) fields)) _ _ e λ me is_node then.
      let n = total (word ∷ fields) in
      let line = more (total (event_words (Up me))) n (omega (arith, long, alone_total (nodes_of r.header) fields me p.few (said (λ why. Said why) (node_alone_in (nodes_of r.header) fields) me is_node))) in
      start_paid c n i me r t at (omega (arith, line)) p then

  -- Lines of a record

  told_pays : (c n me : ℕ) (place : Place) (started : Bool) (header : Option Header) (areas : List ℕ) (told : List ToldLine) (l : ToldLine) → (place ≡ Begun me) ⊎ (place ≡ Within me) → told_cost price nodes l ≤ price n
      → PaysAs c place started header areas told → PaysAs (c + price n) (Within me) started header areas (told ++ l ∷ [])
  told_pays c n me (Begun x) true (Some h) areas told l at dear p = omega (arith, p, dear, sum_by_push (told_cost price nodes) told l)
  told_pays c n me (Within x) true (Some h) areas told l at dear p = omega (arith, p, dear, sum_by_push (told_cost price nodes) told l)
  told_pays c n me Outside started header areas told l (inl e) dear p = absurd (cc e)
  told_pays c n me Outside started header areas told l (inr e) dear p = absurd (cc e)
  told_pays c n me Opened started header areas told l (inl e) dear p = absurd (cc e)
  told_pays c n me Opened started header areas told l (inr e) dear p = absurd (cc e)
  told_pays c n me place started header areas told l at dear p = absurd p

  within_pays : (c n me : ℕ) (place : Place) (started : Bool) (header : Option Header) (areas : List ℕ) (told : List ToldLine) → (place ≡ Begun me) ⊎ (place ≡ Within me)
      → PaysAs c place started header areas told → PaysAs (c + price n) (Within me) started header areas told
  within_pays c n me (Begun x) true (Some h) areas told at p = omega (arith, p)
  within_pays c n me (Within x) true (Some h) areas told at p = omega (arith, p)
  within_pays c n me Outside started header areas told (inl e) p = absurd (cc e)
  within_pays c n me Outside started header areas told (inr e) p = absurd (cc e)
  within_pays c n me Opened started header areas told (inl e) p = absurd (cc e)
  within_pays c n me Opened started header areas told (inr e) p = absurd (cc e)
  within_pays c n me place started header areas told at p = absurd p

  told_paid : (c me i : ℕ) (r : Reading) (word : List ℕ) (fields : List (List ℕ)) (t : Reading) → (r.place ≡ Begun me) ⊎ (r.place ≡ Within me) → PaidFor c r → after_told r me i word fields ≡ Ok t → PaidFor (c + price (total (word ∷ fields))) t
  told_paid c me i r word fields t at p e =
      steps (told_in (nodes_of r.header) me word fields) _ _ e λ told is_told end.
      let n = total (word ∷ fields) in
      let l : ToldLine = record { number = i; node = me; told = told } in
      let same : tells (record r { place = Within me }) i me told ≡ t = cc end in
      let costs = told_cheap price more nodes (nodes_of r.header) p.few me word fields told is_told in
      subst (PaidFor (c + price n)) same (record {
        pays = told_pays c n me r.place r.started r.header r.areas r.lines l at costs.cost p.pays;
        bytes = all_push LineOfBytes r.lines l p.bytes costs.bytes;
        few = p.few;
      })

  inside_paid : (c me i : ℕ) (r : Reading) (word : List ℕ) (fields : List (List ℕ)) (t : Reading) → (r.place ≡ Begun me) ⊎ (r.place ≡ Within me) → PaidFor c r → after_inside r me i word fields ≡ Ok t
      → PaidFor (c + price (total (word ∷ fields))) t
  inside_paid c me i r word fields t at p e = elim (chosen (is_note word) _ _ _ e) [
    | inl note ↦
        let same : record r { place = Within me } ≡ t = cc note.1 in
        subst (PaidFor (c + price (total (word ∷ fields)))) same
        (record { pays = within_pays c (total (word ∷ fields)) me r.place r.started r.header r.areas r.lines at p.pays; bytes = p.bytes; few = p.few })
    | inr other ↦ elim (chosen (bytes_eq word (codes "overcast")) _ _ _ other.1) [
      | inl header ↦ header_paid c r (word ∷ fields) t p header.1
      | inr told ↦ told_paid c me i r word fields t at p told.1
    ]
  ]

  opening_paid : (c i : ℕ) (r : Reading) (word : List ℕ) (fields : List (List ℕ)) (t : Reading) → r.place ≡ Opened → PaidFor c r → after_opening r i word fields ≡ Ok t → PaidFor (c + price (total (word ∷ fields))) t
  opening_paid c i r word fields t at p e = elim (chosen (bytes_eq word (codes "overcast")) _ _ _ e) [
    | inl header ↦ header_paid c r (word ∷ fields) t p (said (λ why. Said why) (after_header r (word ∷ fields)) t header.1)
    | inr next ↦ elim (chosen (bytes_eq word (codes "area")) _ _ _ next.1) [
      | inl area ↦ area_paid c r word fields t at (same_length word (codes "area") area.0) p (said (λ why. Said why) (after_area r fields) t area.1)
      | inr up ↦
          let is = within_guard (bytes_eq word (codes "up")) (Said causes.Word) (after_up r i fields) t up.1 in
          up_paid c i r word fields t at (same_length word (codes "up") is.0) p is.1
    ]
  ]

  words_paid : (c i : ℕ) (r : Reading) (word : List ℕ) (fields : List (List ℕ)) (t : Reading) (place : Place) → r.place ≡ place → PaidFor c r → after_words place r i word fields ≡ Ok t → PaidFor (c + price (total (word ∷ fields))) t
  words_paid c i r word fields t Outside at p e = header_paid c r (word ∷ fields) t p (said (λ why. Said why) (after_header r (word ∷ fields)) t e)
  words_paid c i r word fields t Opened at p e = opening_paid c i r word fields t at p e
  words_paid c i r word fields t (Begun me) at p e = inside_paid c me i r word fields t (inl at) p (said (λ why. Said why) (after_inside r me i word fields) t e)
  words_paid c i r word fields t (Within me) at p e = inside_paid c me i r word fields t (inr at) p (said (λ why. Said why) (after_inside r me i word fields) t e)

  -- Comments

  digits_cost : (digits : List ℕ) (l : ToldLine) (t : Told) → entry_cost price l.node (entry_of nodes (with_digits digits t)) ≡ entry_cost price l.node (entry_of nodes t)
  digits_cost digits l (Started files) = refl
  digits_cost digits l (Came bytes) = refl
  digits_cost digits l (Took i) = refl

  files_cost : (digits : List ℕ) (ls : List ToldLine) → told_costs price nodes (with_files digits ls) ≡ told_costs price nodes ls
  files_cost digits [] = refl
  files_cost digits (l ∷ []) =
      let l_with : ToldLine = record l { told = with_digits digits l.told } in
      omega (arith, sum_by-cons (told_cost price nodes) l_with [], sum_by-cons (told_cost price nodes) l [], digits_cost digits l l.told)
  files_cost digits (l ∷ k ∷ ks) =
      omega (arith, sum_by-cons (told_cost price nodes) l (with_files digits (k ∷ ks)), sum_by-cons (told_cost price nodes) l (k ∷ ks), files_cost digits (k ∷ ks))

  digits_bytes : (digits : List ℕ) (x : ℕ) (t : Told) → IsOfBytes x t → IsOfBytes x (with_digits digits t)
  digits_bytes digits x (Started files) is = tt
  digits_bytes digits x (Came bytes) is = tt
  digits_bytes digits x (Took i) is = is

  files_bytes : (digits : List ℕ) (ls : List ToldLine) → AllByRecursion LineOfBytes ls → AllByRecursion LineOfBytes (with_files digits ls)
  files_bytes digits [] all = tt
  files_bytes digits (l ∷ []) all = (digits_bytes digits l.node l.told all.0, tt)
  files_bytes digits (l ∷ k ∷ ks) all = (all.0, files_bytes digits (k ∷ ks) all.1)

  files_pay : (c me : ℕ) (started : Bool) (header : Option Header) (areas : List ℕ) (told other : List ToldLine) → told_costs price nodes other ≡ told_costs price nodes told → PaysAs c (Begun me) started header areas told → PaysAs c (Within me) started header areas other
  files_pay c me true (Some h) areas told other same p = omega (arith, p, same)
  files_pay c me true None areas told other same p = absurd p
  files_pay c me false header areas told other same p = absurd p

  files_paid : (c me : ℕ) (r : Reading) (files : Option (List ℕ)) → r.place ≡ Begun me → PaidFor c r → PaidFor c (after_files r me files)
  files_paid c me r None at p = p
  files_paid c me r (Some digits) at p =
      let before : PaysAs c (Begun me) r.started r.header r.areas r.lines = subst (λ (q : Place). PaysAs c q r.started r.header r.areas r.lines) at p.pays in
      record { pays = files_pay c me r.started r.header r.areas r.lines (with_files digits r.lines) (files_cost digits r.lines) before; bytes = files_bytes digits r.lines p.bytes; few = p.few }

  comment_paid : (c : ℕ) (r : Reading) (line : List ℕ) (place : Place) → r.place ≡ place → PaidFor c r → PaidFor c (after_comment place r line)
  comment_paid c r line (Begun me) at p = files_paid c me r (files_in me line) at p
  comment_paid c r line Outside at p = p
  comment_paid c r line Opened at p = p
  comment_paid c r line (Within me) at p = p

  -- A line of a text

  statement_paid : (c i : ℕ) (r : Reading) (word : List ℕ) (fields : List (List ℕ)) (t : Reading) → PaidFor c r → read_statement i r word fields ≡ Ok t → PaidFor (c + price (total (word ∷ fields))) t
  statement_paid c i r word fields t p e =
      steps (at_line i (after_words r.place r i word fields)) _ _ e λ s is_said then.
      let is = behind_guard (nat_lt MAX_RECORD_PUBLISHED (published_in s.lines)) (Limit limits.Published) (Ok s) t then in
      let same : s ≡ t = cc is.1 in
      subst (PaidFor (c + price (total (word ∷ fields)))) same (words_paid c i r word fields s r.place refl p (said (λ cause. Line i cause) (after_words r.place r i word fields) s is_said))

  line_words_paid : (c i : ℕ) (r : Reading) (line : List ℕ) (ws : List (List ℕ)) (t : Reading) → PaidFor c r → read_words i r line ws ≡ Ok t → PaidFor (c + price (total ws)) t
  line_words_paid c i r line [] t p e = let same : r ≡ t = cc e in subst (PaidFor (c + price 0)) same (paid_later price nodes c (c + price 0) r (omega arith) p)
  line_words_paid c i r line (word ∷ fields) t p e = elim (chosen (is_comment word) _ _ _ e) [
    | inl comment ↦
        let n = price (total (word ∷ fields)) in
        let same : after_comment r.place r line ≡ t = cc comment.1 in
        subst (PaidFor (c + n)) same (paid_later price nodes c (c + n) (after_comment r.place r line) (omega arith) (comment_paid c r line r.place refl p))
    | inr statement ↦ statement_paid c i r word fields t p statement.1
  ]

  line_paid : (c i : ℕ) (whole : Bool) (r : Reading) (line : List ℕ) (t : Reading) → PaidFor c r → read_line i whole r line ≡ Ok t → PaidFor (c + cost price whole line) t
  line_paid c i whole r line t p e =
      let few = behind_guard (nat_lt MAX_RECORD_LINES i) (Limit limits.Lines) (cond (not whole || is_cut_off line) (Ok r) (read_words i r line (words line))) t e in
      by_test whole few.1 where
        by_test : (b : Bool) → cond (not b || is_cut_off line) (Ok r) (read_words i r line (words line)) ≡ Ok t → PaidFor (c + cost price b line) t
        by_test false h = let same : r ≡ t = cc h in subst (PaidFor (c + 0)) same (paid_later price nodes c (c + 0) r (omega arith) p)
        by_test true h = elim (chosen (is_cut_off line) _ _ _ h) [
          | inl cut ↦ let same : r ≡ t = cc cut.1 in subst (PaidFor (c + cost price true line)) same (paid_later price nodes c (c + cost price true line) r (omega arith) p)
          | inr read ↦
              paid_later price nodes (c + price (total (words line))) (c + cost price true line) t (omega (arith, more (total (words line)) (suc (length line)) (words_total line)))
              (line_words_paid c i r line (words line) t p read.1)
        ]

  -- All lines

  -- the records read cost no more, except for one crash
  pub record Costly (c : ℕ) (found : Records) : Type 0 where
    pub cost : opening_cost price nodes found.header + (told_costs price nodes found.lines - price crash_bytes) ≤ c
    pub bytes : AllByRecursion LineOfBytes found.lines

  end_costs : (c : ℕ) (place : Place) (started : Bool) (h : Header) (areas : List ℕ) (told : List ToldLine) → PaysAs c place started (Some h) areas told → opening_cost price nodes h + (told_costs price nodes told - price crash_bytes) ≤ c
  end_costs c Opened false h areas told p = omega (arith, p.0, p.1, p.2)
  end_costs c Opened true h areas told p = omega (arith, p)
  end_costs c (Begun me) true h areas told p = p
  end_costs c (Within me) true h areas told p = p
  end_costs c Outside true h areas told p = absurd p
  end_costs c Outside false h areas told p = absurd p
  end_costs c (Begun me) false h areas told p = absurd p
  end_costs c (Within me) false h areas told p = absurd p

  at_end : (c i : ℕ) (place : Place) (started : Bool) (header : Option Header) (areas : List ℕ) (told : List ToldLine) (found : Records) → PaysAs c place started header areas told → AllByRecursion LineOfBytes told
      → records_at_end i header told ≡ Ok found → Costly c found
  at_end c i place started None areas told found p bytes e = absurd (cc e)
  at_end c i place started (Some h) areas told found p bytes e =
      let same : record { header = h; lines = told } ≡ found = cc e in
      subst (Costly c) same (record { cost = end_costs c place started h areas told p; bytes = bytes })

  lines_paid : (c i : ℕ) (ended : Bool) (r : Reading) (ls : List (List ℕ)) (found : Records) → PaidFor c r → read_lines i ended r ls ≡ Ok found → Costly (c + spent price ended ls) found
  lines_paid c i ended r [] found p e = at_end (c + 0) i r.place r.started r.header r.areas r.lines found (paid_later price nodes c (c + 0) r (omega arith) p).pays p.bytes e
  lines_paid c i ended r (line ∷ rest) found p e =
      steps (read_line i (ended || not (is_none rest)) r line) _ _ e λ next is_next then.
      let whole = ended || not (is_none rest) in
      let paid = line_paid c i whole r line next p is_next in
      let all = lines_paid (c + cost price whole line) (i + 1) ended next rest found paid then in
      subst (λ (n : ℕ). Costly n found) (omega arith) all

  pub read_costs : (ended : Bool) (ls : List (List ℕ)) (found : Records) → read_lines 1 ended nothing_read ls ≡ Ok found → Costly (spent price ended ls) found
  read_costs ended ls found e = subst (λ (n : ℕ). Costly n found) (omega arith) (lines_paid 0 1 ended nothing_read ls found (record { pays = refl; bytes = tt; few = omega arith }) e)
