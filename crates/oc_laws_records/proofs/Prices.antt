-- The cost of the text of a schedule. A price gives the cost of a line of this number of bytes: its
-- bytes, or one, if lines are counted.
use Rattle.std.proofs.Common.{◌≡◌, ℕ, zero, suc, ◌+◌, ◌<◌, ◌≤◌, ◌^◌, Bool, true, false, ◌==◌, if◌then◌else◌, List, [], ◌∷◌, ◌++◌, length, refl, ap, arith, codes, decimal, append_assoc, replicate, length-append}
use Rattle.std.specs.Prelude.{slice_set}
use Rattle.std.specs.List.{AllByRecursion}
use Rattle.std.specs.Str.Lines.{lines}
use Rattle.std.proofs.lemmas.Bool.{cond_both}
use Rattle.oc_base.specs.declared.limits.TheConstants.{MAX_AREA, USUAL_CHUNK_BYTES}
use Rattle.oc_model.specs.declared.event.Event.{Event}
use Rattle.oc_model.specs.Lawful.{IsHeader}
use Rattle.oc_model.specs.Node.{Header}
use Rattle.oc_schedule.proofs.FieldsBack.{decimal_word}
use Rattle.oc_schedule.proofs.LineBack.{AreWords, line_back}
use Rattle.oc_schedule.specs.Lines.{area_words, chunk_words, event_words, header_words}
use Rattle.oc_schedule.specs.Printing.{area_text, areas_text, events_text, script_text}
use Rattle.oc_schedule.specs.Script.{Script}
use Rattle.oc_schedule.specs.Texts.{fields_text, line_text, spaced}
use Rattle.oc_laws_records.proofs.Totals.{bytes_of, lines_of, total}

module _ (price : ℕ → ℕ) where
  abbrev pub words_cost : List (List ℕ) → ℕ
  words_cost ws = price (total ws)

  abbrev pub area_cost : ℕ → ℕ → ℕ
  area_cost x area = if area == 0 then 0 else words_cost (area_words x area)

  abbrev pub areas_cost : ℕ → List ℕ → ℕ
  areas_cost x [] = 0
  areas_cost x (area ∷ areas) = area_cost x area + areas_cost (x + 1) areas

  abbrev pub header_cost : Header → ℕ
  header_cost h = words_cost (header_words h.nodes h.chain h.chunk)

  abbrev pub events_cost : List Event → ℕ
  events_cost [] = 0
  events_cost (e ∷ es) = words_cost (event_words e) + events_cost es

  abbrev pub script_cost : Script → ℕ
  script_cost s = header_cost s.header + areas_cost 1 s.header.areas + events_cost s.events

  area_most : (x area : ℕ) → area_cost x area ≤ words_cost (area_words x area)
  area_most x area = by_test (area == 0) where
    by_test : (t : Bool) → (if t then 0 else words_cost (area_words x area)) ≤ words_cost (area_words x area)
    by_test true = omega arith
    by_test false = omega arith

  -- a further area costs no more than its line
  pub set_cost : (x i y area : ℕ) (areas : List ℕ) → y ≡ x + i → areas_cost x (slice_set areas i area) ≤ areas_cost x areas + words_cost (area_words y area)
  set_cost x i y area [] at = omega arith
  set_cost x zero y area (b ∷ areas) at =
      let here : x ≡ y = omega (arith, at) in
      let same : words_cost (area_words x area) ≡ words_cost (area_words y area) = ap (λ (z : ℕ). words_cost (area_words z area)) here in
      omega (arith, area_most x area, same)
  set_cost x (suc i) y area (b ∷ areas) at = omega (arith, set_cost (x + 1) i y area areas (omega (arith, at)))

  pub zeros_cost : (x n : ℕ) → areas_cost x (replicate n 0) ≡ 0
  zeros_cost x zero = refl
  zeros_cost x (suc n) = omega (arith, zeros_cost (x + 1) n)

  pub events-append : (es more : List Event) → events_cost (es ++ more) ≡ events_cost es + events_cost more
  events-append [] more = omega arith
  events-append (e ∷ es) more = omega (arith, events-append es more)

-- Prices in bytes

fields_length : (ws : List (List ℕ)) → length (fields_text ws) ≡ total ws
fields_length [] = refl
fields_length (w ∷ ws) = omega (arith, length-append (codes " " ++ w) (fields_text ws), length-append (codes " ") w, fields_length ws)

line_length : (w : List ℕ) (ws : List (List ℕ)) → length (line_text (w ∷ ws)) ≡ total (w ∷ ws)
line_length w ws = omega (arith, length-append (spaced (w ∷ ws)) (codes "\n"), length-append w (fields_text ws), fields_length ws)

words_length : (ws : List (List ℕ)) → 0 < total ws → length (line_text ws) ≡ total ws
words_length [] some = absurd (omega (arith, some))
words_length (w ∷ ws) some = line_length w ws

area_length : (x area : ℕ) → length (area_text x area) ≡ area_cost bytes_of x area
area_length x area = by_test (area == 0) where
  by_test : (t : Bool) → length (if t then [] else line_text (area_words x area)) ≡ (if t then 0 else total (area_words x area))
  by_test true = refl
  by_test false = line_length (codes "area") (decimal x ∷ decimal area ∷ [])

areas_length : (x : ℕ) (areas : List ℕ) → length (areas_text x areas) ≡ areas_cost bytes_of x areas
areas_length x [] = refl
areas_length x (area ∷ areas) = omega (arith, length-append (area_text x area) (areas_text (x + 1) areas), area_length x area, areas_length (x + 1) areas)

event_length : (e : Event) → length (line_text (event_words e)) ≡ total (event_words e)
event_length e = words_length (event_words e) (omega arith)

events_length : (es : List Event) → length (events_text es) ≡ events_cost bytes_of es
events_length [] = refl
events_length (e ∷ es) = omega (arith, length-append (line_text (event_words e)) (events_text es), event_length e, events_length es)

pub script_bytes : (s : Script) → length (script_text s) ≡ script_cost bytes_of s
script_bytes s =
    let words = header_words s.header.nodes s.header.chain s.header.chunk in
    let header : List ℕ = line_text words in
    let header_is : length header ≡ total words = words_length words (omega arith) in
    let areas = areas_text 1 s.header.areas in
    omega (arith, length-append (header ++ areas) (events_text s.events), length-append header areas, header_is, areas_length 1 s.header.areas, events_length s.events)

-- Prices in lines

abbrev pub ArePrinted : List Event → Type 0
ArePrinted es = AllByRecursion (λ e. AreWords (event_words e)) es

line_count : (ws : List (List ℕ)) (rest : List ℕ) → AreWords ws → length (lines (line_text ws ++ rest)) ≡ 1 + length (lines rest)
line_count ws rest are = let e = ap length (line_back ws rest are) in omega (arith, e)

events_count : (es : List Event) → ArePrinted es → length (lines (events_text es)) ≡ events_cost lines_of es
events_count [] all = refl
events_count (e ∷ es) all = omega (arith, line_count (event_words e) (events_text es) all.0, events_count es all.1)

area_count : (x area : ℕ) (rest : List ℕ) → x < 2 ^ 64 → area ≤ MAX_AREA → length (lines (area_text x area ++ rest)) ≡ area_cost lines_of x area + length (lines rest)
area_count x area rest small fits = by_test (area == 0) where
  are : AreWords (area_words x area)
  are = (refl, (decimal_word x small, (decimal_word area (omega (arith, fits)), tt)))

  by_test : (t : Bool) → length (lines ((if t then [] else line_text (area_words x area)) ++ rest)) ≡ (if t then 0 else 1) + length (lines rest)
  by_test true = omega arith
  by_test false = line_count (area_words x area) rest are

areas_count : (x : ℕ) (areas rest : List ℕ) → x + length areas < 2 ^ 64 → AllByRecursion (λ a. a ≤ MAX_AREA) areas → length (lines (areas_text x areas ++ rest)) ≡ areas_cost lines_of x areas + length (lines rest)
areas_count x [] rest small all = omega arith
areas_count x (area ∷ areas) rest small all =
    let parts = ap (λ (t : List ℕ). length (lines t)) (append_assoc (area_text x area) (areas_text (x + 1) areas) rest) in
    omega (arith, parts, area_count x area (areas_text (x + 1) areas ++ rest) (omega (arith, small)) all.0, areas_count (x + 1) areas rest (omega (arith, small)) all.1)

header_are_words : (h : Header) → IsHeader h → AreWords (header_words h.nodes h.chain h.chunk)
header_are_words h is = (refl, (refl, (refl, (decimal_word h.nodes (omega (arith, is.few)), (refl, (decimal_word h.chain (omega (arith, is.short)), chunk)))))) where
  chunk : AreWords (chunk_words h.chunk)
  chunk = cond_both (h.chunk == USUAL_CHUNK_BYTES) [] (codes "chunk" ∷ decimal h.chunk ∷ []) AreWords (λ _. tt) (λ _. (refl, (decimal_word h.chunk (omega (arith, is.fits)), tt)))

pub script_lines : (s : Script) → IsHeader s.header → ArePrinted s.events → length (lines (script_text s)) ≡ script_cost lines_of s
script_lines s is all =
    let header = header_words s.header.nodes s.header.chain s.header.chunk in
    let rest = areas_text 1 s.header.areas ++ events_text s.events in
    let parts = ap (λ (t : List ℕ). length (lines t)) (append_assoc (line_text header) (areas_text 1 s.header.areas) (events_text s.events)) in
    omega (
      arith,
      parts,
      line_count header rest (header_are_words s.header is),
      areas_count 1 s.header.areas (events_text s.events) (omega (arith, is.areas, is.few)) is.bytes,
      events_count s.events all,
    )
