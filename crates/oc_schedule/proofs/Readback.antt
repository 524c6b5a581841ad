-- Printed schedules: each is read as the same schedule.
use Rattle.std.proofs.Common.{◌≡◌, ℕ, zero, suc, ◌+◌, ◌-◌, ◌^◌, ◌<◌, ◌≤◌, Bool, true, false, cond, ◌&&◌, ◌==◌, nat_lt, min, Option, Some, None, Ok, Err, List, [], ◌∷◌, ◌++◌, length, refl, ap, sym, ◌∙◌, arith, codes, decimal, append_assoc, replicate, length-append}
use Rattle.std.specs.List.{AllByRecursion}
use Rattle.std.specs.Str.Lines.{lines}
use Rattle.std.proofs.lemmas.Bool.{cond_both, eqb-true, le-ltb}
use Rattle.std.proofs.lemmas.Bool.Decides.{nat_tests}
use Rattle.std.proofs.lemmas.List.{append-nil, set_at}
use Rattle.std.proofs.lemmas.List.Sums.{sum_by-append}
use Rattle.oc_base.specs.Steps.{◌>>=◌, with_fault}
use Rattle.oc_base.specs.Words.{node_in, number_in, words}
use Rattle.oc_base.specs.declared.limits.TheConstants.{MAX_AREA, MAX_CHAIN, MAX_CHUNK_BYTES, MAX_NODES, MAX_PUBLISH_BYTES, MAX_SCHEDULE_SETTLES, USUAL_CHUNK_BYTES}
use Rattle.oc_base.specs.declared.why.Why.TheVariants as causes
use Rattle.oc_model.specs.declared.event.Act.{Act}
use Rattle.oc_model.specs.declared.event.Act.TheVariants.{At, Deliver}
use Rattle.oc_model.specs.declared.event.Event.{Event}
use Rattle.oc_model.specs.declared.event.Event.TheVariants as events
use Rattle.oc_model.specs.declared.input.Input.TheVariants as inputs
use Rattle.oc_model.specs.Lawful.{IsAct, IsEvent}
use Rattle.oc_schedule.proofs.ActsBack.{node_back, node_word, then}
use Rattle.oc_schedule.proofs.EventsBack.{event_are_words, event_back, event_is_no_other}
use Rattle.oc_schedule.proofs.FieldsBack.{decimal_word, number_back}
use Rattle.oc_schedule.proofs.LineBack.{AreWords, line_back, words_back}
use Rattle.oc_schedule.proofs.WithinLimits.{limits_back}
use Rattle.oc_schedule.specs.declared.fault.ScheduleFault.TheVariants.{Limit}
use Rattle.oc_schedule.specs.declared.fault.What.TheVariants as limits
use Rattle.oc_schedule.specs.declared.scale.Scale.{Scale}
use Rattle.oc_schedule.specs.declared.scale.Scale.TheVariants.{Usual, Large}
use Rattle.oc_schedule.specs.Limits.{most_of}
use Rattle.oc_schedule.specs.Acts.{bytes_of_act, most_byte}
use Rattle.oc_schedule.specs.Lines.{area_in, area_words, event_fields, event_in, event_word, event_words, chunk_in, chunk_words, header_words, opening_in, sizes_in, header_without_areas}
use Rattle.oc_schedule.specs.Texts.{line_text, spaced}
use Rattle.oc_schedule.specs.Printing.{IsOfBytes, IsPrintable, area_lines, areas_text, events_text, script_text}
use Rattle.oc_schedule.specs.Reading.{at_line}
use Rattle.oc_schedule.specs.Schedule.{after_area, after_event, event_in_range, is_comment, read_line, read_lines, read_statement, read_words, schedule_of, script_after, with_event, within_limits}
use Rattle.oc_schedule.specs.Script.{Script, published_by, published_in, settles_by, settles_in}

-- One line

-- a line of these words is read as this script, if it is no comment and the script passes no limit
line_read : (scale : Scale) (i : ℕ) (so_far : Option Script) (w : List ℕ) (ws : List (List ℕ)) (s : Script) → i ≤ most_of scale limits.Lines → AreWords (w ∷ ws) → is_comment w ≡ false →
    script_after scale so_far w ws ≡ Ok s → within_limits scale s ≡ Ok s → read_line scale i so_far (spaced (w ∷ ws)) ≡ Ok (Some s)
line_read scale i so_far w ws s few are plain says within =
    let no_more : nat_lt (most_of scale limits.Lines) i ≡ false = le-ltb _ _ few in
    ap (λ b. cond b (Err (Limit limits.Lines)) (read_words scale i so_far (words (spaced (w ∷ ws))))) no_more
    ∙ ap (read_words scale i so_far) (words_back w ws are)
    ∙ ap (λ b. cond b (Ok so_far) (read_statement scale i so_far w ws >>= λ t. Ok (Some t))) plain
    ∙ ap (λ r. (at_line i r >>= λ t. within_limits scale t) >>= λ t. Ok (Some t)) says
    ∙ ap (λ r. r >>= λ t. Ok (Some t)) within

-- Events

-- an act within its ranges publishes no more than one publish may
act_publishes : (nodes : ℕ) (act : Act) → IsAct nodes act → bytes_of_act act ≤ MAX_PUBLISH_BYTES
act_publishes nodes (At x (inputs.Publish g bs)) h = h.1.1
act_publishes nodes (At x (inputs.Tick t)) h = omega arith
act_publishes nodes (At x inputs.CheckNow) h = omega arith
act_publishes nodes (At x (inputs.Relocate p)) h = omega arith
act_publishes nodes (At x (inputs.Unreachable p)) h = omega arith
act_publishes nodes (At x (inputs.Pull p)) h = omega arith
act_publishes nodes (At x (inputs.Measured p rate hops)) h = omega arith
act_publishes nodes (At x (inputs.Seal g)) h = omega arith
act_publishes nodes (At x (inputs.Client area start g)) h = omega arith
act_publishes nodes (At x (inputs.Delivered m)) h = omega arith
act_publishes nodes (Deliver k) h = omega arith

event_publishes : (nodes : ℕ) (e : Event) → IsEvent nodes e → published_by e ≤ MAX_PUBLISH_BYTES
event_publishes nodes (events.Do act) h = act_publishes nodes act h
event_publishes nodes (events.Stop calls image act) h = act_publishes nodes act h.2
event_publishes nodes (events.Up x) h = omega arith
event_publishes nodes (events.Crash x) h = omega arith
event_publishes nodes (events.Held x) h = omega arith
event_publishes nodes (events.Show x) h = omega arith
event_publishes nodes events.Settle h = omega arith
event_publishes nodes events.Heal h = omega arith

-- an event within its ranges is refused at no scale
in_range_back : (scale : Scale) (s : Script) (e : Event) → published_by e ≤ MAX_PUBLISH_BYTES → event_in_range scale s e ≡ Ok (with_event s e)
in_range_back Usual s e few = refl
in_range_back Large s e few =
    let within : nat_lt MAX_PUBLISH_BYTES (published_by e) ≡ false = le-ltb _ _ few in
    ap (λ b. cond b (Err causes.Range) (Ok (with_event s e))) within

event_says : (scale : Scale) (s : Script) (e : Event) → s.header.nodes ≤ MAX_NODES → IsEvent s.header.nodes e → IsOfBytes e → script_after scale (Some s) (event_word e) (event_fields e) ≡ Ok (with_event s e)
event_says scale s e few lawful bytes =
    ap (λ b. cond (b && length s.events == 0) (after_area s (event_fields e)) (after_event scale s (event_word e) (event_fields e))) (event_is_no_other e).1
    ∙ then (event_in s.header.nodes (event_word e) (event_fields e)) _ e _ (event_back s.header.nodes e few lawful bytes) (in_range_back scale s e (event_publishes s.header.nodes e lawful))

events_read : (scale : Scale) (i : ℕ) (s : Script) (es : List Event) → s.header.nodes ≤ MAX_NODES → AllByRecursion (IsEvent s.header.nodes) es → AllByRecursion IsOfBytes es →
    i + length es ≤ most_of scale limits.Lines + 1 → published_in (s.events ++ es) ≤ most_of scale limits.Published → settles_in (s.events ++ es) ≤ MAX_SCHEDULE_SETTLES →
    read_lines scale i (Some s) (lines (events_text es)) ≡ Ok (record s { events = s.events ++ es })
events_read scale i s [] few lawful bytes short published settles = ap (λ events. Ok (record s { events = events })) (sym (append-nil s.events))
events_read scale i s (e ∷ es) few lawful bytes short published settles =
    let regrouped : (s.events ++ e ∷ []) ++ es ≡ s.events ++ e ∷ es = append_assoc s.events (e ∷ []) es in
    let published_more : published_in ((s.events ++ e ∷ []) ++ es) ≤ most_of scale limits.Published = rw regrouped published in
    let settles_more : settles_in ((s.events ++ e ∷ []) ++ es) ≤ MAX_SCHEDULE_SETTLES = rw regrouped settles in
    let published_parts = sum_by-append published_by (s.events ++ e ∷ []) es in
    let settles_parts = sum_by-append settles_by (s.events ++ e ∷ []) es in
    let within = limits_back scale (with_event s e) (omega (arith, published_more, published_parts)) (omega (arith, settles_more, settles_parts)) in
    let first = line_read scale i (Some s) (event_word e) (event_fields e) (with_event s e) (omega (arith, short)) (event_are_words s.header.nodes e few lawful.0 bytes.0) (event_is_no_other e).0
    (event_says scale s e few lawful.0 bytes.0) within in
    ap (read_lines scale i (Some s)) (line_back (event_words e) (events_text es) (event_are_words s.header.nodes e few lawful.0 bytes.0))
    ∙ ap (λ r. r >>= λ next. read_lines scale (i + 1) next (lines (events_text es))) first
    ∙ events_read scale (i + 1) (with_event s e) es few lawful.1 bytes.1 (omega (arith, short)) published_more settles_more
    ∙ ap (λ events. Ok (record s { events = events })) regrouped

-- Areas

-- the script of a schedule before its events
abbrev opened : ℕ → ℕ → ℕ → List ℕ → Script
opened nodes chain chunk areas = record { header = record { nodes = nodes; chain = chain; chunk = chunk; areas = areas }; events = [] }

area_are_words : (nodes x a : ℕ) → nodes ≤ MAX_NODES → (1 ≤ x) × (x ≤ nodes) → a ≤ MAX_AREA → AreWords (area_words x a)
area_are_words nodes x a few node small = (refl, ((node_word nodes x few node).0, (decimal_word a (omega (arith, small)), tt)))

pub area_back : (nodes x a : ℕ) → nodes ≤ MAX_NODES → (1 ≤ x) × (x ≤ nodes) → a ≤ MAX_AREA → area_in nodes (decimal x ∷ decimal a ∷ []) ≡ Ok (x, a)
area_back nodes x a few node small =
    then (node_in nodes (decimal x)) _ x _ (node_back nodes x few node)
    (then (number_in 0 most_byte (decimal a)) _ a _ (number_back 0 most_byte a (omega (arith, small)) (omega arith) small) refl)

-- an area line sets the area of its node
area_says : (scale : Scale) (nodes chain chunk x a : ℕ) (front behind : List ℕ) → nodes ≤ MAX_NODES → (1 ≤ x) × (x ≤ nodes) → a ≤ MAX_AREA → length front + 1 ≡ x →
    script_after scale (Some (opened nodes chain chunk (front ++ 0 ∷ behind))) (codes "area") (decimal x ∷ decimal a ∷ []) ≡ Ok (opened nodes chain chunk (front ++ a ∷ behind))
area_says scale nodes chain chunk x a front behind few node small at =
    then (area_in nodes (decimal x ∷ decimal a ∷ [])) _ (x, a) _ (area_back nodes x a few node small)
    (ap (λ areas. Ok (opened nodes chain chunk areas)) (set_at front 0 behind a (x - 1) (omega (arith, at))))

areas_read : (scale : Scale) (i x nodes chain chunk : ℕ) (front areas : List ℕ) (rest : List ℕ) → nodes ≤ MAX_NODES → length front + 1 ≡ x → length front + length areas ≤ nodes →
    AllByRecursion (λ area. area ≤ MAX_AREA) areas → i + area_lines areas ≤ most_of scale limits.Lines + 1 →
    read_lines scale i (Some (opened nodes chain chunk (front ++ replicate (length areas) 0))) (lines (areas_text x areas ++ rest))
    ≡ read_lines scale (i + area_lines areas) (Some (opened nodes chain chunk (front ++ areas))) (lines rest)
areas_read scale i x nodes chain chunk front [] rest few at within small short =
    let same : i ≡ i + 0 = omega arith in
    ap (λ n. read_lines scale n (Some (opened nodes chain chunk (front ++ []))) (lines rest)) same
areas_read scale i x nodes chain chunk front (zero ∷ areas) rest few at within small short =
    let longer = length-append front (0 ∷ []) in
    ap (λ l. read_lines scale i (Some (opened nodes chain chunk l)) (lines (areas_text (x + 1) areas ++ rest))) (sym (append_assoc front (0 ∷ []) (replicate (length areas) 0)))
    ∙ areas_read scale i (x + 1) nodes chain chunk (front ++ 0 ∷ []) areas rest few (omega (arith, at, longer)) (omega (arith, within, longer)) small.1 short
    ∙ ap (λ l. read_lines scale (i + area_lines areas) (Some (opened nodes chain chunk l)) (lines rest)) (append_assoc front (0 ∷ []) areas)
areas_read scale i x nodes chain chunk front (suc a ∷ areas) rest few at within small short =
    let longer = length-append front (suc a ∷ []) in
    let other : (suc a == 0) ≡ false = grind (arith, nat_tests) in
    let one_more : area_lines (suc a ∷ areas) ≡ area_lines areas + 1 = ap (λ b. cond b (area_lines areas) (area_lines areas + 1)) other in
    let node : (1 ≤ x) × (x ≤ nodes) = (omega (arith, at), omega (arith, at, within)) in
    let zeros = replicate (length areas) 0 in
    let are = area_are_words nodes x (suc a) few node small.0 in
    let first = line_read scale i (Some (opened nodes chain chunk (front ++ 0 ∷ zeros))) (codes "area") (decimal x ∷ decimal (suc a) ∷ []) (opened nodes chain chunk (front ++ suc a ∷ zeros)) (omega (arith, short, one_more)) are refl
    (area_says scale nodes chain chunk x (suc a) front zeros few node small.0 at) (limits_back scale (opened nodes chain chunk (front ++ suc a ∷ zeros)) (omega arith) (omega arith)) in
    let count : (i + 1) + area_lines areas ≡ i + area_lines (suc a ∷ areas) = omega (arith, one_more) in
    ap (λ b. read_lines scale i (Some (opened nodes chain chunk (front ++ 0 ∷ zeros))) (lines ((cond b [] (line_text (area_words x (suc a))) ++ areas_text (x + 1) areas) ++ rest))) other
    ∙ ap (λ t. read_lines scale i (Some (opened nodes chain chunk (front ++ 0 ∷ zeros))) (lines t)) (append_assoc (line_text (area_words x (suc a))) (areas_text (x + 1) areas) rest)
    ∙ ap (read_lines scale i (Some (opened nodes chain chunk (front ++ 0 ∷ zeros)))) (line_back (area_words x (suc a)) (areas_text (x + 1) areas ++ rest) are)
    ∙ ap (λ r. r >>= λ next. read_lines scale (i + 1) next (lines (areas_text (x + 1) areas ++ rest))) first
    ∙ ap (λ l. read_lines scale (i + 1) (Some (opened nodes chain chunk l)) (lines (areas_text (x + 1) areas ++ rest))) (sym (append_assoc front (suc a ∷ []) zeros))
    ∙ areas_read scale (i + 1) (x + 1) nodes chain chunk (front ++ suc a ∷ []) areas rest few (omega (arith, at, longer)) (omega (arith, within, longer)) small.1 (omega (arith, short, one_more))
    ∙ ap (λ l. read_lines scale ((i + 1) + area_lines areas) (Some (opened nodes chain chunk l)) (lines rest)) (append_assoc front (suc a ∷ []) areas)
    ∙ ap (λ n. read_lines scale n (Some (opened nodes chain chunk (front ++ suc a ∷ areas))) (lines rest)) count

-- The header

pub sizes_back : (n c b : ℕ) → 1 ≤ n → n ≤ MAX_NODES → 1 ≤ c → c ≤ MAX_CHAIN → c ≤ n → sizes_in (decimal n) (decimal c) b ≡ Ok (record { nodes = n; chain = c; chunk = b })
sizes_back n c b some few one short within =
    then (number_in 1 MAX_NODES (decimal n)) _ n _ (number_back 1 MAX_NODES n (omega (arith, few)) some few)
    (then (number_in 1 (min MAX_CHAIN n) (decimal c)) _ c _ (number_back 1 (min MAX_CHAIN n) c (omega (arith, short)) one (omega (arith, short, within))) refl)

-- the number of a chunk, which is omitted where it is the usual one
pub chunk_back : (b : ℕ) → 1 ≤ b → b ≤ MAX_CHUNK_BYTES → chunk_in (chunk_words b) ≡ Ok b
chunk_back b some fits = by_test (b == USUAL_CHUNK_BYTES) refl where
  by_test : (t : Bool) → (b == USUAL_CHUNK_BYTES) ≡ t → chunk_in (cond t [] (codes "chunk" ∷ decimal b ∷ [])) ≡ Ok b
  by_test true e = ap Ok (sym (eqb-true b USUAL_CHUNK_BYTES e))
  by_test false e = number_back 1 MAX_CHUNK_BYTES b (omega (arith, fits)) some fits

chunk_are_words : (b : ℕ) → b < 2 ^ 64 → AreWords (chunk_words b)
chunk_are_words b fits = cond_both (b == USUAL_CHUNK_BYTES) [] (codes "chunk" ∷ decimal b ∷ []) AreWords (λ _. tt) (λ _. (refl, (decimal_word b fits, tt)))

header_are_words : (n c b : ℕ) → n < 2 ^ 64 → c < 2 ^ 64 → b < 2 ^ 64 → AreWords (header_words n c b)
header_are_words n c b small short fits = (refl, (refl, (refl, (decimal_word n small, (refl, (decimal_word c short, chunk_are_words b fits))))))

opening_back : (n c b : ℕ) → 1 ≤ n → n ≤ MAX_NODES → 1 ≤ c → c ≤ MAX_CHAIN → c ≤ n → 1 ≤ b → b ≤ MAX_CHUNK_BYTES →
    opening_in (header_words n c b) ≡ Ok (record { nodes = n; chain = c; chunk = b })
opening_back n c b some few one short within chunk fits = then (chunk_in (chunk_words b)) _ b _ (chunk_back b chunk fits) (sizes_back n c b some few one short within)

header_says : (scale : Scale) (n c b : ℕ) → 1 ≤ n → n ≤ MAX_NODES → 1 ≤ c → c ≤ MAX_CHAIN → c ≤ n → 1 ≤ b → b ≤ MAX_CHUNK_BYTES →
    script_after scale None (codes "overcast") (codes "1" ∷ codes "nodes" ∷ decimal n ∷ codes "chain" ∷ decimal c ∷ chunk_words b) ≡ Ok (opened n c b (replicate n 0))
header_says scale n c b some few one short within chunk fits =
    ap (λ opening. (with_fault causes.Header opening >>= λ sizes. Ok (header_without_areas sizes)) >>= λ header. Ok (record { header = header; events = [] }))
    (opening_back n c b some few one short within chunk fits)

-- The whole text

-- a text that is not too long is its lines
text_read : (scale : Scale) (text : List ℕ) → length text ≤ most_of scale limits.Bytes → schedule_of scale text ≡ read_lines scale 1 None (lines text)
text_read scale text short =
    let few : nat_lt (most_of scale limits.Bytes) (length text) ≡ false = le-ltb _ _ short in
    ap (λ b. cond b (Err (Limit limits.Bytes)) (read_lines scale 1 None (lines text))) few

pub read_back : (scale : Scale) (s : Script) → IsPrintable scale s → schedule_of scale (script_text s) ≡ Ok s
read_back scale s p =
    let h = p.lawful.header in
    let n = s.header.nodes in
    let c = s.header.chain in
    let b = s.header.chunk in
    let areas = s.header.areas in
    let behind = areas_text 1 areas ++ events_text s.events in
    let new = opened n c b (replicate n 0) in
    let are = header_are_words n c b (omega (arith, h.few)) (omega (arith, h.short)) (omega (arith, h.fits)) in
    let first = line_read scale 1 None (codes "overcast") (codes "1" ∷ codes "nodes" ∷ decimal n ∷ codes "chain" ∷ decimal c ∷ chunk_words b) new (omega (arith, p.lines)) are refl
    (header_says scale n c b h.some h.few h.chain h.short h.within h.chunk h.fits) (limits_back scale new (omega arith) (omega arith)) in
    text_read scale (script_text s) p.short
    ∙ ap (λ t. read_lines scale 1 None (lines t)) (append_assoc (line_text (header_words n c b)) (areas_text 1 areas) (events_text s.events))
    ∙ ap (read_lines scale 1 None) (line_back (header_words n c b) behind are)
    ∙ ap (λ r. r >>= λ next. read_lines scale 2 next (lines behind)) first
    ∙ ap (λ k. read_lines scale 2 (Some (opened n c b (replicate k 0))) (lines behind)) (sym h.areas)
    ∙ areas_read scale 2 1 n c b [] areas (events_text s.events) h.few refl (omega (arith, h.areas)) h.bytes (omega (arith, p.lines))
    ∙ events_read scale (2 + area_lines areas) (opened n c b areas) s.events h.few p.lawful.events p.bytes (omega (arith, p.lines)) p.lawful.published p.lawful.settles
