-- A schedule that is read: it is within the ranges and the limits.
use Rattle.std.proofs.Common.{◌≡◌, ℕ, ◌+◌, ◌-◌, ◌≤◌, false, ◌&&◌, ◌==◌, nat_lt, Option, Some, None, Result, Ok, Err, IfOk, List, [], ◌∷◌, ◌++◌, length, inl, inr, ◌∙◌, subst, arith, codes, length-append}
use Rattle.std.specs.List.{AllByRecursion}
use Rattle.std.specs.Str.{bytes_eq}
use Rattle.std.proofs.Math.ListN.{length-set}
use Rattle.std.proofs.lemmas.Bool.{ltb-false}
use Rattle.std.proofs.lemmas.List.Sums.{sum_by_push}
use Rattle.oc_base.specs.declared.why.Why.{Why}
use Rattle.oc_base.specs.declared.why.Why.TheVariants as causes
use Rattle.oc_model.specs.declared.event.Event.{Event}
use Rattle.oc_model.specs.Lawful.{IsHeader, IsEvent}
use Rattle.oc_schedule.proofs.Ranges.{area_range, event_range, header_range, set_keeps_areas}
use Rattle.oc_schedule.proofs.Steps.{steps, chosen, behind_guard}
use Rattle.oc_schedule.specs.declared.fault.ScheduleFault.TheVariants.{Limit}
use Rattle.oc_schedule.specs.declared.fault.ScheduleFault.{ScheduleFault}
use Rattle.oc_schedule.specs.declared.fault.What.TheVariants as limits
use Rattle.oc_schedule.specs.declared.scale.Scale.{Scale}
use Rattle.oc_schedule.specs.declared.scale.Scale.TheVariants.{Usual, Large}
use Rattle.oc_schedule.specs.Limits.{is_large, most_of}
use Rattle.oc_base.specs.Words.{words}
use Rattle.oc_base.specs.declared.limits.TheConstants.{MAX_PUBLISH_BYTES, MAX_SCHEDULE_SETTLES}
use Rattle.oc_schedule.specs.Lines.{header_in, area_in, event_in}
use Rattle.oc_schedule.specs.Reading.{Gives, at_line}
use Rattle.oc_schedule.specs.Schedule.{IsSchedule, after_area, after_event, is_comment, first_script, read_line, read_lines, read_statement, read_words, script_after, with_area, with_event}
use Rattle.oc_schedule.specs.Script.{Script, published_by, published_in, settles_in}

-- a script before the line of this number, which is not the first line
record IsBefore (scale : Scale) (i : ℕ) (s : Script) : Type 0 where
  header : IsHeader s.header
  events : AllByRecursion (IsEvent s.header.nodes) s.events
  few : length s.events + 2 ≤ i
  published : published_in s.events ≤ most_of scale limits.Published
  settles : settles_in s.events ≤ MAX_SCHEDULE_SETTLES

-- no script before this line, or such a script
abbrev AreBefore : Scale → ℕ → Option Script → Type 0
AreBefore scale i None = Unit {0}
AreBefore scale i (Some s) = IsBefore scale i s

-- a script after a line, before the limit on published bytes is tested
record IsSaid (scale : Scale) (i : ℕ) (s : Script) : Type 0 where
  header : IsHeader s.header
  events : published_in s.events ≤ most_of scale limits.Published → AllByRecursion (IsEvent s.header.nodes) s.events
  few : length s.events + 1 ≤ i

later : (scale : Scale) (i : ℕ) (so_far : Option Script) → AreBefore scale i so_far → AreBefore scale (i + 1) so_far
later scale i None before = tt
later scale i (Some s) before = record { header = before.header; events = before.events; few = omega (arith, before.few); published = before.published; settles = before.settles }

from_line : {A : Type 0} (i : ℕ) (r : Result A Why) (x : A) → at_line i r ≡ Ok x → r ≡ Ok x
from_line i (Ok y) x h = cc h
from_line i (Err why) x h = absurd (cc h)

all_push : (P : Event → Type 0) (events : List Event) (event : Event) → AllByRecursion P events → P event → AllByRecursion P (events ++ event ∷ [])
all_push P [] event all last = (last, all)
all_push P (e ∷ events) event all last = (all.0, all_push P events event all.1 last)

said_first : (scale : Scale) (i : ℕ) (ws : List (List ℕ)) (s : Script) → 1 ≤ i → first_script ws ≡ Ok s → IsSaid scale i s
said_first scale i ws s first h =
    steps (header_in ws) _ _ h λ header is_header end.
    let same : record { header = header; events = [] } ≡ s = cc end in
    subst (IsSaid scale i) same (record { header = header_range ws header is_header; events = λ few. tt; few = first })

said_area : (scale : Scale) (i : ℕ) (s : Script) (fields : List (List ℕ)) (t : Script) → IsBefore scale i s → after_area s fields ≡ Ok t → IsSaid scale i t
said_area scale i s fields t before h =
    steps (area_in s.header.nodes fields) _ _ h λ area is_area end.
    let same : with_area s area ≡ t = cc end in
    let old = before.header in
    let header : IsHeader (with_area s area).header = record {
      some = old.some;
      few = old.few;
      chain = old.chain;
      short = old.short;
      within = old.within;
      chunk = old.chunk;
      fits = old.fits;
      areas = length-set s.header.areas (area.0 - 1) area.1 ∙ old.areas;
      bytes = set_keeps_areas s.header.areas (area.0 - 1) area.1 old.bytes (area_range s.header.nodes fields area is_area).1;
    } in
    subst (IsSaid scale i) same (record { header = header; events = λ few. before.events; few = omega (arith, before.few) })

-- an event that is not refused publishes no more than one publish may, where all bytes together are within the limit
one_publish : (scale : Scale) (n all : ℕ) → is_large scale && nat_lt MAX_PUBLISH_BYTES n ≡ false → n ≤ all → all ≤ most_of scale limits.Published → n ≤ 1000000
one_publish Usual n all within part few = omega (arith, part, few)
one_publish Large n all within part few = ltb-false MAX_PUBLISH_BYTES n within

said_event : (scale : Scale) (i : ℕ) (s : Script) (word : List ℕ) (fields : List (List ℕ)) (t : Script) → IsBefore scale i s → after_event scale s word fields ≡ Ok t → IsSaid scale i t
said_event scale i s word fields t before h =
    steps (event_in s.header.nodes word fields) _ _ h λ event is_event then.
    let within = behind_guard (is_large scale && nat_lt MAX_PUBLISH_BYTES (published_by event)) causes.Range (Ok (with_event s event)) t then in
    let same : with_event s event ≡ t = cc within.1 in
    let total = sum_by_push published_by s.events event in
    let longer = length-append s.events (event ∷ []) in
    subst (IsSaid scale i) same (record {
      header = before.header;
      events = λ few.
          let one = one_publish scale (published_by event) (published_in (s.events ++ event ∷ [])) within.0 (omega (arith, total)) few in
          all_push _ s.events event before.events (event_range s.header.nodes word fields event is_event one);
      few = omega (arith, longer, before.few);
    })

said_range : (scale : Scale) (i : ℕ) (so_far : Option Script) (word : List ℕ) (fields : List (List ℕ)) (t : Script) → 1 ≤ i → AreBefore scale i so_far → script_after scale so_far word fields ≡ Ok t → IsSaid scale i t
said_range scale i None word fields t first before h = said_first scale i (word ∷ fields) t first h
said_range scale i (Some s) word fields t first before h =
    elim (chosen (bytes_eq word (codes "area") && length s.events == 0) _ _ _ h) [
      | inl area ↦ said_area scale i s fields t before area.1
      | inr event ↦ said_event scale i s word fields t before event.1
    ]

-- the script is within its ranges once the limit on published bytes is passed
statement_range : (scale : Scale) (i : ℕ) (so_far : Option Script) (word : List ℕ) (fields : List (List ℕ)) (t : Script) → 1 ≤ i → AreBefore scale i so_far → read_statement scale i so_far word fields ≡ Ok t → IsBefore scale (i + 1) t
statement_range scale i so_far word fields t first before h =
    steps (at_line i (script_after scale so_far word fields)) _ _ h λ s is_said then.
    let script = said_range scale i so_far word fields s first before (from_line i (script_after scale so_far word fields) s is_said) in
    let within = behind_guard (nat_lt (most_of scale limits.Published) (published_in s.events)) (Limit limits.Published) _ t then in
    let rarely = behind_guard (nat_lt MAX_SCHEDULE_SETTLES (settles_in s.events)) (Limit limits.Settles) (Ok s) t within.1 in
    let same : s ≡ t = cc rarely.1 in
    let few : published_in s.events ≤ most_of scale limits.Published = ltb-false _ _ within.0 in
    let seldom : settles_in s.events ≤ MAX_SCHEDULE_SETTLES = ltb-false _ _ rarely.0 in
    subst (IsBefore scale (i + 1)) same (record { header = script.header; events = script.events few; few = omega (arith, script.few); published = few; settles = seldom })

words_range : (scale : Scale) (i : ℕ) (so_far : Option Script) (ws : List (List ℕ)) (next : Option Script) → 1 ≤ i → AreBefore scale i so_far → read_words scale i so_far ws ≡ Ok next → AreBefore scale (i + 1) next
words_range scale i so_far [] next first before h =
    let same : so_far ≡ next = cc h in
    subst (AreBefore scale (i + 1)) same (later scale i so_far before)
words_range scale i so_far (word ∷ fields) next first before h =
    elim (chosen (is_comment word) _ _ _ h) [
      | inl comment ↦ let same : so_far ≡ next = cc comment.1 in subst (AreBefore scale (i + 1)) same (later scale i so_far before)
      | inr line ↦
          steps (read_statement scale i so_far word fields) _ _ line.1 λ s is_read end.
          let same : Some s ≡ next = cc end in
          subst (AreBefore scale (i + 1)) same (statement_range scale i so_far word fields s first before is_read)
    ]

lines_range : (scale : Scale) (i : ℕ) (so_far : Option Script) (ls : List (List ℕ)) (t : Script) → 1 ≤ i → i ≤ most_of scale limits.Lines + 1 → AreBefore scale i so_far → read_lines scale i so_far ls ≡ Ok t → IsSchedule scale t
lines_range scale i None [] t first few before h = absurd (cc h)
lines_range scale i (Some s) [] t first few before h =
    let same : s ≡ t = cc h in
    subst (IsSchedule scale) same (record { header = before.header; events = before.events; few = omega (arith, few, before.few); published = before.published; settles = before.settles })
lines_range scale i so_far (line ∷ rest) t first few before h =
    steps (read_line scale i so_far line) _ _ h λ next is_read then.
    let within = behind_guard (nat_lt (most_of scale limits.Lines) i) (Limit limits.Lines) _ next is_read in
    let among : i ≤ most_of scale limits.Lines = ltb-false _ _ within.0 in
    lines_range scale (i + 1) next rest t (omega arith) (omega (arith, among)) (words_range scale i so_far (words line) next first before within.1) then

-- a script that a call gave for these lines is a schedule within the ranges and the limits
pub IsSchedule-from_lines : (scale : Scale) (ls : List (List ℕ)) (r : Result Script ScheduleFault) → Gives r (read_lines scale 1 None ls) → IfOk r (IsSchedule scale)
IsSchedule-from_lines scale ls (Ok s) h = lines_range scale 1 None ls s (omega arith) (omega arith) tt h
IsSchedule-from_lines scale ls (Err fault) h = tt
