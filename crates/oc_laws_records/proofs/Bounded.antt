-- The text of a merge is no longer than the records that were read.
use Rattle.std.proofs.Common.{◌≡◌, ℕ, ◌+◌, ◌*◌, ◌-◌, ◌<◌, ◌≤◌, Bool, true, false, Ok, List, [], ◌∷◌, ◌++◌, length, map, nat_lt, refl, ap, sym, subst, arith}
use Rattle.std.specs.List.{AllByRecursion, sum_by}
use Rattle.std.specs.Str.Lines.{lines}
use Rattle.std.proofs.lemmas.List.Sums.{sum_by-cons}
use Rattle.oc_model.specs.declared.event.Event.{Event}
use Rattle.oc_model.specs.declared.input.Input.TheVariants.{Tick, CheckNow, Relocate, Unreachable, Pull, Measured, Publish, Seal, Client, Delivered}
use Rattle.oc_model.specs.Lawful.{IsHeader}
use Rattle.oc_model.specs.Node.{Header, Node}
use Rattle.oc_model.specs.World.{Process, is_up, new_world}
use Rattle.oc_laws_world.proofs.Merged.{world_new}
use Rattle.oc_laws_world.proofs.Takings.{order_taking, taken_within}
use Rattle.oc_laws_world.specs.Merges.{CanFollow, Entry, IsScheduleOf, Line, Starts, Takes, entries_of}
use Rattle.oc_laws_world.specs.Taking as takings
use Rattle.oc_laws_world.specs.Taking.{AreInOrder, IsBeginning}
use Rattle.oc_schedule.proofs.Steps.{behind_guard}
use Rattle.oc_schedule.specs.Printing.{script_text}
use Rattle.oc_schedule.specs.Script.{Script}
use Rattle.oc_merge.proofs.Lawful.{AreRecords-from_lines}
use Rattle.oc_merge.specs.declared.fault.Most.TheVariants as limits
use Rattle.oc_merge.specs.declared.fault.RecordsFault.TheVariants.{Limit}
use Rattle.oc_merge.specs.declared.fault.TheConstants.{MAX_RECORD_BYTES}
use Rattle.oc_merge.specs.declared.merge_end.MergeEnd.{MergeEnd}
use Rattle.oc_merge.specs.declared.told.Told.{Told}
use Rattle.oc_merge.specs.declared.told.Told.TheVariants.{Started, Came, Took}
use Rattle.oc_merge.specs.declared.told.ToldLine.{ToldLine}
use Rattle.oc_merge.specs.Merging.{IsMergeOf}
use Rattle.oc_merge.specs.Reading.{is_ended, nothing_read, read_lines, records_of}
use Rattle.oc_merge.specs.Recorded.{are_there, entry_of, line_of, picked, recorded, records_there}
use Rattle.oc_merge.specs.Records.{AreRecords, IsLine, IsTold}
use Rattle.oc_merge.specs.Told.{Records}
use Rattle.oc_laws_records.proofs.LinesRead.{IsOfBytes}
use Rattle.oc_laws_records.proofs.Numbers.{many}
use Rattle.oc_laws_records.proofs.Prices.{ArePrinted, areas_cost, events_cost, header_cost, script_bytes, script_cost, script_lines}
use Rattle.oc_laws_records.proofs.ReadingCosts.{Costly, LineOfBytes, opening_cost, read_costs, told_costs}
use Rattle.oc_laws_records.proofs.ScheduleCosts.{IsOwn, IsOwnLine, IsText, first_saves, line_cost, most_sends, schedule_plays}
use Rattle.oc_laws_records.proofs.TakenLines.{all_at, sum_map, sum_ones, taken_least}
use Rattle.oc_laws_records.proofs.Totals.{bytes_of, crash_bytes, lines_cost, lines_count, lines_of, spent}
use Rattle.oc_laws_records.specs.Bounds.{IsNoLonger}

-- Lines that are there

picked_least : (f : ToldLine → ℕ) (bs : List Bool) (ls : List ToldLine) → sum_by f (picked bs ls) ≤ sum_by f ls
picked_least f [] ls = omega arith
picked_least f (b ∷ bs) [] = none b where
  none : (b : Bool) → sum_by f (picked (b ∷ bs) []) ≤ sum_by f []
  none true = omega arith
  none false = omega arith
picked_least f (true ∷ bs) (l ∷ ls) = omega (arith, sum_by-cons f l (picked bs ls), sum_by-cons f l ls, picked_least f bs ls)
picked_least f (false ∷ bs) (l ∷ ls) = omega (arith, sum_by-cons f l ls, picked_least f bs ls)

picked_all : (P : ToldLine → Type 0) (bs : List Bool) (ls : List ToldLine) → AllByRecursion P ls → AllByRecursion P (picked bs ls)
picked_all P [] ls all = tt
picked_all P (true ∷ bs) [] all = tt
picked_all P (false ∷ bs) [] all = tt
picked_all P (true ∷ bs) (l ∷ ls) all = (all.0, picked_all P bs ls all.1)
picked_all P (false ∷ bs) (l ∷ ls) all = picked_all P bs ls all.1

-- Entries within the ranges of texts

told_text : (nodes x : ℕ) (t : Told) → IsTold nodes x t → IsOfBytes x t → IsText nodes x (entry_of nodes t)
told_text nodes x (Started files) is bytes = tt
told_text nodes x (Came received) is bytes = tt
told_text nodes x (Took (Tick t)) is bytes = (is, bytes)
told_text nodes x (Took CheckNow) is bytes = (is, bytes)
told_text nodes x (Took (Relocate p)) is bytes = (is, bytes)
told_text nodes x (Took (Unreachable p)) is bytes = (is, bytes)
told_text nodes x (Took (Pull p)) is bytes = (is, bytes)
told_text nodes x (Took (Measured p rate hops)) is bytes = (is, bytes)
told_text nodes x (Took (Publish g published)) is bytes = (is, bytes)
told_text nodes x (Took (Seal g)) is bytes = (is, bytes)
told_text nodes x (Took (Client area start g)) is bytes = (is, bytes)
told_text nodes x (Took (Delivered m)) is bytes = tt

abbrev LineOfText : ℕ → Line → Type 0
LineOfText nodes l = IsText nodes l.node l.entry

lines_text : (nodes : ℕ) (ls : List ToldLine) → AllByRecursion (IsLine nodes) ls → AllByRecursion LineOfBytes ls → AllByRecursion (LineOfText nodes) (map (line_of nodes) ls)
lines_text nodes [] all bytes = tt
lines_text nodes (l ∷ ls) all bytes = (told_text nodes l.node l.told all.0.1 bytes.0, lines_text nodes ls all.1 bytes.1)

follows_own : (h : Header) (past : List Line) (nodes x : ℕ) (e : Entry) → CanFollow h past x e → IsText nodes x e → IsOwn nodes x e
follows_own h past nodes x (Takes (Delivered m)) can text = can.1.0
follows_own h past nodes x e can text = text

order_own : (r : takings.Records) (past ls : List Line) → AreInOrder r past ls → AllByRecursion (LineOfText r.header.nodes) r.lines → AllByRecursion (IsOwnLine r.header.nodes) ls
order_own r past [] ordered text = tt
order_own r past (l ∷ ls) ordered text =
    let can = ordered.0.1.can in
    let own = follows_own r.header past r.header.nodes l.node l.entry can.2.3 (all_at (LineOfText r.header.nodes) r.lines ordered.0.0 l text can.0) in
    ((can.2.0, own), order_own r (past ++ l ∷ []) ls ordered.1 text)

-- The first line of all is a start, of a node that is down

first_starts : (h : Header) (x : ℕ) (e : Entry) → CanFollow h [] x e → e ≡ Starts
first_starts h x Starts can = refl
first_starts h x (Takes i) can = absurd (cc can.0)

module _ (price : ℕ → ℕ) (more : (a b : ℕ) → a ≤ b → price a ≤ price b) where
  events_fit : (r : takings.Records) (ls : List Line) (es : List Event) → IsHeader r.header → AreInOrder r [] ls → AllByRecursion (IsOwnLine r.header.nodes) ls → length ls * most_sends < many → IsScheduleOf (new_world r.header) ls es
      → events_cost price es ≤ sum_by (line_cost price) ls - price crash_bytes
  events_fit r [] es is ordered own small schedule = let none : events_cost price es ≡ 0 = ap (events_cost price) schedule in omega (arith, none)
  events_fit r (l ∷ ls) es is ordered own small schedule =
      let h = r.header in
      let can = ordered.0.1.can.2 in
      let starts : l.entry ≡ Starts = first_starts h l.node l.entry can.3 in
      let down : is_up (new_world h) l.node ≡ false = ap (λ (p : Process). p.up) ((world_new h).processes l.node can.0) in
      omega (arith, first_saves price more h.nodes is.few l ls (new_world h) es starts down own (omega (arith, small)) schedule)

module _ (digest : Node → List ℕ) (bytes : List ℕ) (r : Records) (s : Script) (end : MergeEnd) (told : records_of bytes ≡ Ok r) (merge : IsMergeOf digest (records_there digest r) s end) where
  ended : Bool
  ended = is_ended bytes

  read : read_lines 1 (is_ended bytes) nothing_read (lines bytes) ≡ Ok r
  read = (behind_guard (nat_lt MAX_RECORD_BYTES (length bytes)) (Limit limits.Bytes) (read_lines 1 (is_ended bytes) nothing_read (lines bytes)) r told).1

  are : AreRecords r
  are = AreRecords-from_lines (is_ended bytes) (lines bytes) (Ok r) read

  abbrev there : takings.Records
  there = recorded digest (records_there digest r)

  begins : (x : ℕ) → IsBeginning (entries_of x merge.taken) (entries_of x there.lines)
  begins = taken_within there [] merge.taken (λ x. (entries_of x there.lines, refl)) (order_taking there [] merge.taken merge.in_order)

  -- the sum over the lines taken is at most that over the lines told
  most : (f : Line → ℕ) → sum_by f merge.taken ≤ sum_by (λ l. f (line_of r.header.nodes l)) r.lines
  most f = omega (arith, taken_least f merge.taken there.lines begins, sum_map f (line_of r.header.nodes) (records_there digest r).lines, picked_least (λ l. f (line_of r.header.nodes l)) (are_there digest r 0 r.lines) r.lines)

  few : length merge.taken * most_sends < many
  few = omega (arith, most (λ l. 1), sum_ones merge.taken, sum_ones r.lines, are.few)

  header : s.header ≡ r.header
  header = merge.header

  module _ (price : ℕ → ℕ) (more : (a b : ℕ) → a ≤ b → price a ≤ price b) where
    costs : Costly price more r.header.nodes (spent price (is_ended bytes) (lines bytes)) r
    costs = read_costs price more r.header.nodes (is_ended bytes) (lines bytes) r read

    own : AllByRecursion (IsOwnLine r.header.nodes) merge.taken
    own = order_own there [] merge.taken merge.in_order
        (lines_text r.header.nodes (records_there digest r).lines
        (picked_all (IsLine r.header.nodes) (are_there digest r 0 r.lines) r.lines are.lines) (picked_all LineOfBytes (are_there digest r 0 r.lines) r.lines costs.bytes))

    fits : events_cost price s.events ≤ told_costs price r.header.nodes r.lines - price crash_bytes
    fits = omega (arith, events_fit price more there merge.taken s.events are.header merge.in_order own few merge.schedule, most (line_cost price))

    script_fits : script_cost price s ≤ spent price (is_ended bytes) (lines bytes)
    script_fits =
        let opening : header_cost price s.header + areas_cost price 1 s.header.areas ≡ opening_cost price r.header.nodes r.header = ap (λ (h : Header). header_cost price h + areas_cost price 1 h.areas) header in
        omega (arith, fits, costs.cost, opening)

    printed : ArePrinted s.events
    printed = (schedule_plays price more r.header.nodes are.header.few merge.taken (new_world r.header) s.events own (omega (arith, few)) merge.schedule).printed

  pub merge_bounded : IsNoLonger (script_text s) bytes
  merge_bounded =
      let as_bytes = script_fits bytes_of (λ a b le. le) in
      let as_lines = script_fits lines_of (λ a b le. omega arith) in
      let is : IsHeader s.header = subst IsHeader (sym header) are.header in (
        omega (arith, script_bytes s, as_bytes, lines_cost bytes),
        omega (arith, script_lines s is (printed lines_of (λ a b le. omega arith)), as_lines, lines_count (is_ended bytes) (lines bytes)),
      )
