-- Folding a snapshot gives the state from which it was made.
use Rattle.std.proofs.Common.{◌≡◌, ℕ, ◌+◌, ◌-◌, ◌<◌, Bool, true, false, ◌==◌, nat_lt, if◌then◌else◌, Option, Some, None, List, [], ◌∷◌, ◌++◌, length, length-append, map, set, replicate, refl, ap, ap₂, sym, ◌∙◌, arith, append_assoc, append-nil, eqb-true, ne_eqb}
use Rattle.std.specs.List.{AllByRecursion}
use Rattle.std.proofs.lemmas.Bool.{and_parts}
use Rattle.oc_base.specs.declared.cert.Cert.{Cert}
use Rattle.oc_base.specs.declared.rank.Rank.{Rank}
use Rattle.oc_model.specs.declared.mode.Mode.{Mode}
use Rattle.oc_model.specs.declared.mode.Mode.TheVariants as modes
use Rattle.oc_model.specs.declared.reading.Reading.{Reading}
use Rattle.oc_model.specs.declared.record.Record.{Record}
use Rattle.oc_model.specs.declared.record.Record.TheVariants as records
use Rattle.std.specs.Prelude.{option_to_list}
use Rattle.oc_model.specs.Adoption.{rank_or_last}
use Rattle.oc_model.specs.ChangeLog.{begun_with, note, acked_whole}
use Rattle.oc_model.specs.Measures.{same_reading}
use Rattle.oc_model.specs.Node.{Durable, Log, empty_log, new_durable, no_reading}
use Rattle.oc_model.specs.Records.{fold_one, folded}
use Rattle.oc_model.specs.Snapshot.{entries, own_pair, last_ask, mode_records, rank_records, ancestor_records, rates_from, snapshot}
use Rattle.oc_model.specs.Table.{newest, put, is_news, merge, merge_all}
use Rattle.oc_model.proofs.Lists.{all_append}
use Rattle.oc_laws_step.specs.Sound.{AreAbove, IsTable, IsSoundAs, IsSoundDurable}
use Rattle.oc_laws_step.proofs.Folds.{sound_aside}
use Rattle.oc_laws_step.proofs.Goes.{folded-append}

-- The table

-- all rows are about lesser subjects
abbrev AreBelow : List Cert → ℕ → Type 0
AreBelow ks x = AllByRecursion (λ k. k.subject < x) ks

-- a row above all others is put after them
put_last : (t : List Cert) (c : Cert) → AreBelow t c.subject → put t c ≡ t ++ c ∷ []
put_last [] c below = refl
put_last (k ∷ ks) c below =
    let apart : (k.subject == c.subject) ≡ false = ne_eqb k.subject c.subject (λ e. let less : k.subject < c.subject = below.0 in omega (arith, e)) in
    let behind : nat_lt c.subject k.subject ≡ false = not_less c.subject k.subject below.0 in
    rw (apart, behind) (ap (λ rows. k ∷ rows) (put_last ks c below.1)) where
      not_less : (a b : ℕ) → b < a → nat_lt a b ≡ false
      not_less a b h = grind arith

none_above : (t : List Cert) (x : ℕ) → AreBelow t x → newest t x ≡ None
none_above [] x below = refl
none_above (k ∷ ks) x below =
    let apart : (k.subject == x) ≡ false = ne_eqb k.subject x (λ e. let less : k.subject < x = below.0 in omega (arith, e)) in
    rw apart (none_above ks x below.1)

merge_last : (t : List Cert) (c : Cert) → AreBelow t c.subject → merge t c ≡ t ++ c ∷ []
merge_last t c below = let none : newest t c.subject ≡ None = none_above t c.subject below in rw none (put_last t c below)

-- rows that are merged in their order, after lesser ones, make a table in that order
in_order : (ks t : List Cert) → IsTable ks → AllByRecursion (λ k. AreBelow t k.subject) ks → merge_all t ks ≡ t ++ ks
in_order [] t up below = sym (append-nil t)
in_order (k ∷ ks) t up below =
    ap (λ u. merge_all u ks) (merge_last t k below.0) ∙ (in_order ks (t ++ k ∷ []) up.1 (later ks up.0 below.1) ∙ append_assoc t (k ∷ []) ks) where
      later : (js : List Cert) → AreAbove k.subject js → AllByRecursion (λ j. AreBelow t j.subject) js → AllByRecursion (λ j. AreBelow (t ++ k ∷ []) j.subject) js
      later [] above all = tt
      later (j ∷ js) above all = (all_append (λ c. c.subject < j.subject) t (k ∷ []) all.0 (above.0, tt), later js above.1 all.1)

-- the rows of a table, merged in their order, make that table
pub table_again : (t : List Cert) → IsTable t → merge_all [] t ≡ t
table_again t up = in_order t [] up (free t) where
  free : (ks : List Cert) → AllByRecursion (λ k. AreBelow [] k.subject) ks
  free [] = tt
  free (k ∷ ks) = (tt, free ks)

-- The states on the way

abbrev state : ℕ → Mode → Option Rank → ℕ → ℕ → List Cert → Log → List ℕ → List Reading → Durable
state seq mode rank number clients table log ancestors measures = record {
  seq = seq;
  mode = mode;
  rank = rank;
  number = number;
  clients = clients;
  table = table;
  log = log;
  ancestors = ancestors;
  measures = measures;
}

-- with a table alone, and the own pair after it
abbrev with_table : List Cert → List Reading → Durable
with_table t ms = state 0 modes.Idle None 0 0 t empty_log [] ms

abbrev with_pair : ℕ → ℕ → List Cert → List Reading → Durable
with_pair number clients t ms = state 0 modes.Idle None number clients t empty_log [] ms

table_part : (ks t : List Cert) (ms : List Reading) → folded (with_table t ms) (entries ks) ≡ with_table (merge_all t ks) ms
table_part [] t ms = refl
table_part (k ∷ ks) t ms = table_part ks (merge t k) ms

pair_part : (d : Durable) (t : List Cert) (ms : List Reading) → (d.number ≡ 0 → d.clients ≡ 0) → folded (with_table t ms) (own_pair d) ≡ with_pair d.number d.clients t ms
pair_part d t ms own = by_test (d.number == 0) refl where
  by_test : (b : Bool) → (d.number == 0) ≡ b → folded (with_table t ms) (if b then [] else records.Info d.number d.clients ∷ []) ≡ with_pair d.number d.clients t ms
  by_test true e = let none : d.number ≡ 0 = eqb-true d.number 0 e in ap₂ (λ n c. with_pair n c t ms) (sym none) (sym (own none))
  by_test false e = refl

rank_part : (rank : Option Rank) (seq : ℕ) (mode : Mode) (number clients : ℕ) (t : List Cert) (l : Log) (ms : List Reading)
    → folded (state seq mode None number clients t l [] ms) (map (λ r. records.Ranked r) (option_to_list rank)) ≡ state seq mode rank number clients t l [] ms
rank_part None seq mode number clients t l ms = refl
rank_part (Some r) seq mode number clients t l ms = refl

-- the waiting certificates are noted again, and do not change the table
log_part : (cs : List Cert) (seq p : ℕ) (rank : Option Rank) (number clients : ℕ) (t : List Cert) (l : Log) (ms : List Reading) → AllByRecursion (λ c. is_news t c ≡ false) cs
    → folded (state seq (modes.Joined p) rank number clients t l [] ms) (entries cs)
    ≡ state seq (modes.Joined p) rank number clients t (record { length = l.length + length cs; acked = l.acked; waiting = l.waiting ++ cs }) [] ms
log_part [] seq p rank number clients t l ms known =
    ap₂ (λ n w. state seq (modes.Joined p) rank number clients t (record { length = n; acked = l.acked; waiting = w }) [] ms)
    (let same : l.length ≡ l.length + length {A = Cert} [] = omega arith in same) (sym (append-nil l.waiting))
log_part (c ∷ cs) seq p rank number clients t l ms known =
    let same : merge t c ≡ t = rw known.0 refl in
    ap (λ u. folded (state seq (modes.Joined p) rank number clients u (note l c) [] ms) (entries cs)) same
    ∙ (log_part cs seq p rank number clients t (note l c) ms known.1
    ∙ ap₂ (λ n w. state seq (modes.Joined p) rank number clients t (record { length = n; acked = l.acked; waiting = w }) [] ms)
    (let more : l.length + 1 + length cs ≡ l.length + length (c ∷ cs) = omega arith in more) (append_assoc l.waiting (c ∷ []) cs))

-- the ask, the mode and the rank: a state with no ancestors
abbrev mode_part : Mode → Type 0
mode_part m = (seq : ℕ) (rank : Option Rank) (number clients : ℕ) (t : List Cert) (l : Log) (ms : List Reading) → IsSoundAs m (state seq m rank number clients t l [] ms)
    → folded (folded (folded (with_pair number clients t ms) (last_ask (state seq m rank number clients t l [] ms))) (mode_records m (state seq m rank number clients t l [] ms))) (rank_records m (state seq m rank number clients t l [] ms))
    ≡ state seq m rank number clients t l [] ms

idle_part : mode_part modes.Idle
idle_part seq rank number clients t l ms sound = by_test (seq == 0) refl where
  by_test : (b : Bool) → (seq == 0) ≡ b
      → folded (folded (folded (with_pair number clients t ms) (if b then [] else records.Ask seq 1 ∷ [])) (if b then [] else records.Lost ∷ [])) (map (λ r. records.Ranked r) (option_to_list rank))
      ≡ state seq modes.Idle rank number clients t l [] ms
  by_test true e = rank_part rank 0 modes.Idle number clients t empty_log ms ∙ ap₂ (λ s k. state s modes.Idle rank number clients t k [] ms) (sym (eqb-true seq 0 e)) (sym sound)
  by_test false e = rank_part rank seq modes.Idle number clients t empty_log ms ∙ ap (λ k. state seq modes.Idle rank number clients t k [] ms) (sym sound)

asking_part : (p : ℕ) → mode_part (modes.Asking p)
asking_part p seq rank number clients t l ms sound =
    let asked : (seq == 0) ≡ false = ne_eqb seq 0 sound.0 in
    rw asked (rank_part rank seq (modes.Asking p) number clients t empty_log ms ∙ ap (λ k. state seq (modes.Asking p) rank number clients t k [] ms) (sym sound.1))

acting_part : mode_part modes.Acting
acting_part seq rank number clients t l ms sound = by_test (seq == 0) refl where
  by_test : (b : Bool) → (seq == 0) ≡ b
      → folded (folded (folded (with_pair number clients t ms) (if b then [] else records.Ask seq 1 ∷ [])) (records.Acting ∷ [])) (map (λ r. records.Ranked r) (option_to_list rank))
      ≡ state seq modes.Acting rank number clients t l [] ms
  by_test true e = rank_part rank 0 modes.Acting number clients t empty_log ms ∙ ap₂ (λ s k. state s modes.Acting rank number clients t k [] ms) (sym (eqb-true seq 0 e)) (sym sound)
  by_test false e = rank_part rank seq modes.Acting number clients t empty_log ms ∙ ap (λ k. state seq modes.Acting rank number clients t k [] ms) (sym sound)

-- the ask is there, and so is the parent
joined_start : (seq p a : ℕ) (r : Rank) (number clients : ℕ) (t : List Cert) (ms : List Reading) (rs : List Record) → (seq == 0) ≡ false
    → folded (state seq (modes.Asking p) None number clients t empty_log [] ms) (records.Joined p r ∷ records.Base a ∷ rs)
    ≡ folded (state seq (modes.Joined p) (Some r) number clients t (acked_whole a) [] ms) rs
joined_start seq p a r number clients t ms rs asked =
    ap (λ b. folded (fold_one (if b then state seq (modes.Asking p) None number clients t empty_log [] ms else state seq (modes.Joined p) (Some r) number clients t (begun_with t) [] ms) (records.Base a)) rs) asked

joined_part : (p : ℕ) → mode_part (modes.Joined p)
joined_part p seq rank number clients t l ms sound =
    let asked : (seq == 0) ≡ false = ne_eqb seq 0 sound.0 in
    let r : Rank = sound.1.0 in
    let ranked : rank ≡ Some r = sound.1.1 in
    ap (λ b. folded (folded (with_pair number clients t ms) (if b then [] else records.Ask seq p ∷ [])) (records.Joined p (rank_or_last rank) ∷ records.Base l.acked ∷ entries l.waiting)) asked
    ∙ (joined_start seq p l.acked (rank_or_last rank) number clients t ms (entries l.waiting) asked
    ∙ (log_part l.waiting seq p (Some (rank_or_last rank)) number clients t (acked_whole l.acked) ms sound.3
    ∙ ap₂ (λ n q. state seq (modes.Joined p) q number clients t (record { length = n; acked = l.acked; waiting = l.waiting }) [] ms) (sym sound.2)
    (ap (λ q. Some (rank_or_last q)) ranked ∙ sym ranked)))

any_part : (m : Mode) → mode_part m
any_part modes.Idle = idle_part
any_part (modes.Asking p) = asking_part p
any_part (modes.Joined p) = joined_part p
any_part modes.Acting = acting_part

ancestors_part : (xs : List ℕ) (seq : ℕ) (mode : Mode) (rank : Option Rank) (number clients : ℕ) (t : List Cert) (l : Log) (ms : List Reading)
    → folded (state seq mode rank number clients t l [] ms) (ancestor_records xs) ≡ state seq mode rank number clients t l xs ms
ancestors_part [] seq mode rank number clients t l ms = refl
ancestors_part (x ∷ xs) seq mode rank number clients t l ms = refl

-- Measures

-- the item after these is replaced
set_behind : (xs ys : List Reading) (y r : Reading) → set (xs ++ y ∷ ys) (length xs) r ≡ xs ++ r ∷ ys
set_behind [] ys y r = refl
set_behind (x ∷ xs) ys y r = ap (λ zs. x ∷ zs) (set_behind xs ys y r)

same_is : (a b : Reading) → same_reading a b ≡ true → a ≡ b
same_is a b h =
    let parts = and_parts (a.rate == b.rate) (a.hops == b.hops) h in
    ap₂ reading_by (eqb-true a.rate b.rate parts.0) (eqb-true a.hops b.hops parts.1) where
      reading_by : ℕ → ℕ → Reading
      reading_by rate hops = record { rate = rate; hops = hops }

abbrev measured_to : Durable → List Reading → Durable
measured_to d ms = record d { measures = ms }

rates_part : (rest front : List Reading) (x : ℕ) (d : Durable) → x ≡ length front + 1
    → folded (measured_to d (front ++ replicate (length rest) no_reading)) (rates_from x rest) ≡ measured_to d (front ++ rest)
rates_part [] front x d at = refl
rates_part (r ∷ rest) front x d at = by_test (same_reading r no_reading) (rates_part rest (front ++ r ∷ []) (x + 1) d (omega (arith, at, length-append front (r ∷ [])))) refl where
  -- without a measurement nothing changes
  silent : r ≡ no_reading → folded (measured_to d ((front ++ r ∷ []) ++ replicate (length rest) no_reading)) (rates_from (x + 1) rest) ≡ measured_to d ((front ++ r ∷ []) ++ rest)
      → folded (measured_to d (front ++ no_reading ∷ replicate (length rest) no_reading)) (rates_from (x + 1) rest) ≡ measured_to d (front ++ r ∷ rest)
  silent e h =
      ap (λ ms. folded (measured_to d ms) (rates_from (x + 1) rest)) (ap (λ q. front ++ q ∷ replicate (length rest) no_reading) (sym e) ∙ sym (append_assoc front (r ∷ []) (replicate (length rest) no_reading)))
      ∙ (h ∙ ap (measured_to d) (append_assoc front (r ∷ []) rest))

  -- the reading takes its place
  placed : set (front ++ no_reading ∷ replicate (length rest) no_reading) (x - 1) r ≡ (front ++ r ∷ []) ++ replicate (length rest) no_reading
  placed =
      let spot : x - 1 ≡ length front = omega (arith, at) in
      rw spot (set_behind front (replicate (length rest) no_reading) no_reading r ∙ sym (append_assoc front (r ∷ []) (replicate (length rest) no_reading)))

  by_test : (b : Bool) → folded (measured_to d ((front ++ r ∷ []) ++ replicate (length rest) no_reading)) (rates_from (x + 1) rest) ≡ measured_to d ((front ++ r ∷ []) ++ rest)
      → same_reading r no_reading ≡ b
      → folded (measured_to d (front ++ no_reading ∷ replicate (length rest) no_reading)) (if b then rates_from (x + 1) rest else records.Rate x r.rate r.hops ∷ rates_from (x + 1) rest) ≡ measured_to d (front ++ r ∷ rest)
  by_test true h e = silent (same_is r no_reading e) h
  by_test false h e = ap (λ ms. folded (measured_to d ms) (rates_from (x + 1) rest)) placed ∙ (h ∙ ap (measured_to d) (append_assoc front (r ∷ []) rest))

-- The whole

-- lists in a row are folded one after another
folded_in_turn : (d : Durable) (a b c f g h k : List Record) → folded d (a ++ b ++ c ++ f ++ g ++ h ++ k) ≡ folded (folded (folded (folded (folded (folded (folded d a) b) c) f) g) h) k
folded_in_turn d a b c f g h k =
    folded-append d (a ++ b ++ c ++ f ++ g ++ h) k
    ∙ ap (λ s. folded s k) (folded-append d (a ++ b ++ c ++ f ++ g) h
    ∙ ap (λ s. folded s h) (folded-append d (a ++ b ++ c ++ f) g
    ∙ ap (λ s. folded s g) (folded-append d (a ++ b ++ c) f
    ∙ ap (λ s. folded s f) (folded-append d (a ++ b) c
    ∙ ap (λ s. folded s c) (folded-append d a b)))))

-- with no reading yet, for n nodes
abbrev unread : ℕ → List Reading
unread n = replicate n no_reading

-- a state without its ancestors and readings
abbrev bare : Durable → List Reading → Durable
bare d ms = state d.seq d.mode d.rank d.number d.clients d.table d.log [] ms

-- the records of mode and rank do not change the measures
mode_aside : (m : Mode) (d : Durable) (ms : List Reading) → mode_records m (bare d ms) ≡ mode_records m d
mode_aside modes.Idle d ms = refl
mode_aside (modes.Asking p) d ms = refl
mode_aside (modes.Joined p) d ms = refl
mode_aside modes.Acting d ms = refl

rank_aside : (m : Mode) (d : Durable) (ms : List Reading) → rank_records m (bare d ms) ≡ rank_records m d
rank_aside modes.Idle d ms = refl
rank_aside (modes.Asking p) d ms = refl
rank_aside (modes.Joined p) d ms = refl
rank_aside modes.Acting d ms = refl

-- the parts of a snapshot up to the own pair
upto_pair : (nodes n : ℕ) (d : Durable) → IsSoundDurable nodes d → folded (folded (new_durable n) (entries d.table)) (own_pair d) ≡ with_pair d.number d.clients d.table (unread n)
upto_pair nodes n d sound =
    ap (λ s. folded s (own_pair d)) (table_part d.table [] (unread n) ∙ ap (λ t. with_table t (unread n)) (table_again d.table sound.table))
    ∙ pair_part d d.table (unread n) sound.own

-- the records up to the rank
upto_rank : (nodes n : ℕ) (d : Durable) → IsSoundDurable nodes d
    → folded (folded (folded (folded (folded (new_durable n) (entries d.table)) (own_pair d)) (last_ask d)) (mode_records d.mode d)) (rank_records d.mode d) ≡ bare d (unread n)
upto_rank nodes n d sound =
    ap (λ s. folded (folded (folded s (last_ask d)) (mode_records d.mode d)) (rank_records d.mode d)) (upto_pair nodes n d sound)
    ∙ (ap₂ (λ rs qs. folded (folded (folded (with_pair d.number d.clients d.table (unread n)) (last_ask d)) rs) qs) (sym (mode_aside d.mode d (unread n))) (sym (rank_aside d.mode d (unread n)))
    ∙ any_part d.mode d.seq d.rank d.number d.clients d.table d.log (unread n) (sound_aside d.mode d (bare d (unread n)) refl refl refl refl sound.mode))

-- folding the snapshot of a sound state gives that state
pub snapshot_stands : (nodes g : ℕ) (d e : Durable) → IsSoundDurable nodes d → length e.measures ≡ nodes → folded e (snapshot g d) ≡ d
snapshot_stands nodes g d e sound as_many =
    folded_in_turn (new_durable (length e.measures)) (entries d.table) (own_pair d) (last_ask d) (mode_records d.mode d) (rank_records d.mode d) (ancestor_records d.ancestors) (rates_from 1 d.measures)
    ∙ (ap (λ s. folded (folded s (ancestor_records d.ancestors)) (rates_from 1 d.measures)) (upto_rank nodes (length e.measures) d sound)
    ∙ (ap (λ s. folded s (rates_from 1 d.measures)) (ancestors_part d.ancestors d.seq d.mode d.rank d.number d.clients d.table d.log (unread (length e.measures)))
    ∙ (ap (λ n. folded (measured_to d (unread n)) (rates_from 1 d.measures)) (as_many ∙ sym sound.measures)
    ∙ rates_part d.measures [] 1 d (omega arith))))
