-- The durable state, one record after another.
use Rattle.std.proofs.Common.{◌≡◌, ℕ, zero, suc, ◌+◌, ◌-◌, ◌<◌, ◌≤◌, max, ◌^◌, ◌⊎◌, inl, inr, true, ◌==◌, nat_lt, if◌then◌else◌, Some, List, [], ◌∷◌, ◌++◌, length, drop, get_or, refl, ap, sym, subst, ◌∙◌, arith, length-append, length-drop}
use Rattle.std.specs.List.{AllByRecursion}
use Rattle.std.proofs.lemmas.Bool.{cond_both}
use Rattle.std.proofs.lemmas.List.{length-replicate}
use Rattle.std.proofs.Math.ListN.{drop_of_length-le}
use Rattle.oc_base.specs.Lawful.{AreCerts}
use Rattle.oc_base.specs.declared.cert.Cert.{Cert}
use Rattle.oc_base.specs.declared.limits.TheConstants.{MAX_NODES, MAX_BASE_ACKED}
use Rattle.oc_model.specs.declared.mode.Mode.{Mode}
use Rattle.oc_model.specs.declared.mode.Mode.TheVariants as modes
use Rattle.oc_model.specs.declared.record.Record.{Record}
use Rattle.oc_model.specs.declared.record.Record.TheVariants as records
use Rattle.oc_model.specs.ChangeLog.{ack, is_ahead, acked_whole, begun_with}
use Rattle.oc_model.specs.Lawful.{IsRecord}
use Rattle.oc_model.specs.Node.{Durable, Log, new_durable, empty_log, no_reading}
use Rattle.oc_model.specs.Records.{fold_one, folded, noted, is_joined}
use Rattle.oc_model.specs.Table.{is_news, merge, put}
use Rattle.oc_laws_step.specs.Sound.{AreAbove, IsSoundAs, IsSoundDurable}
use Rattle.oc_laws_step.proofs.Folds.{sound_fold_one}
use Rattle.oc_laws_step.proofs.LawfulFolds.{lawful_fold_one, lawful_new_durable}
use Rattle.oc_laws_step.proofs.Ranges.{few_rows}
use Rattle.oc_state.specs.DurableView.{DurableView, HasRoom, IsKept, brought, brought_by}
use Rattle.oc_state.proofs.Lists.{drop_at}

-- Sound

-- a whole log that is acknowledged to its end
sound_based : (m : Mode) (d : Durable) (n : ℕ) → is_joined m ≡ true → IsSoundAs m d → IsSoundAs m (record d { log = acked_whole n })
sound_based modes.Idle d n joined here = absurd cc
sound_based (modes.Asking p) d n joined here = absurd cc
sound_based (modes.Joined p) d n joined here = (here.0, here.1, omega arith, tt)
sound_based modes.Acting d n joined here = absurd cc

sound_base : (nodes : ℕ) (d : Durable) (n : ℕ) → IsSoundDurable nodes d → IsSoundDurable nodes (fold_one d (records.Base n))
sound_base nodes d n sound =
    cond_both (is_joined d.mode) (record d { log = acked_whole n }) d (IsSoundDurable nodes)
    (λ joined. record { table = sound.table; mode = sound_based d.mode d n joined sound.mode; own = sound.own; ancestors = sound.ancestors; measures = sound.measures })
    (λ _. sound)

sound_new : (nodes : ℕ) → IsSoundDurable nodes (new_durable nodes)
sound_new nodes = record { table = tt; mode = refl; own = λ _. refl; ancestors = omega arith; measures = length-replicate nodes no_reading }

-- each lawful record, also one of a snapshot, keeps the durable state sound
sound_one : (nodes : ℕ) (d : Durable) (r : Record) → IsRecord nodes r → IsSoundDurable nodes d → IsSoundDurable nodes (fold_one d r)
sound_one nodes d (records.Ask s p) ok sound = sound_fold_one nodes d (records.Ask s p) (λ e. omega (arith, e, ok.0.0)) sound
sound_one nodes d (records.Joined p r) ok sound = sound_fold_one nodes d (records.Joined p r) tt sound
sound_one nodes d records.Lost ok sound = sound_fold_one nodes d records.Lost tt sound
sound_one nodes d records.Acting ok sound = sound_fold_one nodes d records.Acting tt sound
sound_one nodes d (records.Ranked r) ok sound = sound_fold_one nodes d (records.Ranked r) tt sound
sound_one nodes d (records.OldEntry x s p dead) ok sound = sound_fold_one nodes d (records.Entry (record { subject = x; seq = s; parent = p; dead = dead; number = 0; clients = 0 })) tt sound
sound_one nodes d (records.Acked upto) ok sound = sound_fold_one nodes d (records.Acked upto) tt sound
sound_one nodes d (records.Ancestors xs) ok sound = sound_fold_one nodes d (records.Ancestors xs) ok.1 sound
sound_one nodes d (records.Rate p rate hops) ok sound = sound_fold_one nodes d (records.Rate p rate hops) tt sound
sound_one nodes d (records.Epoch e) ok sound = sound_fold_one nodes d (records.Epoch e) tt sound
sound_one nodes d (records.Base n) ok sound = sound_base nodes d n sound
sound_one nodes d (records.Snapshot g) ok sound = subst (λ (n : ℕ). IsSoundDurable nodes (new_durable n)) (sym sound.measures) (sound_new nodes)
sound_one nodes d (records.Entry c) ok sound = sound_fold_one nodes d (records.Entry c) tt sound
sound_one nodes d (records.Info number clients) ok sound = sound_fold_one nodes d (records.Info number clients) (λ e. omega (arith, e, ok.0.0)) sound

-- a lawful record keeps the durable state within its ranges
pub kept_one : (nodes : ℕ) (d : Durable) (r : Record) → IsRecord nodes r → IsKept nodes d → IsKept nodes (fold_one d r)
kept_one nodes d r ok kept = record { few = kept.few; sound = sound_one nodes d r ok kept.sound; lawful = lawful_fold_one nodes d r ok kept.lawful }

pub kept_all : (nodes : ℕ) (d : Durable) (rs : List Record) → AllByRecursion (IsRecord nodes) rs → IsKept nodes d → IsKept nodes (folded d rs)
kept_all nodes d [] ok kept = kept
kept_all nodes d (r ∷ rs) ok kept = kept_all nodes (fold_one d r) rs ok.1 (kept_one nodes d r ok.0 kept)

-- the durable state of a new node is within its ranges
pub kept_new : (nodes : ℕ) → nodes ≤ MAX_NODES → IsKept nodes (new_durable nodes)
kept_new nodes few = record { few = few; sound = sound_new nodes; lawful = lawful_new_durable nodes nodes }

-- Rows

all_above : (nodes : ℕ) (t : List Cert) → AreCerts nodes t → AreAbove 0 t
all_above nodes [] certs = tt
all_above nodes (k ∷ ks) certs = (omega (arith, certs.0.subject.0), all_above nodes ks certs.1)

-- a table has no more rows than there are nodes
pub rows_few : (nodes : ℕ) (d : Durable) → IsKept nodes d → length d.table ≤ nodes
rows_few nodes d kept = let few : 0 + length d.table ≤ nodes = few_rows nodes d.table 0 (omega arith) (all_above nodes d.table kept.lawful.table) kept.lawful.sorted kept.lawful.table in omega arith

-- Memory for rows

-- the table still has memory for all rows after more room was made for certificates
pub rows_more : (room rows memory more : ℕ) → (0 < room → rows ≤ memory) → memory ≤ more → 0 < room → rows ≤ more
rows_more room rows memory more was grows some = let before : rows ≤ memory = was some in omega arith

pub rows_most : (room more rows memory now : ℕ) → (0 < room → rows ≤ memory) → (0 < more → rows ≤ now) → memory ≤ now → 0 < max room more → rows ≤ now
rows_most room zero rows memory now was is grows some = rows_more room rows memory now was grows (omega (arith, some))
rows_most room (suc more) rows memory now was is grows some = is (omega arith)

-- there is memory for all rows, if there is room for one
pub rows_there : (room rows memory waiting : ℕ) → (0 < room → rows ≤ memory) → waiting + 1 ≤ room → rows ≤ memory
rows_there room rows memory waiting was one = was (omega (arith, one))

-- Room

none_few : 0 ≤ 1
none_few = omega arith

one_few : 1 ≤ 1
one_few = omega arith

-- no record brings more than one certificate or rate
pub brought_few : (r : Record) → brought r ≤ 1
brought_few (records.Ask s p) = none_few
brought_few (records.Joined p r) = none_few
brought_few records.Lost = none_few
brought_few records.Acting = none_few
brought_few (records.Ranked r) = none_few
brought_few (records.OldEntry x s p dead) = one_few
brought_few (records.Acked upto) = none_few
brought_few (records.Ancestors xs) = none_few
brought_few (records.Rate p rate hops) = one_few
brought_few (records.Epoch e) = none_few
brought_few (records.Base n) = none_few
brought_few (records.Snapshot g) = none_few
brought_few (records.Entry c) = one_few
brought_few (records.Info number clients) = none_few

-- a list of records brings at most as many as it has records
pub brought_most : (rs : List Record) → brought_by rs ≤ length rs
brought_most [] = omega arith
brought_most (r ∷ rs) = let most : brought r + brought_by rs ≤ suc (length rs) = omega (arith, brought_few r, brought_most rs) in most

-- the count so far and the number that the rest brings are the whole
pub brought_on : (rs : List Record) (i : ℕ) (r : Record) (count : ℕ) → i < length rs → r ≡ get_or rs i r → count + brought_by (drop i rs) ≡ brought_by rs → count + brought r + brought_by (drop (i + 1) rs) ≡ brought_by rs
brought_on rs i r count within e so =
    let here : brought_by (drop i rs) ≡ brought r + brought_by (drop (i + 1) rs) = ap brought_by (drop_at rs i r within e) in
    omega (arith, so, here)

pub brought_end : (rs : List Record) (i count : ℕ) → length rs ≤ i → count + brought_by (drop i rs) ≡ brought_by rs → count ≡ brought_by rs
brought_end rs i count over so =
    let none : brought_by (drop i rs) ≡ 0 = ap brought_by (drop_of_length-le rs over) in
    omega (arith, so, none)

-- the log after a record that brings this number of certificates: at most that number more wait, or
-- at most this number of rows; and it is at most that much longer, or no longer than a base may be
record Follows (rows more : ℕ) (was now : Log) : Type 0 where
  waiting : (length now.waiting ≤ length was.waiting + more) ⊎ (length now.waiting ≤ rows)
  length : (now.length ≤ was.length + more) ⊎ (now.length ≤ MAX_BASE_ACKED)

follows_same : (rows more : ℕ) (l : Log) → Follows rows more l l
follows_same rows more l = record { waiting = inl (omega arith); length = inl (omega arith) }

follows_empty : (rows more : ℕ) (l : Log) → Follows rows more l empty_log
follows_empty rows more l = record { waiting = inr (omega arith); length = inr (omega arith) }

follows_noted : (rows : ℕ) (m : Mode) (l : Log) (c : Cert) → Follows rows 1 l (noted m l c)
follows_noted rows modes.Idle l c = follows_same rows 1 l
follows_noted rows (modes.Asking p) l c = follows_same rows 1 l
follows_noted rows (modes.Joined p) l c = record { waiting = inl (let more : length (l.waiting ++ c ∷ []) ≡ length l.waiting + length (c ∷ []) = length-append l.waiting (c ∷ []) in omega arith); length = inl (omega arith) }
follows_noted rows modes.Acting l c = follows_same rows 1 l

follows_acked : (rows : ℕ) (l : Log) (upto : ℕ) → Follows rows 0 l (ack l upto)
follows_acked rows l upto =
    cond_both (is_ahead l upto) (record { length = l.length; acked = upto; waiting = drop (upto - l.acked) l.waiting }) l (Follows rows 0 l)
    (λ _. record { waiting = inl (omega (arith, length-drop (upto - l.acked) l.waiting)); length = inl (omega arith) })
    (λ _. follows_same rows 0 l)

follows_one : (nodes : ℕ) (d : Durable) (r : Record) → IsRecord nodes r → IsKept nodes d → Follows (length d.table) (brought r) d.log (fold_one d r).log
follows_one nodes d (records.Ask s p) ok kept = follows_empty (length d.table) 0 d.log
follows_one nodes d (records.Joined p r) ok kept =
    cond_both (d.seq == 0) d (record d { mode = modes.Joined p; rank = Some r; log = begun_with d.table }) (λ e. Follows (length d.table) 0 d.log e.log)
    (λ _. follows_same (length d.table) 0 d.log)
    (λ _. let few : length d.table ≤ nodes = rows_few nodes d kept in record { waiting = inr (omega arith); length = inr (omega (arith, few, kept.few)) })
follows_one nodes d records.Lost ok kept = follows_empty (length d.table) 0 d.log
follows_one nodes d records.Acting ok kept = follows_empty (length d.table) 0 d.log
follows_one nodes d (records.Ranked r) ok kept = follows_same (length d.table) 0 d.log
follows_one nodes d (records.OldEntry x s p dead) ok kept = follows_noted (length d.table) d.mode d.log (record { subject = x; seq = s; parent = p; dead = dead; number = 0; clients = 0 })
follows_one nodes d (records.Acked upto) ok kept = follows_acked (length d.table) d.log upto
follows_one nodes d (records.Ancestors xs) ok kept = follows_same (length d.table) 0 d.log
follows_one nodes d (records.Rate p rate hops) ok kept = follows_same (length d.table) 1 d.log
follows_one nodes d (records.Epoch e) ok kept = follows_same (length d.table) 0 d.log
follows_one nodes d (records.Base n) ok kept =
    cond_both (is_joined d.mode) (record d { log = acked_whole n }) d (λ e. Follows (length d.table) 0 d.log e.log)
    (λ _. record { waiting = inr (omega arith); length = inr ok })
    (λ _. follows_same (length d.table) 0 d.log)
follows_one nodes d (records.Snapshot g) ok kept = follows_empty (length d.table) 0 d.log
follows_one nodes d (records.Entry c) ok kept = follows_noted (length d.table) d.mode d.log c
follows_one nodes d (records.Info number clients) ok kept = follows_same (length d.table) 0 d.log

-- a table has at most one row more after a certificate is put
put_rows : (t : List Cert) (c : Cert) → length (put t c) ≤ length t + 1
put_rows [] c = omega arith
put_rows (k ∷ ks) c =
    cond_both (k.subject == c.subject) (c ∷ ks) (if nat_lt c.subject k.subject then c ∷ k ∷ ks else k ∷ put ks c) (λ t. length t ≤ length (k ∷ ks) + 1)
    (λ _. omega arith)
    (λ _. cond_both (nat_lt c.subject k.subject) (c ∷ k ∷ ks) (k ∷ put ks c) (λ t. length t ≤ length (k ∷ ks) + 1) (λ _. omega arith) (λ _. omega (arith, put_rows ks c)))

merge_rows : (t : List Cert) (c : Cert) → length (merge t c) ≤ length t + 1
merge_rows t c = cond_both (is_news t c) (put t c) t (λ u. length u ≤ length t + 1) (λ _. put_rows t c) (λ _. omega arith)

-- the table after one more record has at most as many more rows as the record brings
rows_one : (d : Durable) (r : Record) → length (fold_one d r).table ≤ length d.table + brought r
rows_one d (records.Ask s p) = omega arith
rows_one d (records.Joined p r) = cond_both (d.seq == 0) d (record d { mode = modes.Joined p; rank = Some r; log = begun_with d.table }) (λ e. length e.table ≤ length d.table + 0) (λ _. omega arith) (λ _. omega arith)
rows_one d records.Lost = omega arith
rows_one d records.Acting = omega arith
rows_one d (records.Ranked r) = omega arith
rows_one d (records.OldEntry x s p dead) = merge_rows d.table (record { subject = x; seq = s; parent = p; dead = dead; number = 0; clients = 0 })
rows_one d (records.Acked upto) = omega arith
rows_one d (records.Ancestors xs) = omega arith
rows_one d (records.Rate p rate hops) = omega arith
rows_one d (records.Epoch e) = omega arith
rows_one d (records.Base n) = cond_both (is_joined d.mode) (record d { log = acked_whole n }) d (λ e. length e.table ≤ length d.table + 0) (λ _. omega arith) (λ _. omega arith)
rows_one d (records.Snapshot g) = omega arith
rows_one d (records.Entry c) = merge_rows d.table c
rows_one d (records.Info number clients) = omega arith

-- there is room for the records that are left
room_one : (v : DurableView) (r : Record) (more : ℕ) → IsRecord v.nodes r → IsKept v.nodes v.kept → HasRoom v (brought r + more) → HasRoom (record v { kept = fold_one v.kept r }) more
room_one v r more ok kept room = by_log (follows_one v.nodes v.kept r ok kept) where
  by_waiting : (n : ℕ) → (n ≤ length v.kept.log.waiting + brought r) ⊎ (n ≤ length v.kept.table) → n + more ≤ v.room
  by_waiting n (inl h) = omega (arith, h, room.waiting)
  by_waiting n (inr h) = omega (arith, h, room.rows)

  by_length : (n : ℕ) → (n ≤ v.kept.log.length + brought r) ⊎ (n ≤ MAX_BASE_ACKED) → n + more < 2 ^ 63
  by_length n (inl h) = omega (arith, h, room.places)
  by_length n (inr h) = omega (arith, h, room.based)

  by_log : Follows (length v.kept.table) (brought r) v.kept.log (fold_one v.kept r).log → HasRoom (record v { kept = fold_one v.kept r }) more
  by_log f = record {
    waiting = by_waiting (length (fold_one v.kept r).log.waiting) f.waiting;
    rows = omega (arith, room.rows, rows_one v.kept r);
    places = by_length (fold_one v.kept r).log.length f.length;
    based = omega (arith, room.based);
  }

-- room for more is room for the first
room_first : (v : DurableView) (one more : ℕ) → HasRoom v (one + more) → HasRoom v one
room_first v one more room = record { waiting = omega (arith, room.waiting); rows = omega (arith, room.rows); places = omega (arith, room.places); based = omega (arith, room.based) }

-- room for one more certificate or rate, where any record is folded
pub room_for : (v : DurableView) (r : Record) → length v.kept.log.waiting + (length v.kept.table + 1) ≤ v.room → v.kept.log.length + 1 < 2 ^ 63 → HasRoom v (brought r)
room_for v r room places = record {
  waiting = omega (arith, room, brought_few r);
  rows = omega (arith, room, brought_few r);
  places = omega (arith, places, brought_few r);
  based = omega (arith, brought_few r);
}

-- the log is at most one longer, or at most as long as a base may be
pub length_one : (nodes : ℕ) (d : Durable) (r : Record) (most : ℕ) → IsRecord nodes r → IsKept nodes d → MAX_BASE_ACKED ≤ most → d.log.length ≤ most → (fold_one d r).log.length ≤ most + 1
length_one nodes d r most ok kept base less = by_length ((follows_one nodes d r ok kept).length) where
  by_length : ((fold_one d r).log.length ≤ d.log.length + brought r) ⊎ ((fold_one d r).log.length ≤ MAX_BASE_ACKED) → (fold_one d r).log.length ≤ most + 1
  by_length (inl h) = omega (arith, brought_few r)
  by_length (inr h) = omega arith

-- The steps of a list

-- the state so far and the effect of the rest are the whole; this number of records was folded
pub record FoldsList (first now : DurableView) (all rest : List Record) (done : ℕ) : Type 0 where
  pub folds : folded now.kept rest ≡ folded first.kept all
  pub nodes : now.nodes ≡ first.nodes
  pub room : first.room ≤ now.room
  pub kept : IsKept now.nodes now.kept
  pub length : now.kept.log.length ≤ MAX_BASE_ACKED + done
  pub lawful : AllByRecursion (IsRecord now.nodes) rest

pub list_begin : (v : DurableView) (rs : List Record) → IsKept v.nodes v.kept → v.kept.log.length ≤ MAX_BASE_ACKED → AllByRecursion (IsRecord v.nodes) rs → FoldsList v v rs rs 0
list_begin v rs kept few lawful = record { folds = refl; nodes = refl; room = omega arith; kept = kept; length = omega arith; lawful = lawful }

pub list_first : (first now : DurableView) (all : List Record) (i : ℕ) (r : Record) → i < length all → r ≡ get_or all i r → FoldsList first now all (drop i all) i → IsRecord now.nodes r
list_first first now all i r within e on = (subst (λ (xs : List Record). AllByRecursion (IsRecord now.nodes) xs) (drop_at all i r within e) on.lawful).0

pub list_on : (first now next : DurableView) (all : List Record) (i : ℕ) (r : Record) → i < length all → r ≡ get_or all i r → next.kept ≡ fold_one now.kept r → next.nodes ≡ now.nodes → now.room ≤ next.room → FoldsList first now all (drop i all) i → FoldsList first next all (drop (i + 1) all) (i + 1)
list_on first now next all i r within e made same stays on =
    let rest = drop (i + 1) all in
    let lawful = subst (λ (xs : List Record). AllByRecursion (IsRecord now.nodes) xs) (drop_at all i r within e) on.lawful in
    let longer : (fold_one now.kept r).log.length ≤ MAX_BASE_ACKED + i + 1 = length_one now.nodes now.kept r (MAX_BASE_ACKED + i) lawful.0 on.kept (omega arith) on.length in
    record {
      folds = ap (λ (d : Durable). folded d rest) made ∙ sym (ap (λ (xs : List Record). folded now.kept xs) (drop_at all i r within e)) ∙ on.folds;
      nodes = same ∙ on.nodes;
      room = omega (arith, on.room);
      kept = rw (made, same) (kept_one now.nodes now.kept r lawful.0 on.kept);
      length = rw made (omega (arith, longer));
      lawful = rw same (lawful.1);
    }

pub list_end : (first now : DurableView) (all : List Record) (i : ℕ) → length all ≤ i → FoldsList first now all (drop i all) i → now.kept ≡ folded first.kept all
list_end first now all i over on = let none : drop i all ≡ [] = drop_of_length-le all over in sym (ap (λ (xs : List Record). folded now.kept xs) none) ∙ on.folds

-- The steps of the loop

-- the state so far and the effect of the rest are the whole
pub record FoldsOn (first now : DurableView) (all rest : List Record) : Type 0 where
  pub folds : folded now.kept rest ≡ folded first.kept all
  pub nodes : now.nodes ≡ first.nodes
  pub same : now.room ≡ first.room
  pub kept : IsKept now.nodes now.kept
  pub room : HasRoom now (brought_by rest)
  pub lawful : AllByRecursion (IsRecord now.nodes) rest

pub folds_begin : (v : DurableView) (rs : List Record) → IsKept v.nodes v.kept → HasRoom v (brought_by rs) → AllByRecursion (IsRecord v.nodes) rs → FoldsOn v v rs rs
folds_begin v rs kept room lawful = record { folds = refl; nodes = refl; same = refl; kept = kept; room = room; lawful = lawful }

pub folds_first : (first now : DurableView) (all rest : List Record) (r : Record) (rs : List Record) → rest ≡ r ∷ rs → FoldsOn first now all rest → IsRecord now.nodes r × IsKept now.nodes now.kept × HasRoom now (brought r)
folds_first first now all rest r rs e on =
    let lawful = subst (λ (xs : List Record). AllByRecursion (IsRecord now.nodes) xs) e on.lawful in
    let room = subst (λ (xs : List Record). HasRoom now (brought_by xs)) e on.room in
    (lawful.0, on.kept, room_first now (brought r) (brought_by rs) room)

pub folds_on : (first now next : DurableView) (all rest : List Record) (r : Record) (rs : List Record) → rest ≡ r ∷ rs → next ≡ record now { kept = fold_one now.kept r } → FoldsOn first now all rest → FoldsOn first next all rs
folds_on first now next all rest r rs e made on =
    let lawful = subst (λ (xs : List Record). AllByRecursion (IsRecord now.nodes) xs) e on.lawful in
    let room = subst (λ (xs : List Record). HasRoom now (brought_by xs)) e on.room in
    subst (λ (v : DurableView). FoldsOn first v all rs) (sym made) (record {
      folds = sym (ap (λ (xs : List Record). folded now.kept xs) e) ∙ on.folds;
      nodes = on.nodes;
      same = on.same;
      kept = kept_one now.nodes now.kept r lawful.0 on.kept;
      room = room_one now r (brought_by rs) lawful.0 on.kept room;
      lawful = lawful.1;
    })

abbrev view : ℕ → Durable → ℕ → DurableView
view nodes kept room = record { nodes = nodes; kept = kept; room = room }

pub folds_end : (first now : DurableView) (all rest : List Record) → rest ≡ [] → FoldsOn first now all rest → now ≡ record first { kept = folded first.kept all }
folds_end first now all rest e on =
    let kept : now.kept ≡ folded first.kept all = sym (ap (λ (xs : List Record). folded now.kept xs) e) ∙ on.folds in
    ap (λ (n : ℕ). view n now.kept now.room) on.nodes ∙ ap (λ (d : Durable). view first.nodes d now.room) kept ∙ ap (λ (n : ℕ). view first.nodes (folded first.kept all) n) on.same
