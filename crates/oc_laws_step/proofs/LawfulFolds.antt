-- A lawful record keeps the durable state within its ranges, and so does each change of a step under way.
use Rattle.std.proofs.Common.{◌≡◌, ℕ, zero, suc, ◌+◌, ◌-◌, ◌<◌, ◌≤◌, true, ◌==◌, nat_lt, nat_le, Option, Some, List, [], ◌∷◌, length, drop, refl, arith, ltb-true, leb-true, length-append, length-drop}
use Rattle.std.specs.List.{AllByRecursion}
use Rattle.std.proofs.lemmas.Bool.{cond_both, eqb-false, and_parts}
use Rattle.oc_base.specs.declared.cert.Cert.{Cert}
use Rattle.oc_base.specs.declared.rank.Rank.{Rank}
use Rattle.oc_model.specs.declared.answer.Answer.{Answer}
use Rattle.oc_model.specs.declared.message.Body.{Body}
use Rattle.oc_model.specs.declared.mode.Mode.{Mode}
use Rattle.oc_model.specs.declared.mode.Mode.TheVariants as modes
use Rattle.oc_model.specs.declared.record.Record.{Record}
use Rattle.oc_model.specs.declared.record.Record.TheVariants as records
use Rattle.oc_model.specs.declared.reading.Reading.{Reading}
use Rattle.oc_base.specs.declared.limits.TheConstants.{MAX_NODES, MAX_LOG_LENGTH, MAX_FRAME_RECORDS}
use Rattle.oc_model.specs.Measures.{with_reading}
use Rattle.oc_model.specs.declared.soft.Search.{Search}
use Rattle.oc_model.specs.declared.soft.Soft.{Soft}
use Rattle.oc_model.specs.ChangeLog.{begun_with, is_ahead, acked_whole}
use Rattle.oc_model.specs.Lawful.{IsRecord, IsBody, IsMessage}
use Rattle.oc_base.specs.Lawful.{IsNode, IsLong, IsRate, IsRank, IsRankOrNone, IsCert, AreCerts, AreAncestors}
use Rattle.oc_model.specs.Node.{Control, Durable, Log, empty_log, new_durable}
use Rattle.oc_model.specs.Plan.{Plan, begun, write, send, answers, with_soft, searching}
use Rattle.oc_model.specs.Records.{fold_one, entered, noted, is_joined}
use Rattle.oc_model.proofs.Lists.{all_append}
use Rattle.oc_laws_step.specs.LawfulNode.{IsReading, IsLawfulMode, IsLawfulDurable, IsLawfulSearch, IsLawfulSoft, IsLawfulControl, IsLawfulPlan}
use Rattle.oc_laws_step.proofs.Folds.{all_drop}
use Rattle.oc_laws_step.proofs.Ranges.{all_set, certs_merge, rows_few}
use Rattle.oc_laws_step.proofs.Tables.{table_merge}

-- The effect of a record

waiting_noted : (nodes : ℕ) (m : Mode) (l : Log) (c : Cert) → IsCert nodes c → AreCerts nodes l.waiting → AreCerts nodes (noted m l c).waiting
waiting_noted nodes (modes.Joined p) l c here all = all_append (IsCert nodes) l.waiting (c ∷ []) all (here, tt)
waiting_noted nodes modes.Idle l c here all = all
waiting_noted nodes (modes.Asking p) l c here all = all
waiting_noted nodes modes.Acting l c here all = all

-- a certificate more leaves the log whole
whole_noted : (m : Mode) (l : Log) (c : Cert) → l.length ≡ l.acked + length l.waiting → (noted m l c).length ≡ (noted m l c).acked + length (noted m l c).waiting
whole_noted (modes.Joined p) l c whole = omega (arith, whole, length-append l.waiting (c ∷ []))
whole_noted modes.Idle l c whole = whole
whole_noted (modes.Asking p) l c whole = whole
whole_noted modes.Acting l c whole = whole

lawful_entered : (nodes : ℕ) (d : Durable) (c : Cert) → IsCert nodes c → IsLawfulDurable nodes d → IsLawfulDurable nodes (entered d c)
lawful_entered nodes d c here ok = record {
  seq = ok.seq;
  mode = ok.mode;
  rank = ok.rank;
  number = ok.number;
  clients = ok.clients;
  sorted = table_merge d.table c ok.sorted;
  table = certs_merge nodes d.table c here ok.table;
  waiting = waiting_noted nodes d.mode d.log c here ok.waiting;
  whole = whole_noted d.mode d.log c ok.whole;
  ancestors = ok.ancestors;
  measures = ok.measures;
}

-- a durable part whose log is another
lawful_log : (nodes : ℕ) (d : Durable) (l : Log) → AreCerts nodes l.waiting → l.length ≡ l.acked + length l.waiting → IsLawfulDurable nodes d → IsLawfulDurable nodes (record d { log = l })
lawful_log nodes d l waiting whole ok = record {
  seq = ok.seq;
  mode = ok.mode;
  rank = ok.rank;
  number = ok.number;
  clients = ok.clients;
  sorted = ok.sorted;
  table = ok.table;
  waiting = waiting;
  whole = whole;
  ancestors = ok.ancestors;
  measures = ok.measures;
}

-- an acknowledgement leaves a whole log of the certificates that still wait
acked_ahead : (nodes : ℕ) (d : Durable) (upto : ℕ) → is_ahead d.log upto ≡ true → IsLawfulDurable nodes d
    → IsLawfulDurable nodes (record d { log = record { length = d.log.length; acked = upto; waiting = drop (upto - d.log.acked) d.log.waiting } })
acked_ahead nodes d upto ahead ok =
    let both = and_parts (nat_lt d.log.acked upto) (nat_le upto d.log.length) ahead in
    let after : d.log.acked < upto = ltb-true d.log.acked upto both.0 in
    let within : upto ≤ d.log.length = leb-true upto d.log.length both.1 in
    lawful_log nodes d (record { length = d.log.length; acked = upto; waiting = drop (upto - d.log.acked) d.log.waiting }) (all_drop (IsCert nodes) (upto - d.log.acked) d.log.waiting ok.waiting)
    (omega (arith, after, within, ok.whole, length-drop (upto - d.log.acked) d.log.waiting)) ok

pub lawful_acked : (nodes : ℕ) (d : Durable) (upto : ℕ) → IsLawfulDurable nodes d → IsLawfulDurable nodes (fold_one d (records.Acked upto))
lawful_acked nodes d upto ok =
    cond_both (is_ahead d.log upto) (record { length = d.log.length; acked = upto; waiting = drop (upto - d.log.acked) d.log.waiting }) d.log (λ l. IsLawfulDurable nodes (record d { log = l }))
    (λ e. acked_ahead nodes d upto e ok) (λ _. ok)

lawful_joined : (nodes : ℕ) (d : Durable) (p : ℕ) (r : Rank) → IsNode nodes p → IsRank r → IsLawfulDurable nodes d → IsLawfulDurable nodes (fold_one d (records.Joined p r))
lawful_joined nodes d p r peer rank ok =
    cond_both (d.seq == 0) d (record d { mode = modes.Joined p; rank = Some r; log = begun_with d.table }) (IsLawfulDurable nodes)
    (λ _. ok)
    (λ e. let asked : d.seq ≡ 0 → ⊥ = eqb-false d.seq 0 e in
    record {
      seq = ok.seq;
      mode = (not_zero d.seq asked, peer);
      rank = rank;
      number = ok.number;
      clients = ok.clients;
      sorted = ok.sorted;
      table = ok.table;
      waiting = ok.table;
      whole = omega arith;
      ancestors = ok.ancestors;
      measures = ok.measures;
    }) where
      not_zero : (n : ℕ) → (n ≡ 0 → ⊥) → 1 ≤ n
      not_zero n h = omega arith

lawful_base : (nodes : ℕ) (d : Durable) (n : ℕ) → IsLawfulDurable nodes d → IsLawfulDurable nodes (fold_one d (records.Base n))
lawful_base nodes d n ok =
    cond_both (is_joined d.mode) (record d { log = acked_whole n }) d (IsLawfulDurable nodes)
    (λ _. lawful_log nodes d (acked_whole n) tt (omega arith) ok)
    (λ _. ok)

-- no reading is within the ranges
unread_lawful : (n : ℕ) → AllByRecursion IsReading (new_durable n).measures
unread_lawful zero = tt
unread_lawful (suc n) = ((omega arith, omega arith), unread_lawful n)

pub lawful_new_durable : (nodes n : ℕ) → IsLawfulDurable nodes (new_durable n)
lawful_new_durable nodes n = record {
  seq = omega arith;
  mode = tt;
  rank = tt;
  number = omega arith;
  clients = omega arith;
  sorted = tt;
  table = tt;
  waiting = tt;
  whole = refl;
  ancestors = (tt, omega arith);
  measures = unread_lawful n;
}

-- a mode with an empty log
lawful_mode : (nodes : ℕ) (d : Durable) (s : ℕ) (m : Mode) (xs : List ℕ) → IsLong s → IsLawfulMode nodes s m → AreAncestors nodes xs → IsLawfulDurable nodes d
    → IsLawfulDurable nodes (record d { seq = s; mode = m; log = empty_log; ancestors = xs })
lawful_mode nodes d s m xs long mode ancestors ok = record {
  seq = long;
  mode = mode;
  rank = ok.rank;
  number = ok.number;
  clients = ok.clients;
  sorted = ok.sorted;
  table = ok.table;
  waiting = tt;
  whole = refl;
  ancestors = ancestors;
  measures = ok.measures;
}

-- a rank, an own pair, ancestors and measures
lawful_parts : (nodes : ℕ) (d : Durable) (r : Option Rank) (number clients : ℕ) (xs : List ℕ) (ms : List Reading) → IsRankOrNone r → IsLong number → IsLong clients → AreAncestors nodes xs → AllByRecursion IsReading ms
    → IsLawfulDurable nodes d → IsLawfulDurable nodes (record d { rank = r; number = number; clients = clients; ancestors = xs; measures = ms })
lawful_parts nodes d r number clients xs ms rank own served ancestors measures ok = record {
  seq = ok.seq;
  mode = ok.mode;
  rank = rank;
  number = own;
  clients = served;
  sorted = ok.sorted;
  table = ok.table;
  waiting = ok.waiting;
  whole = ok.whole;
  ancestors = ancestors;
  measures = measures;
}

-- each lawful record, of a snapshot too
pub lawful_fold_one : (nodes : ℕ) (d : Durable) (r : Record) → IsRecord nodes r → IsLawfulDurable nodes d → IsLawfulDurable nodes (fold_one d r)
lawful_fold_one nodes d (records.Ask s p) r ok = lawful_mode nodes d s (modes.Asking p) d.ancestors r.0.1 (r.0.0, r.1) ok.ancestors ok
lawful_fold_one nodes d (records.Joined p q) r ok = lawful_joined nodes d p q r.0 r.1 ok
lawful_fold_one nodes d records.Lost r ok = lawful_mode nodes d d.seq modes.Idle d.ancestors ok.seq tt ok.ancestors ok
lawful_fold_one nodes d records.Acting r ok = lawful_mode nodes d d.seq modes.Acting [] ok.seq tt (tt, omega arith) ok
lawful_fold_one nodes d (records.Ranked q) r ok = lawful_parts nodes d (Some q) d.number d.clients d.ancestors d.measures r ok.number ok.clients ok.ancestors ok.measures ok
lawful_fold_one nodes d (records.OldEntry x s p dead) r ok =
    lawful_entered nodes d (record { subject = x; seq = s; parent = p; dead = dead; number = 0; clients = 0 })
    (record { subject = r.0; seq = r.1; parent = r.2; number = omega arith; clients = omega arith }) ok
lawful_fold_one nodes d (records.Acked upto) r ok = lawful_acked nodes d upto ok
lawful_fold_one nodes d (records.Ancestors xs) r ok = lawful_parts nodes d d.rank d.number d.clients xs d.measures ok.rank ok.number ok.clients r ok.measures ok
lawful_fold_one nodes d (records.Rate p rate hops) r ok =
    lawful_parts nodes d d.rank d.number d.clients d.ancestors (with_reading d.measures p (record { rate = rate; hops = hops })) ok.rank ok.number ok.clients ok.ancestors
    (all_set IsReading d.measures (p - 1) (record { rate = rate; hops = hops }) (r.1, r.2) ok.measures) ok
lawful_fold_one nodes d (records.Epoch e) r ok =
    lawful_parts nodes d (Some (record { epoch = e; depth = 0 })) d.number d.clients d.ancestors d.measures (r, omega arith) ok.number ok.clients ok.ancestors ok.measures ok
lawful_fold_one nodes d (records.Base n) r ok = lawful_base nodes d n ok
lawful_fold_one nodes d (records.Snapshot g) r ok = lawful_new_durable nodes _
lawful_fold_one nodes d (records.Entry c) r ok = lawful_entered nodes d c r ok
lawful_fold_one nodes d (records.Info number clients) r ok = lawful_parts nodes d d.rank number clients d.ancestors d.measures ok.rank r.0.1 r.1 ok.ancestors ok.measures ok

-- The length of the log

-- a certificate lengthens it by one at most
length_noted : (m : Mode) (l : Log) (c : Cert) → (noted m l c).length ≤ l.length + 1
length_noted (modes.Joined p) l c = omega arith
length_noted modes.Idle l c = omega arith
length_noted (modes.Asking p) l c = omega arith
length_noted modes.Acting l c = omega arith

-- so does a record, or it leaves a log within its limit
pub log_folded : (nodes : ℕ) (d : Durable) (r : Record) (n : ℕ) → nodes ≤ MAX_NODES → IsRecord nodes r → IsLawfulDurable nodes d → d.log.length ≤ MAX_LOG_LENGTH + n
    → (fold_one d r).log.length ≤ MAX_LOG_LENGTH + (n + 1)
log_folded nodes d (records.Ask s p) n few r ok long = omega arith
log_folded nodes d (records.Joined p q) n few r ok long =
    cond_both (d.seq == 0) d (record d { mode = modes.Joined p; rank = Some q; log = begun_with d.table }) (λ e. e.log.length ≤ MAX_LOG_LENGTH + (n + 1))
    (λ _. omega (arith, long)) (λ _. omega (arith, few, rows_few nodes d.table ok.sorted ok.table))
log_folded nodes d records.Lost n few r ok long = omega arith
log_folded nodes d records.Acting n few r ok long = omega arith
log_folded nodes d (records.Ranked q) n few r ok long = omega (arith, long)
log_folded nodes d (records.OldEntry x s p dead) n few r ok long =
    omega (arith, long, length_noted d.mode d.log (record { subject = x; seq = s; parent = p; dead = dead; number = 0; clients = 0 }))
log_folded nodes d (records.Acked upto) n few r ok long =
    cond_both (is_ahead d.log upto) (record { length = d.log.length; acked = upto; waiting = drop (upto - d.log.acked) d.log.waiting }) d.log (λ l. l.length ≤ MAX_LOG_LENGTH + (n + 1))
    (λ _. omega (arith, long)) (λ _. omega (arith, long))
log_folded nodes d (records.Ancestors xs) n few r ok long = omega (arith, long)
log_folded nodes d (records.Rate p rate hops) n few r ok long = omega (arith, long)
log_folded nodes d (records.Epoch e) n few r ok long = omega (arith, long)
log_folded nodes d (records.Base k) n few r ok long =
    cond_both (is_joined d.mode) (record d { log = acked_whole k }) d (λ e. e.log.length ≤ MAX_LOG_LENGTH + (n + 1)) (λ _. omega (arith, r)) (λ _. omega (arith, long))
log_folded nodes d (records.Snapshot g) n few r ok long = omega arith
log_folded nodes d (records.Entry c) n few r ok long = omega (arith, long, length_noted d.mode d.log c)
log_folded nodes d (records.Info number clients) n few r ok long = omega (arith, long)

-- The effect of a change of a step under way

pub lawful_begun : (nodes : ℕ) (n : Control) → n.kept.log.length ≤ MAX_LOG_LENGTH → IsLawfulControl nodes n → IsLawfulPlan nodes (begun n)
lawful_begun nodes n short ok = record { node = ok; log = omega (arith, short); records = λ _. tt; sends = λ _. tt; wants = tt }

-- a node with other durable parts
lawful_kept : (nodes : ℕ) (n : Control) (d : Durable) → IsLawfulDurable nodes d → IsLawfulControl nodes n → IsLawfulControl nodes (record n { kept = d })
lawful_kept nodes n d here ok = record { few = ok.few; among = ok.among; me = ok.me; chain = ok.chain; chunk = ok.chunk; kept = here; soft = ok.soft; rates = ok.rates }

pub lawful_write : (nodes : ℕ) (o : Plan) (r : Record) → IsRecord nodes r → IsLawfulPlan nodes o → IsLawfulPlan nodes (write o r)
lawful_write nodes o r here ok = record {
  node = lawful_kept nodes o.node (fold_one o.node.kept r) (lawful_fold_one nodes o.node.kept r here ok.node.kept) ok.node;
  log = let one = log_folded nodes o.node.kept r (length o.records) ok.node.few here ok.node.kept ok.log in omega (arith, one, length-append o.records (r ∷ []));
  records = λ few. all_append (IsRecord nodes) o.records (r ∷ []) (ok.records (omega (arith, few, length-append o.records (r ∷ [])))) (here, tt);
  sends = λ few. ok.sends (omega (arith, few, length-append o.records (r ∷ [])));
  wants = ok.wants;
}

-- an acknowledgement of a part of the log
pub lawful_write_acked : (nodes : ℕ) (o : Plan) (upto : ℕ) → is_ahead o.node.kept.log upto ≡ true → IsLawfulPlan nodes o → IsLawfulPlan nodes (write o (records.Acked upto))
lawful_write_acked nodes o upto ahead ok =
    let within : upto ≤ o.node.kept.log.length = leb-true upto o.node.kept.log.length (and_parts (nat_lt o.node.kept.log.acked upto) (nat_le upto o.node.kept.log.length) ahead).1 in
    record {
      node = lawful_kept nodes o.node (fold_one o.node.kept (records.Acked upto)) (lawful_acked nodes o.node.kept upto ok.node.kept) ok.node;
      log = rw ahead (omega (arith, ok.log, length-append o.records (records.Acked upto ∷ [])));
      records = λ few. all_append (IsRecord nodes) o.records (records.Acked upto ∷ []) (ok.records (omega (arith, few, length-append o.records (records.Acked upto ∷ []))))
          (omega (arith, few, within, ok.log, length-append o.records (records.Acked upto ∷ [])), tt);
      sends = λ few. ok.sends (omega (arith, few, length-append o.records (records.Acked upto ∷ [])));
      wants = ok.wants;
    }

-- a message that is lawful while a frame has room for the records
pub lawful_send_if : (nodes : ℕ) (o : Plan) (p : ℕ) (b : Body) → IsNode nodes p → (length o.records ≤ MAX_FRAME_RECORDS → IsBody nodes b) → IsLawfulPlan nodes o → IsLawfulPlan nodes (send o p b)
lawful_send_if nodes o p b to here ok = record {
  node = ok.node;
  log = ok.log;
  records = ok.records;
  sends = λ few. all_append (IsMessage nodes) o.sends (record { from = o.node.me; to = p; body = b } ∷ []) (ok.sends few) (record { from = ok.node.me; to = to; body = here few }, tt);
  wants = ok.wants;
}

pub lawful_send : (nodes : ℕ) (o : Plan) (p : ℕ) (b : Body) → IsNode nodes p → IsBody nodes b → IsLawfulPlan nodes o → IsLawfulPlan nodes (send o p b)
lawful_send nodes o p b to here ok = lawful_send_if nodes o p b to (λ _. here) ok

pub lawful_answers : (nodes : ℕ) (o : Plan) (a : Answer) → IsLawfulPlan nodes o → IsLawfulPlan nodes (answers o a)
lawful_answers nodes o a ok = record { node = ok.node; log = ok.log; records = ok.records; sends = ok.sends; wants = ok.wants }

pub lawful_soft : (nodes : ℕ) (o : Plan) (s : Soft) → IsLawfulSoft nodes s → IsLawfulPlan nodes o → IsLawfulPlan nodes (with_soft o s)
lawful_soft nodes o s here ok = record {
  node = record { few = ok.node.few; among = ok.node.among; me = ok.node.me; chain = ok.node.chain; chunk = ok.node.chunk; kept = ok.node.kept; soft = here; rates = ok.node.rates };
  log = ok.log;
  records = ok.records;
  sends = ok.sends;
  wants = ok.wants;
}

pub lawful_searching : (nodes : ℕ) (o : Plan) (s : Option Search) → IsLawfulSearch nodes s → IsLawfulPlan nodes o → IsLawfulPlan nodes (searching o s)
lawful_searching nodes o s here ok = lawful_soft nodes o (record o.node.soft { search = s }) (record { clock = ok.node.soft.clock; tries = ok.node.soft.tries; search = here }) ok

-- a change of one small part that a start clears and that is no id of a node
pub lawful_due : (nodes : ℕ) (o : Plan) (due : Option ℕ) → IsLawfulPlan nodes o → IsLawfulPlan nodes (with_soft o (record o.node.soft { due = due }))
lawful_due nodes o due ok = lawful_soft nodes o (record o.node.soft { due = due }) (record { clock = ok.node.soft.clock; tries = ok.node.soft.tries; search = ok.node.soft.search }) ok

-- the lists by number, of which the rates have a range
pub lawful_lists : (nodes : ℕ) (o : Plan) (leases : List (Option ℕ)) (rates counts : List ℕ) → AllByRecursion IsRate rates → IsLawfulPlan nodes o
    → IsLawfulPlan nodes (record o { node = record o.node { leases = leases; rates = rates; counts = counts } })
lawful_lists nodes o leases rates counts here ok = record {
  node = record { few = ok.node.few; among = ok.node.among; me = ok.node.me; chain = ok.node.chain; chunk = ok.node.chunk; kept = ok.node.kept; soft = ok.node.soft; rates = here };
  log = ok.log;
  records = ok.records;
  sends = ok.sends;
  wants = ok.wants;
}
