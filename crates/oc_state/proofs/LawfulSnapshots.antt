-- The records of a snapshot are lawful.
use Rattle.std.proofs.Common.{◌≡◌, ℕ, ◌+◌, ◌≤◌, ◌==◌, Option, Some, None, List, [], ◌∷◌, ◌++◌, length, arith, sym, subst}
use Rattle.std.specs.List.{AllByRecursion}
use Rattle.std.proofs.lemmas.Bool.{cond_both, eqb-false}
use Rattle.oc_base.specs.Lawful.{IsNode, IsLong, IsCount, IsRankOrNone, AreCerts, AreAncestors}
use Rattle.oc_base.specs.declared.cert.Cert.{Cert}
use Rattle.oc_base.specs.declared.limits.TheConstants.{MAX_BASE_ACKED}
use Rattle.oc_base.specs.declared.rank.Rank.{Rank}
use Rattle.oc_model.specs.declared.mode.Mode.{Mode}
use Rattle.oc_model.specs.declared.mode.Mode.TheVariants as modes
use Rattle.oc_model.specs.declared.reading.Reading.{Reading}
use Rattle.oc_model.specs.declared.record.Record.{Record}
use Rattle.oc_model.specs.declared.record.Record.TheVariants as records
use Rattle.oc_model.specs.Lawful.{IsRecord, AreRecords}
use Rattle.oc_model.specs.Measures.{same_reading}
use Rattle.oc_model.specs.Node.{Durable, no_reading}
use Rattle.oc_model.specs.Snapshot.{snapshot, entries, own_pair, peer_or_first, last_ask, mode_records, rank_records, ancestor_records, rates_from}
use Rattle.oc_model.proofs.Lists.{all_append}
use Rattle.oc_laws_step.specs.LawfulNode.{IsLawfulDurable, IsLawfulMode, IsReading}
use Rattle.oc_laws_step.proofs.Ranges.{all_map, rank_lawful}

lawful_entries : (nodes : ℕ) (cs : List Cert) → AreCerts nodes cs → AreRecords nodes (entries cs)
lawful_entries nodes cs certs = all_map (IsRecord nodes) (λ c. records.Entry c) cs certs

lawful_pair : (nodes : ℕ) (d : Durable) → IsLong d.number → IsLong d.clients → AreRecords nodes (own_pair d)
lawful_pair nodes d number clients =
    cond_both (d.number == 0) [] (records.Info d.number d.clients ∷ []) (AreRecords nodes)
    (λ _. tt)
    (λ e. let some = eqb-false d.number 0 e in let least : 1 ≤ d.number = omega (arith, some) in (((least, number), clients), tt))

lawful_peer : (nodes seq : ℕ) (m : Mode) → 1 ≤ nodes → IsLawfulMode nodes seq m → IsNode nodes (peer_or_first m)
lawful_peer nodes seq modes.Idle some is = (omega arith, some)
lawful_peer nodes seq (modes.Asking p) some is = is.1
lawful_peer nodes seq (modes.Joined p) some is = is.1
lawful_peer nodes seq modes.Acting some is = (omega arith, some)

lawful_last : (nodes : ℕ) (d : Durable) → 1 ≤ nodes → IsLong d.seq → IsLawfulMode nodes d.seq d.mode → AreRecords nodes (last_ask d)
lawful_last nodes d some seq is =
    cond_both (d.seq == 0) [] (records.Ask d.seq (peer_or_first d.mode) ∷ []) (AreRecords nodes)
    (λ _. tt)
    (λ e. let asked = eqb-false d.seq 0 e in let least : 1 ≤ d.seq = omega (arith, asked) in (((least, seq), lawful_peer nodes d.seq d.mode some is), tt))

lawful_mode_records : (nodes seq : ℕ) (m : Mode) (d : Durable) → IsLawfulMode nodes seq m → IsRankOrNone d.rank → d.log.acked ≤ MAX_BASE_ACKED → AreCerts nodes d.log.waiting → AreRecords nodes (mode_records m d)
lawful_mode_records nodes seq modes.Idle d is rank acked waiting = cond_both (d.seq == 0) [] (records.Lost ∷ []) (AreRecords nodes) (λ _. tt) (λ _. (tt, tt))
lawful_mode_records nodes seq (modes.Asking p) d is rank acked waiting = tt
lawful_mode_records nodes seq (modes.Joined p) d is rank acked waiting = ((is.1, rank_lawful d.rank rank), (acked, lawful_entries nodes d.log.waiting waiting))
lawful_mode_records nodes seq modes.Acting d is rank acked waiting = (tt, tt)

lawful_some_rank : (nodes : ℕ) (rank : Option Rank) → IsRankOrNone rank → AreRecords nodes (rank_records modes.Idle (record { seq = 0; mode = modes.Idle; rank = rank; number = 0; clients = 0; table = []; log = record { length = 0; acked = 0; waiting = [] }; ancestors = []; measures = [] }))
lawful_some_rank nodes None is = tt
lawful_some_rank nodes (Some r) is = (is, tt)

lawful_rank_records : (nodes : ℕ) (m : Mode) (d : Durable) → IsRankOrNone d.rank → AreRecords nodes (rank_records m d)
lawful_rank_records nodes modes.Idle d is = lawful_some_rank nodes d.rank is
lawful_rank_records nodes (modes.Asking p) d is = lawful_some_rank nodes d.rank is
lawful_rank_records nodes (modes.Joined p) d is = tt
lawful_rank_records nodes modes.Acting d is = lawful_some_rank nodes d.rank is

lawful_ancestor_records : (nodes : ℕ) (xs : List ℕ) → AreAncestors nodes xs → AreRecords nodes (ancestor_records xs)
lawful_ancestor_records nodes [] are = tt
lawful_ancestor_records nodes (x ∷ xs) are = (are, tt)

lawful_rates : (nodes x : ℕ) (rs : List Reading) → 1 ≤ x → x + length rs ≤ nodes + 1 → AllByRecursion IsReading rs → AreRecords nodes (rates_from x rs)
lawful_rates nodes x [] least most all = tt
lawful_rates nodes x (r ∷ rs) least most all =
    let rest = lawful_rates nodes (x + 1) rs (omega arith) (omega (arith, most)) all.1 in
    cond_both (same_reading r no_reading) (rates_from (x + 1) rs) (records.Rate x r.rate r.hops ∷ rates_from (x + 1) rs) (AreRecords nodes)
    (λ _. rest)
    (λ _. (((least, omega (arith, most)), all.0.0, all.0.1), rest))

-- the records of a snapshot of a lawful state are lawful, if its generation is a number and no more is acknowledged than a base may have
pub lawful_snapshot : (nodes generation : ℕ) (d : Durable) → 1 ≤ nodes → IsCount generation → length d.measures ≡ nodes → d.log.length ≤ MAX_BASE_ACKED → IsLawfulDurable nodes d → AreRecords nodes (snapshot generation d)
lawful_snapshot nodes generation d some count readings short ok =
    let P = IsRecord nodes in
    let acked : d.log.acked ≤ MAX_BASE_ACKED = omega (arith, ok.whole) in
    let head = all_append P (records.Snapshot generation ∷ entries d.table) (own_pair d) (count, lawful_entries nodes d.table ok.table) (lawful_pair nodes d ok.number ok.clients) in
    let asked = all_append P (records.Snapshot generation ∷ entries d.table ++ own_pair d) (last_ask d) head (lawful_last nodes d some ok.seq ok.mode) in
    let placed = all_append P (records.Snapshot generation ∷ entries d.table ++ own_pair d ++ last_ask d) (mode_records d.mode d) asked (lawful_mode_records nodes d.seq d.mode d ok.mode ok.rank acked ok.waiting) in
    let ranked = all_append P (records.Snapshot generation ∷ entries d.table ++ own_pair d ++ last_ask d ++ mode_records d.mode d) (rank_records d.mode d) placed (lawful_rank_records nodes d.mode d ok.rank) in
    let above = all_append P (records.Snapshot generation ∷ entries d.table ++ own_pair d ++ last_ask d ++ mode_records d.mode d ++ rank_records d.mode d) (ancestor_records d.ancestors) ranked (lawful_ancestor_records nodes d.ancestors ok.ancestors) in
    all_append P (records.Snapshot generation ∷ entries d.table ++ own_pair d ++ last_ask d ++ mode_records d.mode d ++ rank_records d.mode d ++ ancestor_records d.ancestors) (rates_from 1 d.measures) above (lawful_rates nodes 1 d.measures (omega arith) (omega (arith, readings)) ok.measures)

-- a list that is the snapshot is lawful too
pub lawful_list : (nodes generation : ℕ) (d : Durable) (list : List Record) → 1 ≤ nodes → length d.measures ≡ nodes → IsLawfulDurable nodes d → list ≡ snapshot generation d → IsCount generation → d.log.length ≤ MAX_BASE_ACKED → AreRecords nodes list
lawful_list nodes generation d list some readings ok e = λ count short. subst (λ (rs : List Record). AreRecords nodes rs) (sym e) (lawful_snapshot nodes generation d some count readings short ok)
