-- Each record of a snapshot has a spelling.
use Rattle.std.proofs.Common.{◌≡◌, ℕ, ◌+◌, ◌≤◌, ◌==◌, Option, Some, None, List, [], ◌∷◌, ◌++◌, length, map, sym, subst, arith}
use Rattle.std.specs.Prelude.{option_to_list}
use Rattle.std.proofs.lemmas.Bool.{cond_both}
use Rattle.oc_base.specs.declared.cert.Cert.{Cert}
use Rattle.oc_base.specs.declared.rank.Rank.{Rank}
use Rattle.oc_base.specs.declared.limits.TheConstants.{MAX_ANCESTORS}
use Rattle.oc_base.proofs.Each.{all_append}
use Rattle.oc_model.specs.declared.mode.Mode.{Mode}
use Rattle.oc_model.specs.declared.mode.Mode.TheVariants as modes
use Rattle.oc_model.specs.declared.reading.Reading.{Reading}
use Rattle.oc_model.specs.declared.record.Record.{Record}
use Rattle.oc_model.specs.declared.record.Record.TheVariants as records
use Rattle.oc_model.specs.Measures.{same_reading}
use Rattle.oc_model.specs.Node.{Control, Durable, no_reading}
use Rattle.oc_model.specs.Snapshot.{entries, own_pair, last_ask, peer_or_first, mode_records, rank_records, ancestor_records, rates_from, snapshot}
use Rattle.oc_record.specs.Spelling.{HasSpelling, HaveSpellings}
use Rattle.oc_step.specs.NodeView.{IsReached}

spelled_entries : (cs : List Cert) → HaveSpellings (entries cs)
spelled_entries [] = tt
spelled_entries (c ∷ cs) = (tt, spelled_entries cs)

spelled_rates : (x : ℕ) (rs : List Reading) → HaveSpellings (rates_from x rs)
spelled_rates x [] = tt
spelled_rates x (r ∷ rs) = cond_both (same_reading r no_reading) (rates_from (x + 1) rs) (records.Rate x r.rate r.hops ∷ rates_from (x + 1) rs) HaveSpellings (λ _. spelled_rates (x + 1) rs) (λ _. (tt, spelled_rates (x + 1) rs))

spelled_ranks : (rs : Option Rank) → HaveSpellings (map (λ r. records.Ranked r) (option_to_list rs))
spelled_ranks None = tt
spelled_ranks (Some r) = (tt, tt)

spelled_rank : (m : Mode) (d : Durable) → HaveSpellings (rank_records m d)
spelled_rank modes.Idle d = spelled_ranks d.rank
spelled_rank (modes.Asking p) d = spelled_ranks d.rank
spelled_rank (modes.Joined p) d = tt
spelled_rank modes.Acting d = spelled_ranks d.rank

spelled_mode : (m : Mode) (d : Durable) → HaveSpellings (mode_records m d)
spelled_mode modes.Idle d = cond_both (d.seq == 0) [] (records.Lost ∷ []) HaveSpellings (λ _. tt) (λ _. (tt, tt))
spelled_mode (modes.Asking p) d = tt
spelled_mode (modes.Joined p) d = (tt, (tt, spelled_entries d.log.waiting))
spelled_mode modes.Acting d = (tt, tt)

-- the number of ancestors fits two bytes
spelled_ancestors : (xs : List ℕ) → length xs ≤ MAX_ANCESTORS → HaveSpellings (ancestor_records xs)
spelled_ancestors [] few = tt
spelled_ancestors (x ∷ xs) few = (omega (arith, few), tt)

spelled_snapshot : (g : ℕ) (d : Durable) → length d.ancestors ≤ MAX_ANCESTORS → HaveSpellings (snapshot g d)
spelled_snapshot g d few =
    let a1 = records.Snapshot g ∷ entries d.table in
    let a2 = a1 ++ own_pair d in
    let a3 = a2 ++ last_ask d in
    let a4 = a3 ++ mode_records d.mode d in
    let a5 = a4 ++ rank_records d.mode d in
    let a6 = a5 ++ ancestor_records d.ancestors in
    let own : HaveSpellings (own_pair d) = cond_both (d.number == 0) [] (records.Info d.number d.clients ∷ []) HaveSpellings (λ _. tt) (λ _. (tt, tt)) in
    let ask : HaveSpellings (last_ask d) = cond_both (d.seq == 0) [] (records.Ask d.seq (peer_or_first d.mode) ∷ []) HaveSpellings (λ _. tt) (λ _. (tt, tt)) in
    let first : HaveSpellings a1 = (tt, spelled_entries d.table) in
    let second : HaveSpellings a2 = all_append HasSpelling a1 (own_pair d) first own in
    let third : HaveSpellings a3 = all_append HasSpelling a2 (last_ask d) second ask in
    let fourth : HaveSpellings a4 = all_append HasSpelling a3 (mode_records d.mode d) third (spelled_mode d.mode d) in
    let fifth : HaveSpellings a5 = all_append HasSpelling a4 (rank_records d.mode d) fourth (spelled_rank d.mode d) in
    let sixth : HaveSpellings a6 = all_append HasSpelling a5 (ancestor_records d.ancestors) fifth (spelled_ancestors d.ancestors few) in
    all_append HasSpelling a6 (rates_from 1 d.measures) sixth (spelled_rates 1 d.measures)

-- the records of the snapshot of a node as inputs and starts leave it have spellings
pub snapshots_spell : (n : Control) (list : List Record) → IsReached n → list ≡ snapshot 1 n.kept → HaveSpellings list
snapshots_spell n list reached is = subst HaveSpellings (sym is) (spelled_snapshot 1 n.kept reached.lawful.kept.ancestors.1)
