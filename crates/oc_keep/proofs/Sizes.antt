-- The number of bytes that records take in a frame.
use Rattle.std.proofs.Common.{◌≡◌, ℕ, ◌+◌, ◌*◌, ◌≤◌, ◌==◌, Option, Some, None, List, [], ◌∷◌, ◌++◌, length, map, refl, ap, ◌∙◌, arith}
use Rattle.std.specs.Prelude.{option_to_list}
use Rattle.std.specs.List.{flat_map, AllByRecursion}
use Rattle.std.proofs.lemmas.Bool.{cond_both}
use Rattle.std.proofs.lemmas.List.{length-append}
use Rattle.std.proofs.lemmas.List.Concat.{flat_map-cons}
use Rattle.oc_base.specs.declared.cert.Cert.{Cert}
use Rattle.oc_base.specs.declared.rank.Rank.{Rank}
use Rattle.oc_base.specs.declared.limits.TheConstants.{MAX_ANCESTORS, MAX_FRAME_BYTES, MAX_FRAME_RECORDS}
use Rattle.oc_model.specs.declared.mode.Mode.{Mode}
use Rattle.oc_model.specs.declared.mode.Mode.TheVariants as modes
use Rattle.oc_model.specs.declared.reading.Reading.{Reading}
use Rattle.oc_model.specs.declared.record.Record.{Record}
use Rattle.oc_model.specs.declared.record.Record.TheVariants as records
use Rattle.oc_model.specs.Measures.{same_reading}
use Rattle.oc_model.specs.Node.{Durable, no_reading}
use Rattle.oc_model.specs.Snapshot.{entries, own_pair, last_ask, peer_or_first, mode_records, rank_records, ancestor_records, rates_from, snapshot}
use Rattle.oc_model.proofs.Lists.{all_append}
use Rattle.oc_laws_step.specs.Frames.{FitsFrame}
use Rattle.oc_laws_step.specs.Sizes.{total, size_of}
use Rattle.oc_laws_step.proofs.Goes.{total-append}
use Rattle.oc_base.specs.Spelling.{four}
use Rattle.oc_record.specs.Spelling.{record_bytes, records_bytes}

-- four bytes for each id
ids_size : (ids : List ℕ) → length (flat_map four ids) ≡ 4 * length ids
ids_size [] = refl
ids_size (x ∷ ids) = ap length (flat_map-cons four x ids) ∙ (let rest = ids_size ids in omega (arith, rest))

-- the bytes of a record are as many as its size
record_size : (r : Record) → length (record_bytes r) ≡ size_of r
record_size (records.Ask s p) = refl
record_size (records.Joined p r) = refl
record_size records.Lost = refl
record_size records.Acting = refl
record_size (records.Ranked r) = refl
record_size (records.OldEntry x s p dead) = refl
record_size (records.Acked upto) = refl
record_size (records.Ancestors xs) = let ids = ids_size xs in omega (arith, ids)
record_size (records.Rate p rate hops) = refl
record_size (records.Epoch e) = refl
record_size (records.Base n) = refl
record_size (records.Snapshot g) = refl
record_size (records.Entry c) = refl
record_size (records.Info n c) = refl

-- the bytes of records are as many as their sizes together
pub records_size : (rs : List Record) → length (records_bytes rs) ≡ total size_of rs
records_size [] = refl
records_size (r ∷ rs) =
    ap length (flat_map-cons record_bytes r rs) ∙ length-append (record_bytes r) (records_bytes rs)
    ∙ ap (λ (n : ℕ). n + length (records_bytes rs)) (record_size r) ∙ ap (λ (n : ℕ). size_of r + n) (records_size rs)

pub frame_size : (rs : List Record) → FitsFrame rs → length (records_bytes rs) ≤ MAX_FRAME_BYTES
frame_size rs fits = omega (arith, records_size rs, fits.bytes)

-- a record takes at least one byte
size_least : (r : Record) → 1 ≤ size_of r
size_least (records.Ask s p) = omega arith
size_least (records.Joined p r) = omega arith
size_least records.Lost = omega arith
size_least records.Acting = omega arith
size_least (records.Ranked r) = omega arith
size_least (records.OldEntry x s p dead) = omega arith
size_least (records.Acked upto) = omega arith
size_least (records.Ancestors xs) = omega arith
size_least (records.Rate p rate hops) = omega arith
size_least (records.Epoch e) = omega arith
size_least (records.Base n) = omega arith
size_least (records.Snapshot g) = omega arith
size_least (records.Entry c) = omega arith
size_least (records.Info n c) = omega arith

-- the records are at most as many as their bytes
pub records_fewer : (rs : List Record) → length rs ≤ length (records_bytes rs)
records_fewer rs = omega (arith, records_size rs, by_sizes rs)
  where
    by_sizes : (rs : List Record) → length rs ≤ total size_of rs
    by_sizes [] = omega arith
    by_sizes (r ∷ rs) = omega (arith, size_least r, by_sizes rs)

-- Snapshots

-- a record of a snapshot other than a list of ancestors is small
abbrev IsSmall : Record → Type 0
IsSmall r = size_of r ≤ 34

small_total : (rs : List Record) → AllByRecursion IsSmall rs → total size_of rs ≤ 34 * length rs
small_total [] all = omega arith
small_total (r ∷ rs) all = let rest = small_total rs all.1 in omega (arith, rest, all.0)

small_entries : (cs : List Cert) → AllByRecursion IsSmall (entries cs)
small_entries [] = tt
small_entries (c ∷ cs) = (omega arith, small_entries cs)

small_rates : (x : ℕ) (rs : List Reading) → AllByRecursion IsSmall (rates_from x rs)
small_rates x [] = tt
small_rates x (r ∷ rs) = cond_both (same_reading r no_reading) (rates_from (x + 1) rs) (records.Rate x r.rate r.hops ∷ rates_from (x + 1) rs) (AllByRecursion IsSmall) (λ _. small_rates (x + 1) rs) (λ _. (omega arith, small_rates (x + 1) rs))

small_ranks : (rs : Option Rank) → AllByRecursion IsSmall (map (λ r. records.Ranked r) (option_to_list rs))
small_ranks None = tt
small_ranks (Some r) = (omega arith, tt)

small_rank : (m : Mode) (d : Durable) → AllByRecursion IsSmall (rank_records m d)
small_rank modes.Idle d = small_ranks d.rank
small_rank (modes.Asking p) d = small_ranks d.rank
small_rank (modes.Joined p) d = tt
small_rank modes.Acting d = small_ranks d.rank

small_mode : (m : Mode) (d : Durable) → AllByRecursion IsSmall (mode_records m d)
small_mode modes.Idle d = cond_both (d.seq == 0) [] (records.Lost ∷ []) (AllByRecursion IsSmall) (λ _. tt) (λ _. (omega arith, tt))
small_mode (modes.Asking p) d = tt
small_mode (modes.Joined p) d = (omega arith, (omega arith, small_entries d.log.waiting))
small_mode modes.Acting d = (omega arith, tt)

-- the ancestors take at most four bytes each, and three more
ancestors_total : (xs : List ℕ) → total size_of (ancestor_records xs) ≤ 3 + 4 * length xs
ancestors_total [] = omega arith
ancestors_total (x ∷ xs) = omega arith

-- the bytes of a snapshot, by its records and its ancestors
snapshot_total : (g : ℕ) (d : Durable) → total size_of (snapshot g d) ≤ 34 * length (snapshot g d) + 3 + 4 * length d.ancestors
snapshot_total g d =
    let a = records.Snapshot g ∷ entries d.table ++ own_pair d ++ last_ask d ++ mode_records d.mode d ++ rank_records d.mode d in
    let b = ancestor_records d.ancestors in
    let c = rates_from 1 d.measures in
    let own : AllByRecursion IsSmall (own_pair d) = cond_both (d.number == 0) [] (records.Info d.number d.clients ∷ []) (AllByRecursion IsSmall) (λ _. tt) (λ _. (omega arith, tt)) in
    let ask : AllByRecursion IsSmall (last_ask d) = cond_both (d.seq == 0) [] (records.Ask d.seq (peer_or_first d.mode) ∷ []) (AllByRecursion IsSmall) (λ _. tt) (λ _. (omega arith, tt)) in
    let first : AllByRecursion IsSmall (records.Snapshot g ∷ entries d.table) = (omega arith, small_entries d.table) in
    let a1 = records.Snapshot g ∷ entries d.table in
    let a2 = a1 ++ own_pair d in
    let a3 = a2 ++ last_ask d in
    let a4 = a3 ++ mode_records d.mode d in
    let small2 : AllByRecursion IsSmall a2 = all_append IsSmall a1 (own_pair d) first own in
    let small3 : AllByRecursion IsSmall a3 = all_append IsSmall a2 (last_ask d) small2 ask in
    let small4 : AllByRecursion IsSmall a4 = all_append IsSmall a3 (mode_records d.mode d) small3 (small_mode d.mode d) in
    let small : AllByRecursion IsSmall a = all_append IsSmall a4 (rank_records d.mode d) small4 (small_rank d.mode d) in
    omega (arith, small_total a small, ancestors_total d.ancestors, small_total c (small_rates 1 d.measures), total-append size_of a b, total-append size_of (a ++ b) c, length-append a b, length-append (a ++ b) c)

-- a snapshot with at most as many records as a frame may have fits in a frame
pub snapshot_fits : (g : ℕ) (d : Durable) → length d.ancestors ≤ MAX_ANCESTORS → length (snapshot g d) ≤ MAX_FRAME_RECORDS → length (records_bytes (snapshot g d)) ≤ MAX_FRAME_BYTES
snapshot_fits g d few short = omega (arith, records_size (snapshot g d), snapshot_total g d, few, short)

-- the number of a snapshot's records does not depend on its generation
pub snapshot_count : (g k : ℕ) (d : Durable) → length (snapshot g d) ≡ length (snapshot k d)
snapshot_count g k d = refl
