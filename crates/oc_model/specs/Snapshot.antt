use Rattle.std.specs.Prelude.{ℕ, ◌+◌, ◌==◌, if◌then◌else◌, List, [], ◌∷◌, ◌++◌, map, option_to_list}
use Rattle.oc_base.specs.declared.cert.Cert.{Cert}
use Rattle.oc_model.specs.declared.mode.Mode.{Mode}
use Rattle.oc_model.specs.declared.mode.Mode.TheVariants as modes
use Rattle.oc_model.specs.declared.reading.Reading.{Reading}
use Rattle.oc_model.specs.declared.record.Record.{Record}
use Rattle.oc_model.specs.declared.record.Record.TheVariants as records
use Rattle.oc_model.specs.Adoption.{rank_or_last}
use Rattle.oc_model.specs.Measures.{same_reading}
use Rattle.oc_model.specs.Node.{Durable, no_reading}

-- Snapshots: records that give one state, whatever the state before them.

abbrev pub entries : List Cert → List Record
entries cs = map (λ c. records.Entry c) cs

-- the record of own number and client count, for a node that ever counted clients
abbrev pub own_pair : Durable → List Record
own_pair d = if d.number == 0 then [] else records.Info d.number d.clients ∷ []

-- the peer of a mode, or node 1 for a mode without a peer
abbrev pub peer_or_first : Mode → ℕ
peer_or_first (modes.Asking p) = p
peer_or_first (modes.Joined p) = p
peer_or_first mode = 1

-- the record of the last ask, if there was one
abbrev pub last_ask : Durable → List Record
last_ask d = if d.seq == 0 then [] else records.Ask d.seq (peer_or_first d.mode) ∷ []

-- the records of a mode, for a node whose last ask is recorded; for a joined node those of its log too
abbrev pub mode_records : Mode → Durable → List Record
mode_records modes.Idle d = if d.seq == 0 then [] else records.Lost ∷ []
mode_records (modes.Asking p) d = []
mode_records (modes.Joined p) d = records.Joined p (rank_or_last d.rank) ∷ records.Base d.log.acked ∷ entries d.log.waiting
mode_records modes.Acting d = records.Acting ∷ []

-- the record of the rank, if there is one that the mode's records do not tell
abbrev pub rank_records : Mode → Durable → List Record
rank_records (modes.Joined p) d = []
rank_records mode d = map (λ r. records.Ranked r) (option_to_list d.rank)

abbrev pub ancestor_records : List ℕ → List Record
ancestor_records [] = []
ancestor_records (x ∷ xs) = records.Ancestors (x ∷ xs) ∷ []

-- the records of the measures, of the peers from this number on
abbrev pub rates_from : ℕ → List Reading → List Record
rates_from x [] = []
rates_from x (r ∷ rs) = if same_reading r no_reading then rates_from (x + 1) rs else records.Rate x r.rate r.hops ∷ rates_from (x + 1) rs

-- the snapshot of a state, with this running number
abbrev pub snapshot : ℕ → Durable → List Record
snapshot generation d =
    records.Snapshot generation ∷ entries d.table ++ own_pair d ++ last_ask d ++ mode_records d.mode d ++ rank_records d.mode d
    ++ ancestor_records d.ancestors ++ rates_from 1 d.measures
