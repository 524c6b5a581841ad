-- The one spelling of each list of control records. Numbers are big-endian.
use Rattle.std.specs.Prelude.{ℕ, ◌^◌, ◌<◌, List, [], ◌∷◌, ◌++◌, length}
use Rattle.std.specs.List.{flat_map, AllByRecursion}
use Rattle.oc_base.specs.Spelling.{four, eight, rank_bytes, lease_bytes, cert_bytes, ids_bytes}
use Rattle.oc_model.specs.declared.record.Record.{Record}
use Rattle.oc_model.specs.declared.record.Record.TheVariants.{Ask, Joined, Lost, Acting, Ranked, OldEntry, Acked, Ancestors, Rate, Epoch, Base, Snapshot, Entry, Info}

-- the code of a record's kind
abbrev pub code_of : Record → ℕ
code_of (Ask seq peer) = 1
code_of (Joined peer rank) = 2
code_of Lost = 3
code_of Acting = 4
code_of (Ranked rank) = 5
code_of (OldEntry subject seq parent dead) = 6
code_of (Acked upto) = 7
code_of (Ancestors ids) = 8
code_of (Rate peer rate hops) = 9
code_of (Epoch epoch) = 10
code_of (Base acked) = 11
code_of (Snapshot generation) = 12
code_of (Entry cert) = 13
code_of (Info number clients) = 14

-- the fields of a record, one after another
abbrev pub fields_bytes : Record → List ℕ
fields_bytes (Ask seq peer) = eight seq ++ four peer
fields_bytes (Joined peer rank) = four peer ++ rank_bytes rank
fields_bytes Lost = []
fields_bytes Acting = []
fields_bytes (Ranked rank) = rank_bytes rank
fields_bytes (OldEntry subject seq parent dead) = lease_bytes subject seq parent dead
fields_bytes (Acked upto) = eight upto
fields_bytes (Ancestors ids) = ids_bytes ids
fields_bytes (Rate peer rate hops) = four peer ++ eight rate ++ hops ∷ []
fields_bytes (Epoch epoch) = eight epoch
fields_bytes (Base acked) = eight acked
fields_bytes (Snapshot generation) = eight generation
fields_bytes (Entry cert) = cert_bytes cert
fields_bytes (Info number clients) = eight number ++ eight clients

-- the code of the kind, and the fields
abbrev pub record_bytes : Record → List ℕ
record_bytes r = code_of r ∷ fields_bytes r

-- the records of a list, one after another
abbrev pub records_bytes : List Record → List ℕ
records_bytes records = flat_map record_bytes records

-- the number of ancestors fits two bytes
abbrev pub HasSpelling : Record → Type 0
HasSpelling (Ancestors ids) = length ids < 2 ^ 16
HasSpelling _ = Unit {0}

abbrev pub HaveSpellings : List Record → Type 0
HaveSpellings records = AllByRecursion HasSpelling records
