-- The bytes of the fields of binary formats. Numbers are big-endian.
use Rattle.std.specs.Prelude.{ℕ, Bool, if◌then◌else◌, List, [], ◌∷◌, ◌++◌, length}
use Rattle.std.specs.List.{flat_map}
use Rattle.std.specs.Int.{w16, w32, w64, to_be_bytes}
use Rattle.oc_base.specs.declared.cert.Cert.{Cert}
use Rattle.oc_base.specs.declared.rank.Rank.{Rank}

-- a number in two bytes
abbrev pub two : ℕ → List ℕ
two n = to_be_bytes w16 n

-- a number in four bytes
abbrev pub four : ℕ → List ℕ
four n = to_be_bytes w32 n

-- a number in eight bytes
abbrev pub eight : ℕ → List ℕ
eight n = to_be_bytes w64 n

-- a byte that is 0 or 1
abbrev pub flag : Bool → List ℕ
flag b = (if b then 1 else 0) ∷ []

-- epoch and depth
abbrev pub rank_bytes : Rank → List ℕ
rank_bytes rank = eight rank.epoch ++ four rank.depth

-- subject, ask number and parent, and whether the lease is dead
abbrev pub lease_bytes : ℕ → ℕ → ℕ → Bool → List ℕ
lease_bytes subject seq parent dead = four subject ++ eight seq ++ four parent ++ flag dead

-- a lease, the own number and the clients
abbrev pub cert_bytes : Cert → List ℕ
cert_bytes cert = lease_bytes cert.subject cert.seq cert.parent cert.dead ++ eight cert.number ++ eight cert.clients

-- the number of ids in two bytes, and each id
abbrev pub ids_bytes : List ℕ → List ℕ
ids_bytes ids = two (length ids) ++ flat_map four ids
