use Rattle.std.specs.Prelude.{◌≡◌, ℕ, ◌+◌, ◌-◌, Bool, not, ◌&&◌, nat_lt, nat_le, if◌then◌else◌, List, [], ◌∷◌, ◌++◌, length, take, drop}
use Rattle.oc_base.specs.declared.cert.Cert.{Cert}
use Rattle.oc_model.specs.Node.{Log}
use Rattle.oc_model.specs.Numbers.{IsAmong, is_empty}
use Rattle.oc_base.specs.declared.limits.TheConstants.{MAX_CHECK_IN_CERTS}

-- The change log: the certificates for the parent, in the order in which they came. Places are counted from its beginning.

-- a new log of the whole table, with nothing acknowledged
abbrev pub begun_with : List Cert → Log
begun_with t = record { length = length t; acked = 0; waiting = t }

-- the log with this certificate at its end
abbrev pub note : Log → Cert → Log
note l c = record { length = l.length + 1; acked = l.acked; waiting = l.waiting ++ c ∷ [] }

-- whether an acknowledgement up to this place is new: the place is past those acknowledged, and within the log
abbrev pub is_ahead : Log → ℕ → Bool
is_ahead l upto = nat_lt l.acked upto && nat_le upto l.length

-- the log, acknowledged up to this place
abbrev pub ack : Log → ℕ → Log
ack l upto = if is_ahead l upto then record { length = l.length; acked = upto; waiting = drop (upto - l.acked) l.waiting } else l

-- a log of this length that is acknowledged to its end
abbrev pub acked_whole : ℕ → Log
acked_whole n = record { length = n; acked = n; waiting = [] }

-- a certificate about x waits: the parent has not acknowledged it
abbrev pub IsWaiting : Log → ℕ → Type 0
IsWaiting l x = (c : Cert) × IsAmong c l.waiting × (c.subject ≡ x)

-- whether any certificate waits
abbrev pub waits : List Cert → Bool
waits cs = not (is_empty cs)

-- the certificates of the next check-in, and the place after them
abbrev pub next_certs : Log → List Cert
next_certs l = take MAX_CHECK_IN_CERTS l.waiting

abbrev pub place_after : Log → ℕ
place_after l = l.acked + length (next_certs l)
