use Rattle.std.specs.Prelude.{◌≡◌, ℕ, ◌-◌, ◌≤◌, ◌⊎◌, List, take}
use Rattle.oc_base.specs.declared.cert.Cert.{Cert}
use Rattle.oc_base.specs.declared.rank.Rank.{Rank}
use Rattle.oc_model.specs.declared.message.Body.TheVariants.{CheckIn, CheckAck}
use Rattle.oc_model.specs.declared.message.Message.{Message}
use Rattle.oc_model.specs.declared.mode.Mode.TheVariants.{Asking}
use Rattle.oc_model.specs.Certificates.{IsCovered}
use Rattle.oc_model.specs.Chains.{IsJoined}
use Rattle.oc_model.specs.ClaimsTree.{table_of, seq_of}
use Rattle.oc_model.specs.Node.{Log}
use Rattle.oc_model.specs.Numbers.{IsAmong}
use Rattle.oc_model.specs.World.{World, node, mode_of}

-- A parent knows the facts that it has acknowledged.

abbrev pub log_of : World → ℕ → Log
log_of w x = (node w x).control.kept.log

-- x checked in with y under this ask number, with these certificates, up to this place
abbrev pub HasCheckedInAmong : List Message → ℕ → ℕ → ℕ → ℕ → List Cert → Type 0
HasCheckedInAmong net x y s upto certs = (rate number clients : ℕ) × IsAmong (record { from = x; to = y; body = CheckIn s upto rate number clients certs }) net

abbrev pub HasCheckedIn : World → ℕ → ℕ → ℕ → ℕ → List Cert → Type 0
HasCheckedIn w x y s upto certs = HasCheckedInAmong w.net x y s upto certs

-- y acknowledged a check-in of x with this ask number, up to this place
abbrev pub HasAcknowledgedAmong : List Message → ℕ → ℕ → ℕ → ℕ → Type 0
HasAcknowledgedAmong net y x s upto = (r : Rank) × (ancestors : List ℕ) × IsAmong (record { from = y; to = x; body = CheckAck s upto r ancestors }) net

abbrev pub HasAcknowledged : World → ℕ → ℕ → ℕ → ℕ → Type 0
HasAcknowledged w y x s upto = HasAcknowledgedAmong w.net y x s upto

-- the waiting facts before this place of the whole log
abbrev pub before_place : Log → ℕ → List Cert
before_place l place = take (place - l.acked) l.waiting

-- no check-in has an ask number above the node's present one
abbrev pub CheckInsAreNumbered : World → Type 0
CheckInsAreNumbered w = (x y s upto : ℕ) (certs : List Cert) → HasCheckedIn w x y s upto certs → s ≤ seq_of w x

-- each acknowledgement answers a check-in with the same ask number and place
abbrev pub AcksAnswer : World → Type 0
AcksAnswer w = (y x s upto : ℕ) → HasAcknowledged w y x s upto → (certs : List Cert) × HasCheckedIn w x y s upto certs

-- a node that asks has neither sent a check-in with its present ask number, nor got an acknowledgement
abbrev pub AskersAreNew : World → Type 0
AskersAreNew w = (x p : ℕ) → mode_of w x ≡ Asking p →
    ((y upto : ℕ) (certs : List Cert) → HasCheckedIn w x y (seq_of w x) upto certs → ⊥)
    × ((y upto : ℕ) → HasAcknowledged w y x (seq_of w x) upto → ⊥)

-- each fact of a child's log before the place of a check-in is in the check-in, or its parent knows it or a later word
abbrev pub CheckInsTell : World → Type 0
CheckInsTell w = (x y upto : ℕ) (certs : List Cert) → IsJoined w x y → HasCheckedIn w x y (seq_of w x) upto certs →
    (upto ≤ (log_of w x).length) × ((f : Cert) → IsAmong f (before_place (log_of w x) upto) → IsAmong f certs ⊎ IsCovered (table_of w y) f)

-- the parent knows each fact before an acknowledged place, or a later word
abbrev pub AcksAreKnown : World → Type 0
AcksAreKnown w = (x y upto : ℕ) → IsJoined w x y → HasAcknowledged w y x (seq_of w x) upto →
    (upto ≤ (log_of w x).length) × ((f : Cert) → IsAmong f (before_place (log_of w x) upto) → IsCovered (table_of w y) f)

-- no log is acknowledged past its length
abbrev pub AckedAreWithin : World → Type 0
AckedAreWithin w = (x : ℕ) → (log_of w x).acked ≤ (log_of w x).length
